-- How far two lists of revisions are the same (own). An example: 5-e 4-d and 5-e 4-d 3-c are the same for 2
-- revisions. 5-e 4-d and 5-e 4-q differ, since their second revisions do.
use Rattle.std.specs.Prelude.{ℕ, suc, List, [], ◌∷◌, Option, Some, None, option_map, if◌then◌else◌}
use Rattle.hub_model.specs.Revision.{Revision, is_same}

-- How many revisions from the front on are the same in both lists, to the end of the shorter list; None where
-- a revision differs before that end. It is 2 for 5-e 4-d and 5-e 4-d 3-c, None for 5-e 4-d and 5-e 4-q, and
-- 0 for an empty list.
abbrev pub common : List Revision → List Revision → Option ℕ
common [] revisions = Some 0
common (revision ∷ others) [] = Some 0
common (revision ∷ others) (other ∷ revisions) =
    if is_same revision other then option_map suc (common others revisions) else None

-- the last of some revisions, if there is one
abbrev pub last_in : List Revision → Option Revision
last_in [] = None
last_in (revision ∷ []) = Some revision
last_in (revision ∷ other ∷ revisions) = last_in (other ∷ revisions)
