-- The premises of a look at the stems of a tree (own). An example: the three stems of the example in `Stem`
-- are indexed without an index, and with one that leads to each of their revisions. Place 1 of stem 0 is that
-- of a revision, 1-a; place 2 of stem 0 is that of none.
use Rattle.std.specs.Prelude.{◌≡◌, ◌<◌, ◌≤◌, ◌-◌, ℕ, Bool, List, Option, Some, IfSome, IfNone, false, length}
use Rattle.std.specs.Prelude.{slice_get, take}
use Rattle.std.specs.List.{list_any}
use Rattle.hub_model.specs.Path.{IsPath}
use Rattle.hub_model.specs.Revision.{Revision}
use Rattle.hub_revtree.specs.Index.{IsIndexed}
use Rattle.hub_revtree.specs.Stem.{Stem, AreStems, IsWithin, chain_from, chains_of, has_revision, rev_at}
use Rattle.hub_revtree.specs.declared.index.Index.{Index}
use Rattle.hub_revtree.specs.declared.stem.Place.{Place}
use Rattle.hub_revtree.specs.declared.stem.Standing.{Standing}

-- these are stems of a tree, and one of them has this number
pub record IsNumberIn (list : List Stem) (number : ℕ) : Type 0 where
  pub stems : AreStems list
  pub within : number < length list

-- these are stems of a tree, and one of their revisions stands at the place
pub record IsPlaceIn (list : List Stem) (place : Place) : Type 0 where
  pub stems : AreStems list
  pub within : IsWithin list place

-- these are stems of a tree, and the index, if there is one, is an index of them
pub record AreIndexed (list : List Stem) (told : Option Index) : Type 0 where
  pub stems : AreStems list
  pub index : IsIndexed told list

-- A stem with this run and this standing may be the next one of the stems of a tree with its index, as above.
-- The run is a path. The stem stands on a place of the stems, or on nothing. Where it joins none, none of its
-- revisions is one of theirs.
pub record MayCome (list : List Stem) (told : Option Index) (run : List Revision) (standing : Standing) :
    Type 0 where
  pub stems : AreStems list
  pub index : IsIndexed told list
  pub path : IsPath run
  pub within : IfSome standing.parent (IsWithin list)
  pub fresh : standing.joins ≡ false → list_any (has_revision list) run ≡ false

-- How a path that may be stored meets the stems. Its edit's stem keeps the first `at` revisions of the path.
-- Where it joins none, none of these is one of the stems'. The path's next revision, if there is one, stands
-- at the place. The chain of the place has `behind` revisions from there on, and the rest of the path is no
-- longer. An example: the path 4-f 3-c 2-b 1-a meets the three stems above after 1 revision, at place 0 of
-- stem 1, where the chain has 3 revisions left. It joins none.
pub record IsMeeting (list : List Stem) (path : List Revision) (at : ℕ) (place : Option Place) (behind : ℕ)
    (joins : Bool) : Type 0 where
  pub kept : at ≤ length path
  pub within : IfSome place (IsWithin list)
  pub same : IfSome place (λ p. slice_get path at ≡ rev_at list (Some p))
  pub long : behind ≡ length (chain_from (chains_of list) place)
  pub rest : length path - at ≤ behind
  pub none : IfNone place (at ≡ length path)
  pub fresh : joins ≡ false → list_any (has_revision list) (take at path) ≡ false
