-- How many different revisions a tree has (own). An example: edits with the paths 2-b 1-a, then 3-c 2-b 1-a,
-- then 3-d 2-e 1-a. The first brings 2-b and 1-a, the second 3-c, the third 3-d and 2-e. So the count is 5.
use Rattle.std.specs.Prelude.{ℕ, ◌+◌, List, [], ◌∷◌, ◌++◌, length}
use Rattle.hub_model.specs.Journal.{Edit}
use Rattle.hub_model.specs.Missing.{unknown_revisions}

-- how many revisions the later edits name that the earlier ones do not, each counted once. All are edits of
-- the document whose id is left out. In the example above, with the first of the three as the earlier one,
-- the count is 3 for the others: 3-c, and 3-d with 2-e.
abbrev pub count_after : List Edit → List Edit → ℕ
count_after earlier [] = 0
count_after earlier (edit ∷ later) =
    length (unknown_revisions earlier [] edit.path) + count_after (earlier ++ edit ∷ []) later

-- how many different revisions the edits name
abbrev pub revision_count : List Edit → ℕ
revision_count edits = count_after [] edits
