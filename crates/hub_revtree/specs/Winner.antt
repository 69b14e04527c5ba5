-- The first of some leaves (CouchDB API reference, document revisions and conflicts).
use Rattle.std.specs.Prelude.{◌≡◌, ℕ, List, [], ◌∷◌, map, nat_lt, Bool, true, Option, Some, None}
use Rattle.std.specs.Prelude.{if◌then◌else◌, option_and_then, option_map, slice_get}
use Rattle.std.specs.List.{list_any}
use Rattle.std.specs.Ordering.{is_gt}
use Rattle.hub_model.specs.Journal.{Edit, IsLegal}
use Rattle.hub_model.specs.Leaves.{Leaf, is_behind_head, leaf_cmp, leaves_of}
use Rattle.hub_revtree.specs.Branch.{Branch, edit_of}
use Rattle.hub_revtree.specs.declared.leaf.Winner.{Winner}

-- the revision and the mark of the first of the leaves
abbrev pub winner_of : List Leaf → Option Winner
winner_of [] = None
winner_of (leaf ∷ others) = Some (record { rev = leaf.rev; deleted = leaf.edit.deleted })

-- the first revision of a branch with its mark, if there is one
abbrev pub head_in : Branch → Option Winner
head_in branch = option_map (λ r. record { rev = r; deleted = branch.deleted }) (slice_get branch.path 0)

-- The edit of this number has this head, and the mark says whether the head stands behind that of another
-- edit. Of edits with the paths 1-a and 2-b 1-a the first has the head 1-a, with true.
abbrev pub IsHeadAt : List Branch → ℕ → Winner → Bool → Type 0
IsHeadAt branches number head inner =
    (option_and_then head_in (slice_get branches number) ≡ Some head)
    × (list_any (λ b. is_behind_head head.rev (edit_of b)) branches ≡ inner)

-- The winner that a tree keeps is that of its edits, and these are legal. After edits with the paths 2-b 1-q,
-- which deletes, 2-a 1-q and 1-z the winner that is kept is 2-a. After the first of them alone it is 2-b,
-- deleted.
pub record HasWinner (edits : List Edit) (winner : Option Winner) : Type 0 where
  pub legal : IsLegal edits
  pub first : winner ≡ winner_of (leaves_of edits [])

-- whether a leaf is above the best of the others, if there are any. 1-z is above 2-b where 2-b alone is
-- deleted; no leaf is above itself.
abbrev pub is_better_than : Winner → Option Winner → Bool
is_better_than leaf None = true
is_better_than leaf (Some best) = is_gt (leaf_cmp leaf.deleted leaf.rev best.deleted best.rev)

-- the better of a leaf and the best of the others, if there are any
abbrev pub better_of : Winner → Option Winner → Winner
better_of leaf None = leaf
better_of leaf (Some best) =
    if is_gt (leaf_cmp leaf.deleted leaf.rev best.deleted best.rev) then leaf else best

-- the revisions and the marks of the leaves
abbrev pub winners_of : List Leaf → List Winner
winners_of leaves = map (λ leaf. record { rev = leaf.rev; deleted = leaf.edit.deleted }) leaves

-- whether one of the leaves is of a generation below this one
abbrev pub has_below : ℕ → List Leaf → Bool
has_below generation leaves = list_any (λ leaf. nat_lt leaf.rev.generation generation) leaves
