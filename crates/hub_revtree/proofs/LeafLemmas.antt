-- The first of the leaves, one branch more at a time.
use Rattle.std.proofs.Common.{◌≡◌, ℕ, suc, ◌-◌, ◌<◌, List, [], ◌∷◌, ◌++◌, length, reverse}
use Rattle.std.proofs.Common.{Bool, true, false, ap, refl, sym, ◌∙◌, arith}
use Rattle.std.specs.Prelude.{Option, Some, None, option_and_then, option_map}
use Rattle.std.specs.Prelude.{slice_get, drop, if◌then◌else◌, map}
use Rattle.std.specs.List.{list_any}
use Rattle.std.proofs.lemmas.List.{drop_all, reverse-append}
use Rattle.std.proofs.lemmas.Option.{same_Some, slice_get_past}
use Rattle.hub_model.specs.Revision.{Revision}
use Rattle.hub_model.specs.Journal.{Edit}
use Rattle.hub_model.specs.Leaves.{Leaf, is_behind_head, with_leaf, leaves_among}
use Rattle.hub_model.specs.Leaves.{comes_before, leaves_with, best_first, revisions_of}
use Rattle.hub_revtree.specs.declared.leaf.Winner.{Winner}
use Rattle.hub_revtree.specs.Branch.{Branch, edit_of, edits_in}
use Rattle.hub_revtree.specs.Winner.{winner_of, head_in, better_of, is_better_than, winners_of}
use Rattle.hub_revtree.proofs.BranchLemmas.{any_map}
use Rattle.hub_revtree.proofs.RunLemmas.{dropped_one}

abbrev one : Leaf → Winner
one leaf = record { rev = leaf.rev; deleted = leaf.edit.deleted }

-- the first of the leaves after one is put in its place
placed_first : (leaf : Leaf) (others : List Leaf)
    → winner_of (leaves_with leaf others) ≡ Some (better_of (one leaf) (winner_of others))
placed_first leaf [] = refl
placed_first leaf (other ∷ leaves) = from (comes_before leaf other)
  where
    from : (b : Bool)
        → winner_of (if b then (leaf ∷ other ∷ leaves) else (other ∷ leaves_with leaf leaves)) ≡ Some
        (if b then one leaf else one other)
    from true = refl
    from false = refl

-- the best leaf of some of the branches, where `all` says which heads are leaves
abbrev pub best_of : List Branch → List Branch → Option Winner
best_of all some = winner_of (best_first (leaves_among (edits_in all) (edits_in some)))

with_path : (edits : List Edit) (edit : Edit) (path : List Revision) (revision : Revision)
    (leaves : List Leaf)
    → slice_get path 0 ≡ Some revision → (b : Bool) → list_any (is_behind_head revision) edits ≡ b
    → winner_of (best_first (with_leaf edits edit path leaves))
    ≡ (if b then winner_of (best_first leaves)
    else Some (better_of (record { rev = revision; deleted = edit.deleted }) (winner_of (best_first leaves))))
with_path edits edit [] revision leaves h b is = absurd (cc)
with_path edits edit (other ∷ older) revision leaves h true is =
    rw (ap (λ z. list_any (is_behind_head z) edits) (same_Some other revision h) ∙ is) refl
with_path edits edit (other ∷ older) revision leaves h false is =
    rw (ap (λ z. list_any (is_behind_head z) edits) (same_Some other revision h) ∙ is)
    (placed_first (record { rev = other; edit = edit }) (best_first leaves)
    ∙ ap (λ z. Some (better_of (record { rev = z; deleted = edit.deleted }) (winner_of (best_first leaves))))
    (same_Some other revision h))

pub one_more : (all some : List Branch) (branch : Branch) (revision : Revision)
    → slice_get branch.path 0 ≡ Some revision
    → (b : Bool) → list_any (λ c. is_behind_head revision (edit_of c)) all ≡ b
    → best_of all (branch ∷ some)
    ≡ (if b then best_of all some
    else Some (better_of (record { rev = revision; deleted = branch.deleted }) (best_of all some)))
one_more all some branch revision h b is =
    with_path (edits_in all) (edit_of branch) branch.path revision
    (leaves_among (edits_in all) (edits_in some)) h b
    (any_map (is_behind_head revision) edit_of all ∙ is)

-- a head that is not above the best of the branches after it changes nothing
pub passed_over : (all some : List Branch) (branch : Branch) (revision : Revision) (best : Option Winner)
    → slice_get branch.path 0 ≡ Some revision → best_of all some ≡ best
    → is_better_than (record { rev = revision; deleted = branch.deleted }) best ≡ false
    → best_of all (branch ∷ some) ≡ best
passed_over all some branch revision None h same low = absurd (cc)
passed_over all some branch revision (Some winner) h same low =
    one_more all some branch revision h (list_any (λ c. is_behind_head revision (edit_of c)) all) refl
    ∙ from (list_any (λ c. is_behind_head revision (edit_of c)) all)
  where
    kept : Some (better_of (record { rev = revision; deleted = branch.deleted }) (best_of all some)) ≡ Some
        winner
    kept = rw (same, low) refl

    from : (b : Bool)
        → (if b then best_of all some
        else Some (better_of (record { rev = revision; deleted = branch.deleted }) (best_of all some)))
        ≡ Some winner
    from true = same
    from false = kept

-- a head that is above that best, and stands behind none, is the best
pub passed_by : (all some : List Branch) (branch : Branch) (revision : Revision) (best : Option Winner)
    → slice_get branch.path 0 ≡ Some revision
    → list_any (λ c. is_behind_head revision (edit_of c)) all ≡ false → best_of all some ≡ best
    → is_better_than (record { rev = revision; deleted = branch.deleted }) best ≡ true
    → best_of all (branch ∷ some) ≡ Some (record { rev = revision; deleted = branch.deleted })
passed_by all some branch revision None h leaf same high =
    one_more all some branch revision h false leaf ∙ rw same refl
passed_by all some branch revision (Some winner) h leaf same high =
    one_more all some branch revision h false leaf ∙ rw (same, high) refl

-- the leaves of some of the branches, in their order
abbrev pub found_of : List Branch → List Branch → List Winner
found_of all some = winners_of (leaves_among (edits_in all) (edits_in some))

found_with : (edits : List Edit) (edit : Edit) (path : List Revision) (revision : Revision)
    (leaves : List Leaf)
    → slice_get path 0 ≡ Some revision → (b : Bool) → list_any (is_behind_head revision) edits ≡ b
    → winners_of (with_leaf edits edit path leaves)
    ≡ (if b then winners_of leaves else
    (record { rev = revision; deleted = edit.deleted } ∷ winners_of leaves))
found_with edits edit [] revision leaves h b is = absurd (cc)
found_with edits edit (other ∷ older) revision leaves h true is =
    rw (ap (λ z. list_any (is_behind_head z) edits) (same_Some other revision h) ∙ is) refl
found_with edits edit (other ∷ older) revision leaves h false is =
    rw (ap (λ z. list_any (is_behind_head z) edits) (same_Some other revision h) ∙ is)
    (ap (λ (z : Revision). record { rev = z; deleted = edit.deleted } ∷ winners_of leaves)
    (same_Some other revision h))

found_more : (all some : List Branch) (branch : Branch) (revision : Revision)
    → slice_get branch.path 0 ≡ Some revision
    → (b : Bool) → list_any (λ c. is_behind_head revision (edit_of c)) all ≡ b
    → found_of all (branch ∷ some)
    ≡ (if b then found_of all some else
    (record { rev = revision; deleted = branch.deleted } ∷ found_of all some))
found_more all some branch revision h b is =
    found_with (edits_in all) (edit_of branch) branch.path revision
    (leaves_among (edits_in all) (edits_in some)) h b
    (any_map (is_behind_head revision) edit_of all ∙ is)

-- the revisions of the leaves
pub revs_of : (leaves : List Leaf) → map (λ w. w.rev) (winners_of leaves) ≡ revisions_of leaves
revs_of [] = refl
revs_of (leaf ∷ leaves) = ap (λ rs. leaf.rev ∷ rs) (revs_of leaves)

-- the branch of a number, with its head
pub head_there : (all : List Branch) (k : ℕ) (leaf : Winner)
    → option_and_then head_in (slice_get all k) ≡ Some leaf
    → (branch : Branch) × (slice_get all k ≡ Some branch) × (slice_get branch.path 0 ≡ Some leaf.rev)
    × (branch.deleted ≡ leaf.deleted)
head_there all k leaf h = from (slice_get all k) refl h
  where
    first : (branch : Branch) (maybe_revision : Option Revision)
        → option_map (λ z. record { rev = z; deleted = branch.deleted }) maybe_revision ≡ Some leaf
        → (maybe_revision ≡ Some leaf.rev) × (branch.deleted ≡ leaf.deleted)
    first branch None q = absurd (cc)
    first branch (Some z) q =
        let same : ◌≡◌ {A = Winner} (record { rev = z; deleted = branch.deleted }) leaf = same_Some _ leaf q
        in
        (ap (λ (winner : Winner). Some winner.rev) same, ap (λ (winner : Winner). winner.deleted) same)

    from : (maybe_branch : Option Branch) → slice_get all k ≡ maybe_branch
        → option_and_then head_in maybe_branch ≡ Some leaf
        → (branch : Branch) × (slice_get all k ≡ Some branch) × (slice_get branch.path 0 ≡ Some leaf.rev)
        × (branch.deleted ≡ leaf.deleted)
    from None e q = absurd (cc)
    from (Some branch) e q = let f = first branch (slice_get branch.path 0) q in (branch, e, f.0, f.1)

-- before the newest branch is read there is no best leaf, and no edit has the number behind the last
pub none_yet : (all : List Branch) (from number : ℕ) → from ≡ length all → number ≡ length all
    → (best_of all (drop from all) ≡ None) × (option_and_then head_in (slice_get all number) ≡ None)
none_yet all from number end past = (
  ap (best_of all) (drop_all from all (omega (arith, end))),
  ap (option_and_then head_in) (slice_get_past all number (omega (arith, past))),
)

-- going through the branches from the newest
module _ (all : List Branch) (at : ℕ) (leaf : Winner) (some : 0 < at)
    (head : option_and_then head_in (slice_get all (at - 1)) ≡ Some leaf) where
  abbrev here : (branch : Branch) × (slice_get all (at - 1) ≡ Some branch)
      × (slice_get branch.path 0 ≡ Some leaf.rev) × (branch.deleted ≡ leaf.deleted)
  here = head_there all (at - 1) leaf head

  one_left : drop (at - 1) all ≡ here.0 ∷ drop at all
  one_left =
      let next : suc (at - 1) ≡ at = omega (arith, some) in
      dropped_one all (at - 1) here.0 here.1 ∙ ap (λ n. here.0 ∷ drop n all) next

  as_leaf : ◌≡◌ {A = Winner} (record { rev = leaf.rev; deleted = here.0.deleted }) leaf
  as_leaf = ap (λ d. record { rev = leaf.rev; deleted = d }) here.3

  pub best_passed : (best : Option Winner) → best_of all (drop at all) ≡ best
      → is_better_than leaf best ≡ false → best_of all (drop (at - 1) all) ≡ best
  best_passed best same low =
      ap (best_of all) one_left
      ∙ passed_over all (drop at all) here.0 leaf.rev best here.2 same
      (ap (λ w. is_better_than w best) as_leaf ∙ low)

  pub best_behind : (best : Option Winner)
      → best_of all (drop at all) ≡ best → list_any (λ c. is_behind_head leaf.rev (edit_of c)) all ≡ true
      → best_of all (drop (at - 1) all) ≡ best
  best_behind best same behind =
      ap (best_of all) one_left ∙ one_more all (drop at all) here.0 leaf.rev here.2 true behind ∙ same

  pub best_taken : (best : Option Winner) → best_of all (drop at all) ≡ best
      → list_any (λ c. is_behind_head leaf.rev (edit_of c)) all ≡ false → is_better_than leaf best ≡ true
      → best_of all (drop (at - 1) all) ≡ Some leaf
  best_taken best same leads high =
      ap (best_of all) one_left
      ∙ passed_by all (drop at all) here.0 leaf.rev best here.2 leads same
      (ap (λ w. is_better_than w best) as_leaf ∙ high)
      ∙ ap Some as_leaf

  pub found_behind : (winners : List Winner) → winners ≡ reverse (found_of all (drop at all))
      → list_any (λ c. is_behind_head leaf.rev (edit_of c)) all ≡ true
      → winners ≡ reverse (found_of all (drop (at - 1) all))
  found_behind winners same behind =
      same
      ∙ ap reverse
      (sym (ap (found_of all) one_left ∙ found_more all (drop at all) here.0 leaf.rev here.2 true behind))

  pub found_taken : (winners : List Winner) → winners ≡ reverse (found_of all (drop at all))
      → list_any (λ c. is_behind_head leaf.rev (edit_of c)) all ≡ false
      → winners ++ leaf ∷ [] ≡ reverse (found_of all (drop (at - 1) all))
  found_taken winners same leads =
      ap (λ z. z ++ leaf ∷ []) same
      ∙ sym (ap reverse
      (ap (found_of all) one_left
      ∙ (found_more all (drop at all) here.0 leaf.rev here.2 false leads
      ∙ ap (λ w. w ∷ found_of all (drop at all)) as_leaf))
      ∙ reverse-append (leaf ∷ []) (found_of all (drop at all)))
