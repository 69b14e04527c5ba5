-- Leaves below a generation: they are found by the branches, and to put leaves in order neither loses nor
-- adds one.
use Rattle.std.proofs.Common.{◌≡◌, ℕ, ◌+◌, ◌<◌, List, [], ◌∷◌, length, get_or, Bool, true, false}
use Rattle.std.proofs.Common.{inl, inr, ap, ap₂, refl, sym, ◌∙◌, subst, ◌||◌, ◌&&◌, not, arith}
use Rattle.std.specs.Prelude.{Option, None, Some, option_and_then, option_map}
use Rattle.std.specs.Prelude.{slice_get, if◌then◌else◌, drop, take, filter, max, nat_lt}
use Rattle.std.specs.List.{list_any}
use Rattle.std.proofs.lemmas.Bool.{cases_Bool, lt-ltb}
use Rattle.std.proofs.lemmas.List.{drop_more}
use Rattle.std.proofs.lemmas.Option.{same_Some}
use Rattle.hub_model.specs.Revision.{Revision}
use Rattle.hub_model.specs.Path.{names}
use Rattle.hub_model.specs.Journal.{Edit}
use Rattle.hub_model.specs.Leaves.{Leaf, is_behind_head, with_leaf, leaves_among}
use Rattle.hub_model.specs.Leaves.{comes_before, leaves_with, best_first, leaves_of, revisions_of}
use Rattle.hub_model.specs.Missing.{highest, unknown_revisions, possible_ancestors}
use Rattle.hub_revtree.specs.Branch.{Branch, edit_of, edits_in, unnamed_in}
use Rattle.hub_revtree.specs.declared.leaf.Winner.{Winner}
use Rattle.hub_revtree.specs.Winner.{has_below, head_in}
use Rattle.hub_revtree.proofs.BranchLemmas.{any_map}
use Rattle.hub_revtree.proofs.LeafLemmas.{head_there}
use Rattle.hub_revtree.proofs.StemLemmas.{any_at, none_more}
use Rattle.hub_revtree.proofs.TreeLemmas.{sorted_by}
use Rattle.hub_revtree.proofs.LineLemmas.{missing_by}

module _ (g : ℕ) where
  or_turned : (a b c : Bool) → (b || (a || c)) ≡ (a || (b || c))
  or_turned true true c = refl
  or_turned true false c = refl
  or_turned false b c = refl

  below_if : (b : Bool) (leaves others : List Leaf) (z : Bool) → has_below g leaves ≡ z
      → has_below g others ≡ z → has_below g (if b then leaves else others) ≡ z
  below_if true leaves others z p q = p
  below_if false leaves others z p q = q

  placed_below : (leaf : Leaf) (others : List Leaf)
      → has_below g (leaves_with leaf others) ≡ (nat_lt leaf.rev.generation g || has_below g others)
  placed_below leaf [] = refl
  placed_below leaf (other ∷ leaves) =
      below_if (comes_before leaf other) (leaf ∷ other ∷ leaves) (other ∷ leaves_with leaf leaves) _ refl
      (ap (λ b. nat_lt other.rev.generation g || b) (placed_below leaf leaves)
      ∙ or_turned (nat_lt leaf.rev.generation g) (nat_lt other.rev.generation g) (has_below g leaves))

  best_below : (leaves : List Leaf) → has_below g (best_first leaves) ≡ has_below g leaves
  best_below [] = refl
  best_below (leaf ∷ leaves) =
      placed_below leaf (best_first leaves) ∙ ap (λ b. nat_lt leaf.rev.generation g || b) (best_below leaves)

  with_below : (edits : List Edit) (edit : Edit) (path : List Revision) (leaves : List Leaf)
      → has_below g (with_leaf edits edit path leaves) ≡
      (has_below g (with_leaf edits edit path []) || has_below g leaves)
  with_below edits edit [] leaves = refl
  with_below edits edit (revision ∷ older) leaves =
      from (list_any (is_behind_head revision) edits) (nat_lt revision.generation g) refl
    where
      or_none : (a c : Bool) → (a || c) ≡ ((a || false) || c)
      or_none true c = refl
      or_none false c = refl

      from : (b low : Bool) → nat_lt revision.generation g ≡ low
          → has_below g (if b then leaves else (record { rev = revision; edit = edit } ∷ leaves))
          ≡ (has_below g (if b then [] else (record { rev = revision; edit = edit } ∷ [])) || has_below g
          leaves)
      from true low is = refl
      from false low is = or_none (nat_lt revision.generation g) (has_below g leaves)

  among_below : (all some : List Branch)
      → has_below g (leaves_among (edits_in all) (edits_in some))
      ≡ list_any (λ branch. has_below g (with_leaf (edits_in all) (edit_of branch) branch.path [])) some
  among_below all [] = refl
  among_below all (branch ∷ some) =
      with_below (edits_in all) (edit_of branch) branch.path (leaves_among (edits_in all) (edits_in some))
      ∙ ap (λ low. has_below g (with_leaf (edits_in all) (edit_of branch) branch.path []) || low)
      (among_below all some)

  -- the branches have a leaf below the generation where one of their heads is one
  pub some_branch : (branches : List Branch)
      → list_any (λ b. has_below g (with_leaf (edits_in branches) (edit_of b) b.path [])) branches
      ≡ has_below g (best_first (leaves_among (edits_in branches) (edits_in branches)))
  some_branch branches =
      sym (best_below (leaves_among (edits_in branches) (edits_in branches)) ∙ among_below branches branches)

  with_head : (edits : List Edit) (edit : Edit) (path : List Revision) (revision : Revision)
      → slice_get path 0 ≡ Some revision → (b : Bool) → list_any (is_behind_head revision) edits ≡ b
      → has_below g (with_leaf edits edit path []) ≡ (nat_lt revision.generation g && not b)
  with_head edits edit [] revision h b is = absurd (cc)
  with_head edits edit (other ∷ older) revision h true is =
      let t : list_any (is_behind_head other) edits ≡ true =
      subst (λ z. list_any (is_behind_head z) edits ≡ true) (sym (same_Some other revision h)) is in
      rw t (and_not (nat_lt revision.generation g))
    where
      and_not : (b : Bool) → false ≡ (b && false)
      and_not true = refl
      and_not false = refl
  with_head edits edit (other ∷ older) revision h false is =
      let t : list_any (is_behind_head other) edits ≡ false =
      subst (λ z. list_any (is_behind_head z) edits ≡ false) (sym (same_Some other revision h)) is in
      rw t
      (or_and (nat_lt other.generation g)
      ∙ ap (λ (z : Revision). nat_lt z.generation g && true) (same_Some other revision h))
    where
      or_and : (b : Bool) → (b || false) ≡ (b && true)
      or_and true = refl
      or_and false = refl

  -- the head of one branch
  head_below : (all : List Branch) (branch : Branch) (revision : Revision)
      → slice_get branch.path 0 ≡ Some revision
      → has_below g (with_leaf (edits_in all) (edit_of branch) branch.path [])
      ≡ (nat_lt revision.generation g && not (list_any (λ c. is_behind_head revision (edit_of c)) all))
  head_below all branch revision h =
      with_head (edits_in all) (edit_of branch) branch.path revision h
      (list_any (λ c. is_behind_head revision (edit_of c)) all)
      (any_map (is_behind_head revision) edit_of all)

  pub low_head : (all : List Branch) (branch : Branch) (revision : Revision)
      → slice_get branch.path 0 ≡ Some revision → revision.generation < g
      → not (list_any (λ c. is_behind_head revision (edit_of c)) all)
      ≡ has_below g (with_leaf (edits_in all) (edit_of branch) branch.path [])
  low_head all branch revision h low =
      sym (head_below all branch revision h ∙ rw (lt-ltb revision.generation g low) refl)

  -- where no leaf is below, no revision of a leaf is
  pub none_below : (leaves : List Leaf) → has_below g leaves ≡ false
      → filter (λ r. nat_lt r.generation g) (revisions_of leaves) ≡ []
  none_below [] f = refl
  none_below (leaf ∷ leaves) f = elim (cases_Bool (nat_lt leaf.rev.generation g)) [
    | inl t ↦ absurd (let e = rw t at f in cc)
    | inr t ↦ rw t (none_below leaves (rw t at f))
  ]

  -- where a leaf is below, a revision of a leaf is
  pub some_below : (leaves : List Leaf) → has_below g leaves ≡ true
      → ¬ (filter (λ r. nat_lt r.generation g) (revisions_of leaves) ≡ [])
  some_below [] s = absurd (cc)
  some_below (leaf ∷ leaves) s = elim (cases_Bool (nat_lt leaf.rev.generation g)) [
    | inl t ↦ λ e. absurd (let none = rw t at e in cc)
    | inr t ↦ λ e. some_below leaves (rw t at s) (rw t at e)
  ]

-- the greatest generation of the unnamed revisions, one revision at a time
module _ (branches : List Branch) (revs : List Revision) (i : ℕ) (revision : Revision) (low : i < length revs)
    (is : revision ≡ get_or revs i revision) where
  left : unnamed_in branches (drop i revs) ≡ unnamed_in branches (revision ∷ drop (i + 1) revs)
  left = ap (unnamed_in branches) (drop_more revs i revision low ∙ ap (λ s. s ∷ drop (i + 1) revs) (sym is))

  pub highest_named : (h all : ℕ)
      → list_any (λ b. names b.path revision) branches ≡ true
      → max h (highest (unnamed_in branches (drop i revs))) ≡ all
      → max h (highest (unnamed_in branches (drop (i + 1) revs))) ≡ all
  highest_named h all t so =
      let known : unnamed_in branches (revision ∷ drop (i + 1) revs) ≡ unnamed_in branches
      (drop (i + 1) revs) = rw t refl in
      sym (ap (λ rs. max h (highest rs)) (left ∙ known)) ∙ so

  pub highest_unnamed : (h all : ℕ) → list_any (λ b. names b.path revision) branches ≡ false
      → max h (highest (unnamed_in branches (drop i revs))) ≡ all
      → max (max revision.generation h) (highest (unnamed_in branches (drop (i + 1) revs))) ≡ all
  highest_unnamed h all f so =
      let new : unnamed_in branches (revision ∷ drop (i + 1) revs) ≡ revision
      ∷ unnamed_in branches (drop (i + 1) revs) = rw f refl in
      turned revision.generation h (highest (unnamed_in branches (drop (i + 1) revs)))
      ∙ (sym (ap (λ rs. max h (highest rs)) (left ∙ new)) ∙ so)
    where
      turned : (a b c : ℕ) → max (max a b) c ≡ max b (max a c)
      turned a b c = omega arith

-- the tree's reply, by its branches
module _ (branches : List Branch) (edits : List Edit) (same : edits_in branches ≡ edits)
    (revs : List Revision) (newest : ℕ)
    (is : newest ≡ highest (unnamed_in branches revs)) where
  highest_is : newest ≡ highest (unknown_revisions edits [] revs)
  highest_is = is ∙ ap highest (missing_by branches revs ∙ ap (λ z. unknown_revisions z [] revs) same)

  leaves_are : best_first (leaves_among (edits_in branches) (edits_in branches)) ≡ leaves_of edits []
  leaves_are = sorted_by branches edits same

  low_is : (low : Bool)
      → low ≡ list_any (λ b. has_below newest (with_leaf (edits_in branches) (edit_of b) b.path [])) branches
      → low ≡ has_below (highest (unknown_revisions edits [] revs)) (leaves_of edits [])
  low_is low h = h ∙ (some_branch newest branches ∙ ap₂ has_below highest_is leaves_are)

  pub no_ancestors : (low : Bool)
      → low ≡ list_any (λ b. has_below newest (with_leaf (edits_in branches) (edit_of b) b.path [])) branches
      → low ≡ false → possible_ancestors edits [] revs ≡ []
  no_ancestors low h none =
      none_below (highest (unknown_revisions edits [] revs)) (leaves_of edits []) (sym (low_is low h) ∙ none)

  pub some_ancestors : (low : Bool)
      → low ≡ list_any (λ b. has_below newest (with_leaf (edits_in branches) (edit_of b) b.path [])) branches
      → low ≡ true → ¬ (possible_ancestors edits [] revs ≡ [])
  some_ancestors low h some =
      some_below (highest (unknown_revisions edits [] revs)) (leaves_of edits []) (sym (low_is low h) ∙ some)

  pub these_ancestors : filter (λ r. nat_lt r.generation newest) (revisions_of (leaves_of edits []))
      ≡ possible_ancestors edits [] revs
  these_ancestors =
      ap (λ g. filter (λ r. nat_lt r.generation g) (revisions_of (leaves_of edits []))) highest_is

-- one branch by its number
pub low_at : (g : ℕ) (all : List Branch) (at : ℕ) (leaf : Winner)
    → option_and_then head_in (slice_get all at) ≡ Some leaf → leaf.rev.generation < g → (behind : Bool)
    → behind ≡ list_any (λ c. is_behind_head leaf.rev (edit_of c)) all
    → option_map (λ b. has_below g (with_leaf (edits_in all) (edit_of b) b.path [])) (slice_get all at)
    ≡ Some (not behind)
low_at g all at leaf head low behind is =
    let here = head_there all at leaf head in
    rw (here.1, is) (ap Some (sym (low_head g all here.0 leaf.rev here.2 low)))

-- the element of a number, and the result of its test
read_at : {A : Type 0} (P : A → Bool) (o : Option A) (b : Bool) → option_map P o ≡ Some b
    → (x : A) × (o ≡ Some x) × (P x ≡ b)
read_at P None b e = absurd (cc)
read_at P (Some x) b e = (x, refl, same_Some (P x) b e)

pub some_at : {A : Type 0} (P : A → Bool) (xs : List A) (k : ℕ) (b : Bool)
    → option_map P (slice_get xs k) ≡ Some b → b ≡ true → true ≡ list_any P xs
some_at P xs k b e t = let i = read_at P (slice_get xs k) b e in sym (any_at P xs k i.0 i.1 (i.2 ∙ t))

pub none_at : {A : Type 0} (P : A → Bool) (xs : List A) (k : ℕ) (b : Bool)
    → option_map P (slice_get xs k) ≡ Some b → b ≡ false → list_any P (take k xs) ≡ false
    → list_any P (take (k + 1) xs) ≡ false
none_at P xs k b e f none = let i = read_at P (slice_get xs k) b e in none_more P xs k i.0 i.1 none (i.2 ∙ f)
