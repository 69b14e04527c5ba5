-- The branches of a tree as a journal.
use Rattle.std.proofs.Common.{◌≡◌, ℕ, List, [], ◌∷◌, Bool, true, false, ap}
use Rattle.std.proofs.Common.{refl, sym, ◌∙◌, subst, ⊎_elim, not, inl, inr}
use Rattle.std.specs.Prelude.{IfSome, IfNone, Option, Some, None, slice_get}
use Rattle.std.specs.Prelude.{find, option_map, ◌↔◌, IsTrue, Contains}
use Rattle.std.specs.List.{list_any, list_all}
use Rattle.std.proofs.lemmas.Bool.{cases_Bool, and_parts, and_from, both_ways}
use Rattle.std.proofs.lemmas.Option.{same_Some}
use Rattle.std.proofs.lemmas.List.Folds.{list_all-map}
use Rattle.hub_model.specs.Revision.{Revision}
use Rattle.hub_model.specs.Path.{IsFirst, IsHistory, names, is_consistent, is_history, is_first}
use Rattle.hub_model.specs.Journal.{Edit, IsHead, IsKnown, IsAcceptable}
use Rattle.hub_model.specs.Journal.{IsLegal, edits_of, is_known, is_head_known}
use Rattle.hub_model.specs.Walk.{is_head}
use Rattle.hub_model.specs.Leaves.{Leaf, IsMarked, IsWinner, best_first}
use Rattle.hub_model.specs.Leaves.{leaves_among, leaves_of, revisions_of}
use Rattle.hub_model.proofs.Lists.{contains_none, contains_here, contains_there, contains_cases}
use Rattle.hub_model.proofs.Legal.{legal_sound, first_in, has_first}
use Rattle.hub_model.proofs.Tests.{edits_in as edits_in_of, same_is, same_self, known_is}
use Rattle.hub_model.proofs.Tests.{is_known_from, is_history_from, is_acceptable_from, acceptable_is}
use Rattle.hub_model.proofs.Leaves.{is_leaf_from}
use Rattle.hub_model.proofs.Sorted.{winner_is}
use Rattle.hub_model.proofs.Shown.{find_is, find_not}
use Rattle.hub_model.proofs.Drafts.{has_leaf}
use Rattle.hub_revtree.specs.declared.leaf.Winner.{Winner}
use Rattle.hub_revtree.specs.Branch.{Branch, edit_of, edits_in}
use Rattle.hub_revtree.specs.Tree.{HasKnownHead, IsRevTree, Tip, tip, tip_of}
use Rattle.hub_revtree.specs.Winner.{winner_of}
use Rattle.hub_revtree.proofs.BranchLemmas.{any_map}

-- all the branches are edits of the document whose id is left out
pub all_of_one : (branches : List Branch) → edits_of (edits_in branches) [] ≡ edits_in branches
all_of_one [] = refl
all_of_one (branch ∷ branches) = ap (λ es. edit_of branch ∷ es) (all_of_one branches)

pub rev_tree : (branches : List Branch) → IsLegal (edits_in branches) → IsRevTree (edits_in branches)
rev_tree branches legal = record { legal = legal; one = all_of_one branches }

pub leaves_by : (branches : List Branch)
    → leaves_of (edits_in branches) [] ≡ best_first (leaves_among (edits_in branches) (edits_in branches))
leaves_by branches = ap (λ es. best_first (leaves_among es es)) (all_of_one branches)

-- the same of a slice of the branches
pub sorted_by : (branches : List Branch) (edits : List Edit) → edits_in branches ≡ edits
    → best_first (leaves_among (edits_in branches) (edits_in branches)) ≡ leaves_of edits []
sorted_by branches edits same = sym (leaves_by branches) ∙ ap (λ z. leaves_of z []) same

pub known_by : (branches : List Branch) (revision : Revision)
    → is_known (edits_in branches) [] revision ≡ list_any (λ b. names b.path revision) branches
known_by branches revision =
    ap (λ es. list_any (λ (edit : Edit). names edit.path revision) es) (all_of_one branches)
    ∙ any_map (λ (edit : Edit). names edit.path revision) edit_of branches

knows_of : (branches : List Branch) (revision : Revision)
    → list_any (λ b. names b.path revision) branches ≡ true
    ↔ IsKnown (edits_in branches) [] revision
knows_of branches revision = (
  λ h. known_is (edits_in branches) [] revision (known_by branches revision ∙ h),
  λ k. sym (known_by branches revision) ∙ is_known_from (edits_in branches) [] revision k,
)

pub knows : (branches : List Branch) (revision : Revision) (b : Bool)
    → b ≡ list_any (λ c. names c.path revision) branches → IsTrue b
    ↔ IsKnown (edits_in branches) [] revision
knows branches revision b is = rw is (knows_of branches revision)

pub first_of : (revisions : List Revision) (revision : Revision) → slice_get revisions 0 ≡ Some revision
    → IsFirst revisions revision
first_of [] revision e = absurd (cc)
first_of (other ∷ revisions) revision e = same_Some other revision e

only_first : (revisions : List Revision) (revision other : Revision) → slice_get revisions 0 ≡ Some revision
    → IsFirst revisions other → revision ≡ other
only_first [] revision other e i = absurd i
only_first (y ∷ revisions) revision other e i = sym (same_Some y revision e) ∙ i

-- a path with this head, looked for in the branches
module _ (branches : List Branch) (path : List Revision) (revision : Revision)
    (head : slice_get path 0 ≡ Some revision)
    (known : Bool) (is : known ≡ list_any (λ b. names b.path revision) branches) where
  any_is : list_any (λ b. names b.path revision) branches ≡ known
  any_is = sym is

  pub head_known : known ≡ true → HasKnownHead (edits_in branches) path
  head_known h = (revision, first_of path revision head, (knows_of branches revision).0 (any_is ∙ h))

  pub head_new : known ≡ false → ¬ HasKnownHead (edits_in branches) path
  head_new h (r, i, k) =
      both_ways _ (any_is ∙ h)
      ((knows_of branches revision).1
      (subst (λ z. IsKnown (edits_in branches) [] z) (sym (only_first path revision r head i)) k))

  not_known : (revisions : List Revision) → slice_get revisions 0 ≡ Some revision → known ≡ false
      → not (is_head_known (edits_in branches) [] revisions) ≡ true
  not_known [] e h = refl
  not_known (other ∷ revisions) e h =
      ap not (ap (is_known (edits_in branches) []) (same_Some other revision e)
      ∙ (known_by branches revision ∙ (any_is ∙ h)))

  module _ (all : Bool) (agree : all ≡ list_all (λ b. is_consistent path b.path) branches) where
    agree_by : list_all (λ (e : Edit). is_consistent path e.path) (edits_of (edits_in branches) []) ≡ all
    agree_by =
        ap (λ es. list_all (λ (e : Edit). is_consistent path e.path) es) (all_of_one branches)
        ∙ (list_all-map (λ (e : Edit). is_consistent path e.path) edit_of branches ∙ sym agree)

    -- a path with a new head that agrees with all is taken
    pub acceptable : (deleted : Bool) (body : List ℕ) → IsLegal (edits_in branches) → IsHistory path
        → known ≡ false → all ≡ true
        → IsAcceptable (edits_in branches) (record { id = []; path = path; deleted = deleted; body = body })
    acceptable deleted body legal history new h =
        acceptable_is (edits_in branches)
        (record { id = []; path = path; deleted = deleted; body = body }) legal
        (and_from (is_history path) _ (is_history_from path history)
        (and_from _ _ (not_known path head new) (agree_by ∙ h)))

    -- a path that does not agree with all is not acceptable
    pub contradicts : (deleted : Bool) (body : List ℕ) → all ≡ false
        → ¬ IsAcceptable (edits_in branches) (record { id = []; path = path; deleted = deleted; body = body })
    contradicts deleted body h a =
        let p =
        and_parts (is_history path) _
        (is_acceptable_from (edits_in branches)
        (record { id = []; path = path; deleted = deleted; body = body }) a) in
        both_ways _ h (sym agree_by ∙ (and_parts _ _ p.1).1)

-- an item with the tip of a branch has the branch's mark and members
pub lent : {A : Type 0} (o : Option A) (rev : A → Revision) (deleted : A → Bool)
    (body : A → List ℕ) (maybe_branch : Option Branch)
    → option_map (λ e. tip (rev e) (deleted e) (body e)) o ≡ option_map
    (λ branch. tip_of (edit_of branch)) maybe_branch
    → (option_map deleted o ≡ option_map (λ branch. branch.deleted) maybe_branch)
    × (option_map body o ≡ option_map (λ branch. branch.body) maybe_branch)
lent None rev deleted body None e = (refl, refl)
lent None rev deleted body (Some branch) e = absurd (cc)
lent (Some x) rev deleted body None e = absurd (cc)
lent (Some x) rev deleted body (Some branch) e =
    let same : tip (rev x) (deleted x) (body x) ≡ tip_of (edit_of branch) = same_Some _ _ e in
    (ap (λ (t : Tip). Some t.deleted) same, ap (λ (t : Tip). Some t.body) same)

-- the mark of a head
module _ (branches : List Branch) (revision : Revision) where
  pub in_tree : (branches : List Branch) (branch : Branch) → Contains branches branch
      → Contains (edits_in branches) (edit_of branch)
  in_tree [] branch c = absurd (contains_none branch c)
  in_tree (other ∷ branches) branch c =
      ⊎_elim (λ v.
      subst (λ z. Contains (edits_in (other ∷ branches)) (edit_of z)) v
      (contains_here (edit_of other) (edits_in branches)))
      (λ d. contains_there (edit_of other) (edit_of branch) (edits_in branches) (in_tree branches branch d))
      (contains_cases other branch branches c)

  pub from_tree : (branches : List Branch) (edit : Edit) → Contains (edits_in branches) edit
      → (branch : Branch) × Contains branches branch × (edit_of branch ≡ edit)
  from_tree [] edit c = absurd (contains_none edit c)
  from_tree (branch ∷ branches) edit c =
      ⊎_elim (λ v. (branch, contains_here branch branches, v))
      (λ d. let i = from_tree branches edit d in (i.0, contains_there branch i.0 branches i.1, i.2))
      (contains_cases (edit_of branch) edit (edits_in branches) c)

  heads : (revisions : List Revision) → is_first revision revisions ≡ true → IsFirst revisions revision
  heads [] e = absurd (cc)
  heads (other ∷ revisions) e = sym (same_is revision other e)

  heads_from : (revisions : List Revision) → IsFirst revisions revision → is_first revision revisions ≡ true
  heads_from [] i = absurd i
  heads_from (other ∷ revisions) i =
      subst (λ z. is_first revision (z ∷ revisions) ≡ true) (sym i) (same_self revision)

  pub marked : (d : Bool) → option_map (λ b. b.deleted)
      (find (λ b. is_first revision b.path) branches) ≡ Some d → IsMarked (edits_in branches) [] revision d
  marked d h = from (find (λ b. is_first revision b.path) branches) refl h
    where
      from : (maybe_branch : Option Branch) → find (λ b. is_first revision b.path) branches ≡ maybe_branch
          → option_map (λ b. b.deleted) maybe_branch ≡ Some d → IsMarked (edits_in branches) [] revision d
      from None q e = absurd (cc)
      from (Some b) q e =
          let i = find_is (λ (branch : Branch). is_first revision branch.path) branches b q in
          (edit_of b, (in_tree branches b i.1, refl), heads b.path i.0, same_Some b.deleted d e)

  pub unmarked : option_map (λ b. b.deleted) (find (λ b. is_first revision b.path) branches) ≡ None
      → (d : Bool) → ¬ IsMarked (edits_in branches) [] revision d
  unmarked h d m = from (find (λ b. is_first revision b.path) branches) refl h
    where
      from : (maybe_branch : Option Branch) → find (λ b. is_first revision b.path) branches ≡ maybe_branch
          → option_map (λ b. b.deleted) maybe_branch ≡ None → ⊥
      from None q e =
          let i = from_tree branches m.0 m.1.0 in
          find_not (λ (branch : Branch). is_first revision branch.path) branches q i.0 i.1
          (heads_from i.0.path (subst (λ (edit : Edit). IsHead edit revision) (sym i.2) m.2))
      from (Some b) q e = absurd (cc)

-- an item with the tip of the branch that the revision heads has the revision's mark
pub marks : {A : Type 0} (branches : List Branch) (revision : Revision) (o : Option A) (rev : A → Revision)
    (deleted : A → Bool) (body : A → List ℕ)
    → option_map (λ e. tip (rev e) (deleted e) (body e)) o
    ≡ option_map (λ b. tip_of (edit_of b)) (find (λ b. is_first revision b.path) branches)
    → IfSome (option_map deleted o) (IsMarked (edits_in branches) [] revision)
    × IfNone (option_map deleted o) ((d : Bool) → ¬ IsMarked (edits_in branches) [] revision d)
marks branches revision None rev deleted body e = (
  tt,
  unmarked branches revision
      (sym (lent None rev deleted body (find (λ b. is_first revision b.path) branches) e).0),
)
marks branches revision (Some x) rev deleted body e = (
  marked branches revision (deleted x)
      (sym (lent (Some x) rev deleted body (find (λ b. is_first revision b.path) branches) e).0),
  tt,
)

pub wins : (edits : List Edit) → IsLegal edits → (winner : Winner)
    → winner_of (leaves_of edits []) ≡ Some winner → IsWinner edits [] winner.rev
wins edits legal winner h = (winner_is edits [] legal winner.rev).1 (first (leaves_of edits []) h)
  where
    first : (leaves : List Leaf) → winner_of leaves ≡ Some winner → IsFirst (revisions_of leaves) winner.rev
    first [] q = absurd (cc)
    first (l ∷ leaves) q = ap (λ (other : Winner). other.rev) (same_Some _ winner q)

-- a tree without a winner has no edit
pub none_wins : (edits : List Edit) → IsRevTree edits → winner_of (leaves_of edits []) ≡ None → edits ≡ []
none_wins [] tree h = refl
none_wins (edit ∷ edits) tree h =
    let first = has_first edit.path
    ((legal_sound (edit ∷ edits) tree.legal).paths edit (contains_here edit edits)) in
    let own = edits_in_of (edit ∷ edits) [] edit
    (subst (λ z. Contains z edit) (sym tree.one) (contains_here edit edits)) in
    let leaf = has_leaf (edit ∷ edits) tree.legal [] first.0 (edit, own, first_in edit.path first.0 first.1)
    in
    absurd (none (leaves_of (edit ∷ edits) []) h leaf.0 (is_leaf_from (edit ∷ edits) [] leaf.0 leaf.1))
  where
    none : (leaves : List Leaf) → winner_of leaves ≡ None → (revision : Revision)
        → Contains (revisions_of leaves) revision → ⊥
    none [] q revision c = contains_none revision c
    none (l ∷ leaves) q revision c = absurd (cc)

-- an item with that tip has the members of the edit that the revision heads
pub body_by : {A : Type 0} (branches : List Branch) (edits : List Edit) (revision : Revision) (o : Option A)
    (rev : A → Revision) (deleted : A → Bool) (body : A → List ℕ)
    → edits_in branches ≡ edits
    → option_map (λ e. tip (rev e) (deleted e) (body e)) o
    ≡ option_map (λ b. tip_of (edit_of b)) (find (λ b. is_first revision b.path) branches)
    → option_map body o ≡ option_map (λ e. e.body) (find (is_head revision) edits)
body_by branches edits revision o rev deleted body same e =
    (lent o rev deleted body (find (λ b. is_first revision b.path) branches) e).1
    ∙ among branches
    ∙ ap (λ z. option_map (λ e. e.body) (find (is_head revision) z)) same
  where
    among : (branches : List Branch)
        → option_map (λ b. b.body) (find (λ b. is_first revision b.path) branches)
        ≡ option_map (λ e. e.body) (find (is_head revision) (edits_in branches))
    among [] = refl
    among (b ∷ branches) = elim (cases_Bool (is_first revision b.path)) [
      | inl t ↦ rw t refl
      | inr t ↦ rw t (among branches)
    ]
