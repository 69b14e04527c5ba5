-- The current rows, and the edit that is shown of a revision, agree with their relations.
use Rattle.std.proofs.Common.{◌≡◌, ◌≢◌, ℕ, ◌+◌, List, [], ◌∷◌, ◌++◌, length, Bool}
use Rattle.std.proofs.Common.{true, false, inl, inr, sym, ap, subst, refl, arith}
use Rattle.std.specs.Prelude.{Contains, Option, Some, None, find}
use Rattle.std.specs.Str.{bytes_eq}
use Rattle.std.proofs.lemmas.Bool.{cases_Bool, both_ways}
use Rattle.std.proofs.lemmas.Option.{same_Some, none-some}
use Rattle.std.proofs.lemmas.Slice.Eq.{bytes_eq-Decides}
use Rattle.hub_model.specs.Revision.{Revision}
use Rattle.hub_model.specs.Path.{IsFirst, is_first}
use Rattle.hub_model.specs.Journal.{Edit, IsLegal, edits_of}
use Rattle.hub_model.specs.Leaves.{HasDoc}
use Rattle.hub_model.specs.Walk.{IsShown, is_head, shown_edit, shown_of}
use Rattle.hub_model.specs.Current.{Current, IsCurrent, current, current_from, is_edited}
use Rattle.hub_model.proofs.Lists.{contains_none, contains_here, contains_there, contains_cases}
use Rattle.hub_model.proofs.Legal.{first_in}
use Rattle.hub_model.proofs.Tests.{any_at, at_any, same_is, same_self, edits_in, in_edits}
use Rattle.hub_model.proofs.Rows.{from_cases, from_rest, from_head}
use Rattle.hub_model.proofs.Walks.{line_of_walk}

-- a search that finds an element, and a search that finds none
module _ {X : Type 0} (P : X → Bool) where
  pub find_is : (xs : List X) (x : X) → find P xs ≡ Some x → (P x ≡ true) × Contains xs x
  find_is [] x e = absurd (none-some x e)
  find_is (y ∷ xs) x e =
      elim (cases_Bool (P y)) [
        | inl t ↦
            let same : y ≡ x = same_Some y x (rw t at e) in
            (subst (λ z. P z ≡ true) same t, subst (λ z. Contains (y ∷ xs) z) same (contains_here y xs))
        | inr t ↦ let i = find_is xs x (rw t at e) in (i.0, contains_there y x xs i.1)
      ]

  pub find_not : (xs : List X) → find P xs ≡ None → (x : X) → Contains xs x → P x ≡ true → ⊥
  find_not [] e x c q = contains_none x c
  find_not (y ∷ xs) e x c q =
      elim (cases_Bool (P y)) [
        | inl t ↦ none-some y (sym (rw t at e))
        | inr t ↦ elim (contains_cases y x xs c) [
          | inl s ↦ both_ways _ t (subst (λ z. P z ≡ true) (sym s) q)
          | inr d ↦ find_not xs (rw t at e) x d q
        ]
      ]

pub head_is : (revisions : List Revision) (revision : Revision) → is_first revision revisions ≡ true
    → IsFirst revisions revision
head_is [] revision e = absurd (cc)
head_is (other ∷ revisions) revision e = sym (same_is revision other e)

pub is_head_from : (revisions : List Revision) (revision : Revision) → IsFirst revisions revision
    → is_first revision revisions ≡ true
is_head_from [] revision i = absurd i
is_head_from (other ∷ revisions) revision i =
    subst (λ z. is_first revision (z ∷ revisions) ≡ true) (sym i) (same_self revision)

-- the edit that is shown of a revision agrees with the relation
pub shown_is : (journal : List Edit) (id : List ℕ) (revision : Revision) (edit : Edit) → IsLegal journal
    → shown_edit journal id revision ≡ Some edit → IsShown journal id revision edit
shown_is journal id revision edit legal h = from (find (is_head revision) (edits_of journal id)) refl h
  where
    from : (maybe_edit : Option Edit) → find (is_head revision) (edits_of journal id) ≡ maybe_edit
        → shown_of journal id revision maybe_edit ≡ Some edit → IsShown journal id revision edit
    from None q u = absurd (cc)
    from (Some f) q u =
        let i = find_is (is_head revision) (edits_of journal id) f q in
        let p = edits_in journal id f i.1 in
        let head = head_is f.path revision i.0 in
        let w = line_of_walk journal id legal revision (f, p, first_in f.path revision head) in
        subst (IsShown journal id revision) (same_Some _ edit u)
        (record { named = refl; head = w.0; walk = w.1; doc = (f, p, head, refl, refl) })

pub shown_none : (journal : List Edit) (id : List ℕ) (revision : Revision) → shown_edit journal id revision ≡ None
    → (deleted : Bool) (body : List ℕ) → ¬ HasDoc journal id revision deleted body
shown_none journal id revision h deleted body d = from (find (is_head revision) (edits_of journal id)) refl h
  where
    from : (maybe_edit : Option Edit) → find (is_head revision) (edits_of journal id) ≡ maybe_edit
        → shown_of journal id revision maybe_edit ≡ None → ⊥
    from None q u =
        find_not (is_head revision) (edits_of journal id) q d.0 (in_edits journal id d.0 d.1)
        (is_head_from d.0.path revision d.2)
    from (Some f) q u = absurd (cc)

-- the current rows of edits that are numbered from n, as a relation
abbrev IsCurrentFrom : ℕ → List Edit → ℕ → List ℕ → Type 0
IsCurrentFrom n journal seq id =
    (edit : Edit) × (before later : List Edit) × (journal ≡ before ++ edit ∷ later)
    × (seq ≡ n + length before)
    × ((other : Edit) → Contains later other → other.id ≢ edit.id) × (edit.id ≡ id)

not_edited : (id : List ℕ) (later : List Edit) → is_edited id later ≡ false → (edit : Edit)
    → Contains later edit → edit.id ≢ id
not_edited id later h edit c e =
    both_ways _ h (at_any (λ (other : Edit). bytes_eq id other.id) later edit c
    ((bytes_eq-Decides id edit.id).1 (sym e)))

unedited : (id : List ℕ) (later : List Edit) → ((edit : Edit) → Contains later edit → edit.id ≢ id)
    → is_edited id later ≡ false
unedited id later h = elim (cases_Bool (is_edited id later)) [
  | inl t ↦
      absurd (let i = any_at (λ (other : Edit). bytes_eq id other.id) later t in
      h i.0 i.1 (sym ((bytes_eq-Decides id i.0.id).0 i.2)))
  | inr t ↦ t
]

from_is : (n : ℕ) (journal : List Edit) (row : Current) → Contains (current_from n journal) row
    → IsCurrentFrom n journal row.seq row.id
from_is n [] row h = absurd (contains_none row h)
from_is n (edit ∷ journal) row h =
    elim (from_cases n edit journal row h) [
      | inl p ↦ (
        edit,
        [],
        journal,
        refl,
        let s : n ≡ row.seq = ap (λ (z : Current). z.seq) p.1 in omega arith,
        not_edited edit.id journal p.0,
        ap (λ (z : Current). z.id) p.1,
      )
      | inr q ↦
          let i = from_is (n + 1) journal row q in
          (i.0, edit ∷ i.1, i.2, ap (λ (z : List Edit). edit ∷ z) i.3, omega (arith, i.4), i.5, i.6)
    ]

from_current : (n : ℕ) (before later : List Edit) (edit : Edit) (seq : ℕ)
    → seq ≡ n + length before → ((f : Edit) → Contains later f → f.id ≢ edit.id)
    → Contains (current_from n (before ++ edit ∷ later)) (record { seq = seq; id = edit.id })
from_current n [] later edit seq q h =
    subst (λ (k : ℕ). Contains (current_from n (edit ∷ later)) (record { seq = k; id = edit.id }))
    (omega arith)
    (from_head n edit later (unedited edit.id later h))
from_current n (other ∷ before) later edit seq q h =
    from_rest n other (before ++ edit ∷ later) (record { seq = seq; id = edit.id })
    (from_current (n + 1) before later edit seq (omega arith) h)

-- the current rows are the current entries of the journal
pub current_is : (journal : List Edit) (row : Current) → Contains (current journal) row
    → (edit : Edit) × IsCurrent journal row.seq edit × (edit.id ≡ row.id)
current_is journal row h =
    let i = from_is 1 journal row h in (i.0, (i.1, i.2, i.3, omega (arith, i.4), i.5), i.6)

pub is_current_from : (journal : List Edit) (n : ℕ) (edit : Edit) → IsCurrent journal n edit
    → Contains (current journal) (record { seq = n; id = edit.id })
is_current_from journal n edit (before, later, s, m, none) =
    subst (λ z. Contains (current z) (record { seq = n; id = edit.id }))
    (sym s) (from_current 1 before later edit n (omega arith) none)
