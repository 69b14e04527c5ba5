-- A document has at most one current row, so the first row of one listed document is this row or none.
use Rattle.std.proofs.Common.{◌≡◌, ℕ, ◌+◌, List, [], ◌∷◌, map, true, false, ◌&&◌, nat_eq, nat_lt, inl, inr}
use Rattle.std.proofs.Common.{refl, sym, ◌∙◌, ap, subst, Option, Some, None, find, option_map, Contains}
use Rattle.std.specs.Str.{bytes_eq}
use Rattle.std.proofs.lemmas.Bool.{both_ways, eqb-true}
use Rattle.std.proofs.lemmas.Option.{same_Some, none-some}
use Rattle.std.proofs.lemmas.Slice.Eq.{bytes_eq-Decides}
use Rattle.hub_model.specs.Current.{Current, current, current_from, is_edited}
use Rattle.hub_model.specs.Feed.{is_within}
use Rattle.hub_model.specs.Journal.{Edit, edits_of}
use Rattle.hub_model.proofs.Lists.{contains_none, contains_here, contains_there, contains_cases}
use Rattle.hub_model.proofs.Rows.{from_cases}
use Rattle.hub_model.proofs.Shown.{find_is}
use Rattle.hub_model.proofs.Tests.{any_at, or_left, or_right, in_edits}
use Rattle.hub_feed.specs.Reach.{first_listed}
use Rattle.hub_feed.proofs.ListedLemmas.{only_row, row_apart, no_row}

-- a current row is of an edited document
row_edited : (n : ℕ) (journal : List Edit) (row : Current) → Contains (current_from n journal) row
    → is_edited row.id journal ≡ true
row_edited n [] row h = absurd (contains_none row h)
row_edited n (edit ∷ later) row h =
    elim (from_cases n edit later row h) [
      | inl p ↦
          or_left (bytes_eq row.id edit.id) (is_edited row.id later)
          ((bytes_eq-Decides row.id edit.id).1 (sym (ap (λ (other : Current). other.id) p.1)))
      | inr q ↦ or_right (bytes_eq row.id edit.id) (is_edited row.id later) (row_edited (n + 1) later row q)
    ]

-- a document has at most one current row
once : (n : ℕ) (journal : List Edit) (row other : Current) → Contains (current_from n journal) row
    → Contains (current_from n journal) other → row.id ≡ other.id → row.seq ≡ other.seq
once n [] row other h i same = absurd (contains_none row h)
once n (edit ∷ later) row other h i same =
    elim (from_cases n edit later row h) [
      | inl p ↦ elim (from_cases n edit later other i) [
        | inl q ↦ sym (ap (λ (x : Current). x.seq) p.1) ∙ ap (λ (x : Current). x.seq) q.1
        | inr q ↦
            absurd (both_ways _ p.0
            (subst (λ (id : List ℕ). is_edited id later ≡ true)
            (sym same ∙ sym (ap (λ (x : Current). x.id) p.1)) (row_edited (n + 1) later other q)))
      ]
      | inr p ↦ elim (from_cases n edit later other i) [
        | inl q ↦
            absurd (both_ways _ q.0
            (subst (λ (id : List ℕ). is_edited id later ≡ true) (same ∙ sym (ap (λ (x : Current). x.id) q.1))
            (row_edited (n + 1) later row p)))
        | inr q ↦ once (n + 1) later row other p q same
      ]
    ]

-- an edit of the document of a current row
pub edit_of_row : (journal : List Edit) (row : Current) → Contains (current journal) row
    → (edit : Edit) × Contains journal edit × (edit.id ≡ row.id)
edit_of_row journal row h =
    let i = any_at (λ (edit : Edit). bytes_eq row.id edit.id) journal (row_edited 1 journal row h) in
    (i.0, i.1, sym ((bytes_eq-Decides row.id i.0.id).0 i.2))

-- the image of an element is in the image of its list
pub contains_map : {X Y : Type 0} (f : X → Y) (xs : List X) (x : X) → Contains xs x
    → Contains (map f xs) (f x)
contains_map f [] x h = absurd (contains_none x h)
contains_map f (y ∷ xs) x h =
    elim (contains_cases y x xs h) [
      | inl e ↦ subst (λ z. Contains (map f (y ∷ xs)) (f z)) e (contains_here (f y) (map f xs))
      | inr i ↦ contains_there (f y) (f x) (map f xs) (contains_map f xs x i)
    ]

-- the row of the document with this number, among rows that are shown with their ids
pub row_there : (show : ℕ × ℕ → Current) (index : List (ℕ × ℕ)) (rows : List Current)
    (k seq : ℕ) (id : List ℕ)
    → map show index ≡ rows
    → option_map (λ (other_row : ℕ × ℕ). other_row.0)
    (find (λ (other_row : ℕ × ℕ). nat_eq other_row.1 k) index) ≡ Some seq
    → ((other_row : ℕ × ℕ) → other_row.1 ≡ k → show other_row ≡ record { seq = other_row.0; id = id })
    → Contains rows (record { seq = seq; id = id })
row_there show index rows k seq id all at shown =
    from (find (λ (other_row : ℕ × ℕ). nat_eq other_row.1 k) index) refl at
  where
    from : (o : Option (ℕ × ℕ)) → find (λ (other_row : ℕ × ℕ). nat_eq other_row.1 k) index ≡ o
        → option_map (λ (other_row : ℕ × ℕ). other_row.0) o ≡ Some seq
        → Contains rows (record { seq = seq; id = id })
    from None e a = absurd (none-some seq a)
    from (Some other_row) e a =
        let i = find_is (λ (third_row : ℕ × ℕ). nat_eq third_row.1 k) index other_row e in
        let is : show other_row ≡ record { seq = seq; id = id } =
        shown other_row (eqb-true other_row.1 k i.0)
        ∙ ap (λ (n : ℕ). record { seq = n; id = id }) (same_Some other_row.0 seq a) in
        subst (λ (cs : List Current). Contains cs (record { seq = seq; id = id })) all
        (subst (λ (row : Current). Contains (map show index) row) is (contains_map show index other_row i.1))

-- the first row of one listed document that has a current row
module _ (journal : List Edit) (id : List ℕ) (seq place : ℕ) (bound : Option ℕ)
    (here : Contains (current journal) (record { seq = seq; id = id })) where
  same_row : (row : Current) → Contains (current journal) row → row.id ≡ id → row.seq ≡ seq
  same_row row h e = once 1 journal row (record { seq = seq; id = id }) h here e

  pub next_ahead : (nat_lt place seq && is_within bound seq) ≡ true
      → Some seq ≡ option_map (λ (row : Current). row.seq)
      (first_listed place bound (id ∷ []) (current journal))
  next_ahead t = only_row place bound id seq (current journal) here same_row t

  pub next_apart : (nat_lt place seq && is_within bound seq) ≡ false
      → None ≡ option_map (λ (row : Current). row.seq) (first_listed place bound (id ∷ []) (current journal))
  next_apart t = row_apart place bound id seq (current journal) same_row t

-- a listed document without a current row has no first row
pub next_unknown : (journal : List Edit) (id : List ℕ) (place : ℕ) (bound : Option ℕ)
    → ((row : Current) → Contains (current journal) row → row.id ≡ id → ⊥)
    → None ≡ option_map (λ (row : Current). row.seq) (first_listed place bound (id ∷ []) (current journal))
next_unknown journal id place bound none = no_row place bound id (current journal) none

-- a listed document without an edit has no first row
pub next_unedited : (journal : List Edit) (id : List ℕ) (place : ℕ) (bound : Option ℕ)
    → edits_of journal id ≡ []
    → None ≡ option_map (λ (row : Current). row.seq) (first_listed place bound (id ∷ []) (current journal))
next_unedited journal id place bound none =
    next_unknown journal id place bound (λ row h e.
    let i = edit_of_row journal row h in
    contains_none i.0 (subst (λ (edits : List Edit). Contains edits i.0) none
    (in_edits journal id i.0 (i.1, i.2 ∙ e))))
