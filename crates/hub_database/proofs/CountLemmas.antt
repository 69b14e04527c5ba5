-- The number of documents of a journal that pass a test, with one edit more.
use Rattle.std.proofs.Common.{◌≡◌, ◌≢◌, ℕ, ◌+◌, ◌≤◌, List, [], ◌∷◌, ◌++◌, length, Bool, true, false, ap, refl}
use Rattle.std.proofs.Common.{sym, ◌∙◌, ◌&&◌, ◌||◌, not, arith, inl, inr, ◌⊎◌}
use Rattle.std.specs.Prelude.{count_by, if◌then◌else◌}
use Rattle.std.specs.Str.{bytes_eq}
use Rattle.std.proofs.lemmas.List.{append-nil}
use Rattle.std.proofs.lemmas.List.Elements.{filter-append}
use Rattle.std.proofs.lemmas.List.Folds.{list_any-append}
use Rattle.std.proofs.lemmas.List.Sums.{count_by-le-length, sum_by-cons}
use Rattle.hub_model.specs.Journal.{Edit, edits_of}
use Rattle.hub_model.specs.Leaves.{leaves_of, leaves_among, best_first}
use Rattle.hub_model.specs.Current.{Current, current_from, current, is_edited}
use Rattle.hub_model.specs.Row.{is_deleted}
use Rattle.hub_model.proofs.Lists.{same_text}
use Rattle.hub_model.proofs.Tests.{or_right}
use Rattle.hub_database.specs.Documents.{deleted_in, one_if}
use Rattle.hub_index.proofs.ListLemmas.{text_same, text_apart}
use Rattle.hub_database.proofs.ListLemmas.{or_none}

and_false : (b : Bool) → (b && false) ≡ false
and_false true = refl
and_false false = refl

and_true : (b : Bool) → (b && true) ≡ b
and_true true = refl
and_true false = refl

-- whether there is an edit
abbrev any_of : List Edit → Bool
any_of [] = false
any_of (edit ∷ edits) = true

pub text_turned : (a b : List ℕ) → bytes_eq a b ≡ bytes_eq b a
text_turned a b =
    elim (same_text a b) [
      | inl e ↦ text_same a b e ∙ sym (text_same b a (sym e))
      | inr n ↦ text_apart a b n ∙ sym (text_apart b a (λ e. n (sym e)))
    ]

-- a document is edited where it has an edit
edited_by : (q : List ℕ) (journal : List Edit) → is_edited q journal ≡ any_of (edits_of journal q)
edited_by q [] = refl
edited_by q (edit ∷ journal) =
    ap (λ b. b || is_edited q journal) (text_turned q edit.id)
    ∙ from (bytes_eq edit.id q) (edited_by q journal)
  where
    from : (b : Bool) → is_edited q journal ≡ any_of (edits_of journal q)
        → (b || is_edited q journal) ≡ any_of (if b then (edit ∷ edits_of journal q) else edits_of journal q)
    from true h = refl
    from false h = h

pub edited_none : (q : List ℕ) (journal : List Edit) → edits_of journal q ≡ [] → is_edited q journal ≡ false
edited_none q journal h = edited_by q journal ∙ ap any_of h

pub edited_some : (q : List ℕ) (journal : List Edit) → 1 ≤ length (edits_of journal q)
    → is_edited q journal ≡ true
edited_some q journal h = edited_by q journal ∙ from (edits_of journal q) h
  where
    from : (edits : List Edit) → 1 ≤ length edits → any_of edits ≡ true
    from [] h = absurd (omega arith)
    from (e ∷ edits) h = refl

-- the number of current rows whose id passes the test
abbrev rows_of : (List ℕ → Bool) → List Current → ℕ
rows_of P rows = count_by (λ c. P c.id) rows

one_more : (P : List ℕ → Bool) (row : Current) (rows : List Current)
    → rows_of P (row ∷ rows) ≡ rows_of P rows + one_if (P row.id)
one_more P row rows = sum_by-cons (λ (row : Current). if P row.id then 1 else 0) row rows ∙ from (P row.id)
  where
    from : (b : Bool) → (if b then 1 else 0) + rows_of P rows ≡ rows_of P rows + one_if b
    from true = omega arith
    from false = omega arith

step : (P : List ℕ → Bool) (n : ℕ) (edit : Edit) (journal : List Edit)
    → rows_of P (current_from n (edit ∷ journal))
    ≡ rows_of P (current_from (n + 1) journal) + one_if (not (is_edited edit.id journal) && P edit.id)
step P n edit journal = from (is_edited edit.id journal)
  where
    from : (b : Bool)
        → rows_of P
        (if b then current_from (n + 1) journal else
        (record { seq = n; id = edit.id } ∷ current_from (n + 1) journal))
        ≡ rows_of P (current_from (n + 1) journal) + one_if (not b && P edit.id)
    from true = omega arith
    from false = one_more P (record { seq = n; id = edit.id }) (current_from (n + 1) journal)

-- the count by another test, which differs for one document alone
same_sums : (a b : ℕ) (k p q : Bool) → a + one_if (k && q) ≡ b + one_if (k && p)
    → a + one_if (not k && p) + one_if q ≡ b + one_if (not k && q) + one_if p
same_sums a b true p q h = omega arith
same_sums a b false p q h = omega arith

swap : (P Q : List ℕ → Bool) (q : List ℕ) → ((i : List ℕ) → i ≢ q → P i ≡ Q i) → (n : ℕ) (journal : List Edit)
    → rows_of P (current_from n journal) + one_if (is_edited q journal && Q q)
    ≡ rows_of Q (current_from n journal) + one_if (is_edited q journal && P q)
swap P Q q same n [] = refl
swap P Q q same n (edit ∷ journal) =
    rw (step P n edit journal, step Q n edit journal)
    (from (same_text q edit.id) (swap P Q q same (n + 1) journal))
  where
    from : (q ≡ edit.id) ⊎ (q ≢ edit.id)
        → rows_of P (current_from (n + 1) journal) + one_if (is_edited q journal && Q q)
        ≡ rows_of Q (current_from (n + 1) journal) + one_if (is_edited q journal && P q)
        → rows_of P (current_from (n + 1) journal) + one_if (not (is_edited edit.id journal) && P edit.id)
        + one_if ((bytes_eq q edit.id || is_edited q journal) && Q q)
        ≡ rows_of Q (current_from (n + 1) journal) + one_if (not (is_edited edit.id journal) && Q edit.id)
        + one_if ((bytes_eq q edit.id || is_edited q journal) && P q)
    from (inl t) h =
        rw (← t, text_same q q refl)
        (same_sums (rows_of P (current_from (n + 1) journal)) (rows_of Q (current_from (n + 1) journal))
        (is_edited q journal) (P q) (Q q) h)
    from (inr d) h = rw (text_apart q edit.id d, same edit.id (λ t. d (sym t))) (omega arith)

-- the count with one edit more
push_sums : (a b : ℕ) (k p : Bool) → a + one_if (k && p) ≡ b + one_if p
    → a + 0 + one_if p ≡ b + one_if (not k && p) + one_if p
push_sums a b true p h = omega arith
push_sums a b false p h = omega arith

push : (P : List ℕ → Bool) (n : ℕ) (journal : List Edit) (edit : Edit)
    → rows_of P (current_from n (journal ++ edit ∷ [])) + one_if (is_edited edit.id journal && P edit.id)
    ≡ rows_of P (current_from n journal) + one_if (P edit.id)
push P n [] edit = omega (arith, one_more P (record { seq = n; id = edit.id }) [])
push P n (other ∷ journal) edit =
    rw (
      step P n other (journal ++ edit ∷ []),
      step P n other journal,
      list_any-append (λ (g : Edit). bytes_eq other.id g.id) journal (edit ∷ []),
    )
    (from (same_text edit.id other.id) (push P (n + 1) journal edit))
  where
    from : (edit.id ≡ other.id) ⊎ (edit.id ≢ other.id)
        → rows_of P (current_from (n + 1) (journal ++ edit ∷ [])) + one_if
        (is_edited edit.id journal && P edit.id)
        ≡ rows_of P (current_from (n + 1) journal) + one_if (P edit.id)
        → rows_of P (current_from (n + 1) (journal ++ edit ∷ []))
        + one_if (not (is_edited other.id journal || (bytes_eq other.id edit.id || false)) && P other.id)
        + one_if ((bytes_eq edit.id other.id || is_edited edit.id journal) && P edit.id)
        ≡ rows_of P (current_from (n + 1) journal) + one_if
        (not (is_edited other.id journal) && P other.id) + one_if (P edit.id)
    from (inl t) h =
        rw (← t, text_same edit.id edit.id refl, or_right (is_edited edit.id journal) true refl)
        (push_sums (rows_of P (current_from (n + 1) (journal ++ edit ∷ [])))
        (rows_of P (current_from (n + 1) journal))
        (is_edited edit.id journal) (P edit.id) h)
    from (inr d) h =
        rw (
          text_apart edit.id other.id d,
          text_apart other.id edit.id (λ t. d (sym t)),
          or_none (is_edited other.id journal),
        )
        (omega arith)

all_of : (rows : List Current) → rows_of (λ i. true) rows ≡ length rows
all_of [] = refl
all_of (row ∷ rows) = omega (arith, one_more (λ i. true) row rows, all_of rows)

-- the number of documents, with one edit more
pub documents_more : (journal : List Edit) (edit : Edit)
    → length (current (journal ++ edit ∷ [])) + one_if (is_edited edit.id journal) ≡ length
    (current journal) + 1
documents_more journal edit =
    omega (
      arith,
      push (λ i. true) 1 journal edit,
      all_of (current (journal ++ edit ∷ [])),
      all_of (current journal),
      ap one_if (and_true (is_edited edit.id journal)),
    )

abbrev deleted : List Edit → List ℕ → Bool
deleted journal i = is_deleted (leaves_of journal i)

deleted_if_edited : (journal : List Edit) (q : List ℕ)
    → (is_edited q journal && deleted journal q) ≡ deleted journal q
deleted_if_edited journal q =
    ap (λ b. b && deleted journal q) (edited_by q journal) ∙ from (edits_of journal q)
  where
    from : (edits : List Edit)
        → (any_of edits && is_deleted (best_first (leaves_among edits edits)))
        ≡ is_deleted (best_first (leaves_among edits edits))
    from [] = refl
    from (e ∷ edits) = refl

others_stay : (journal : List Edit) (edit : Edit) (i : List ℕ) → i ≢ edit.id
    → deleted journal i ≡ deleted (journal ++ edit ∷ []) i
others_stay journal edit i n =
    ap (λ es. is_deleted (best_first (leaves_among es es)))
    (sym (filter-append (λ (other : Edit). bytes_eq other.id i) journal (edit ∷ [])
    ∙ (ap (λ b. edits_of journal i ++ (if b then (edit ∷ []) else [])) (text_apart edit.id i (λ t. n (sym t)))
    ∙ append-nil (edits_of journal i))))

-- the number of documents with a deleted winner, with one edit more
pub deleted_more : (journal : List Edit) (edit : Edit)
    → deleted_in (journal ++ edit ∷ []) + one_if (is_deleted (leaves_of journal edit.id))
    ≡ deleted_in journal + one_if (is_deleted (leaves_of (journal ++ edit ∷ []) edit.id))
deleted_more journal edit =
    omega (
      arith,
      push (deleted (journal ++ edit ∷ [])) 1 journal edit,
      swap (deleted journal) (deleted (journal ++ edit ∷ [])) edit.id (others_stay journal edit) 1 journal,
      ap one_if (deleted_if_edited journal edit.id),
    )

-- a document with a deleted winner is counted
pub deleted_some : (journal : List Edit) (q : List ℕ)
    → one_if (is_deleted (leaves_of journal q)) ≤ deleted_in journal
deleted_some journal q =
    omega (
      arith,
      swap (deleted journal) (λ i. not (bytes_eq i q) && deleted journal i) q
          (λ i n. sym (ap (λ b. not b && deleted journal i) (text_apart i q n))) 1 journal,
      ap one_if
          (ap (λ b. is_edited q journal && (not b && deleted journal q)) (text_same q q refl)
          ∙ and_false (is_edited q journal)),
      ap one_if (deleted_if_edited journal q),
    )

pub deleted_few : (journal : List Edit) → deleted_in journal ≤ length (current journal)
deleted_few journal = count_by-le-length (λ (row : Current). deleted journal row.id) (current journal)

-- the rows that fail a test and the rows that pass it are all rows
left_of : (p : Current → Bool) (rows : List Current)
    → count_by (λ row. not (p row)) rows + count_by p rows ≡ length rows
left_of p [] = refl
left_of p (row ∷ rows) =
    rw (
      sum_by-cons (λ (row : Current). if not (p row) then 1 else 0) row rows,
      sum_by-cons (λ (row : Current). if p row then 1 else 0) row rows,
    )
    (from (p row) (left_of p rows))
  where
    from : (b : Bool) → count_by (λ row. not (p row)) rows + count_by p rows ≡ length rows
        → ((if not b then 1 else 0) + count_by (λ row. not (p row)) rows) +
        ((if b then 1 else 0) + count_by p rows)
        ≡ length (row ∷ rows)
    from true h = omega arith
    from false h = omega arith

pub live_in : (journal : List Edit)
    → count_by (λ row. not (is_deleted (leaves_of journal row.id)))
    (current journal) + deleted_in journal ≡ length (current journal)
live_in journal = left_of (λ (row : Current). deleted journal row.id) (current journal)
