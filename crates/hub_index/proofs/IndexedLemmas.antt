-- The rows of an index that are the current ones of edits: with one edit more, and the reads of the index.
use Rattle.std.proofs.Common.{◌≡◌, ◌≢◌, ℕ, zero, suc, ◌+◌, ◌<◌, ◌≤◌, List, [], ◌∷◌, ◌++◌, length, Contains}
use Rattle.std.proofs.Common.{Bool, true, false, not, ◌&&◌, ap, refl, sym, ◌∙◌, subst, arith, inl, inr, ◌⊎◌}
use Rattle.std.proofs.Common.{nat_eq, nat_lt, find, filter, map, reverse}
use Rattle.std.specs.Prelude.{Option, Some, None, slice_get, option_map, if◌then◌else◌}
use Rattle.std.specs.List.{All}
use Rattle.std.specs.Str.{bytes_eq}
use Rattle.std.proofs.lemmas.Bool.{both_ways, eqb-true, eq-eqb}
use Rattle.std.proofs.lemmas.List.{map-append}
use Rattle.std.proofs.lemmas.List.Elements.{All-contains_itself}
use Rattle.std.proofs.lemmas.Option.{same_Some, none-some}
use Rattle.hub_index.specs.Rows.{seq_of, rows_after_move, next_after, last_before, count_after}
use Rattle.hub_index.specs.Rows as index_rows
use Rattle.hub_index.specs.Indexed.{IsIndexed, id_in, row_in}
use Rattle.hub_index.proofs.ListLemmas.{text_same, text_apart, number_apart, at_place, contains_reverse}
use Rattle.hub_index.proofs.ListLemmas.{filter_shown, all_shown, map_reverse, find_map, count_map}
use Rattle.hub_model.specs.Journal.{Edit}
use Rattle.hub_model.specs.Current.{Current, current, current_from, pending}
use Rattle.hub_model.specs.Feed.{is_within}
use Rattle.hub_model.proofs.Lists.{same_number}
use Rattle.hub_model.proofs.Rows.{current_push, current_within, from_cases}
use Rattle.hub_model.proofs.Shown.{find_is}

-- the sequence of a number among rows, by whether the first row has this number
abbrev first_key : ℕ → ℕ × ℕ → List (ℕ × ℕ) → Bool → Option ℕ
first_key k row rows b =
    option_map (λ (other_row : ℕ × ℕ). other_row.0)
    (if b then Some row else find (λ (other_row : ℕ × ℕ). nat_eq other_row.1 k) rows)

-- where a number has no sequence, no row has the number
none_key : (rows : List (ℕ × ℕ)) (k : ℕ) → seq_of k rows ≡ None
    → (i : ℕ) (row : ℕ × ℕ) → slice_get rows i ≡ Some row → nat_eq row.1 k ≡ false
none_key [] k e i row g = absurd (none-some row g)
none_key (other_row ∷ rows) k e i row g = from (none_key rows k) (nat_eq other_row.1 k) refl e i g
  where
    from : (seq_of k rows ≡ None → (i : ℕ) (row : ℕ × ℕ) → slice_get rows i ≡ Some row
        → nat_eq row.1 k ≡ false)
        → (b : Bool) → nat_eq other_row.1 k ≡ b → first_key k other_row rows b ≡ None
        → (i : ℕ) → slice_get (other_row ∷ rows) i ≡ Some row → nat_eq row.1 k ≡ false
    from rest true t e i g = absurd (none-some other_row.0 (sym e))
    from rest false t e zero g =
        subst (λ (third_row : ℕ × ℕ). nat_eq third_row.1 k ≡ false) (same_Some other_row row g) t
    from rest false t e (suc i) g = rest e i row g

-- the sequence of number j among the rows of the numbers but k, with a row of k behind them
abbrev kept_key : ℕ → ℕ → ℕ → ℕ × ℕ → List (ℕ × ℕ) → Bool → Option ℕ
kept_key j k n row rows b =
    let others : List (ℕ × ℕ) = filter (λ (other_row : ℕ × ℕ). not (nat_eq other_row.1 k)) rows in
    seq_of j ((if not b then (row ∷ others) else others) ++ (n, k) ∷ [])

-- the sequence of a number that is moved
moved_here : (rows : List (ℕ × ℕ)) (k n : ℕ) → seq_of k (rows_after_move rows k n) ≡ Some n
moved_here [] k n = rw (eq-eqb k k refl) refl
moved_here (row ∷ rows) k n = from (moved_here rows k n) (nat_eq row.1 k) refl
  where
    from : seq_of k (rows_after_move rows k n) ≡ Some n → (b : Bool) → nat_eq row.1 k ≡ b
        → kept_key k k n row rows b ≡ Some n
    from rest true t = rest
    from rest false t = ap (first_key k row (rows_after_move rows k n)) t ∙ rest

-- the sequence of another number
moved_other : (rows : List (ℕ × ℕ)) (k n j : ℕ) → j ≢ k → seq_of j (rows_after_move rows k n) ≡ seq_of j rows
moved_other [] k n j h = rw (number_apart k j (λ e. h (sym e))) refl
moved_other (row ∷ rows) k n j h = from (moved_other rows k n j h) (nat_eq row.1 k) refl
  where
    from : seq_of j (rows_after_move rows k n) ≡ seq_of j rows → (b : Bool) → nat_eq row.1 k ≡ b
        → kept_key j k n row rows b ≡ first_key j row rows (nat_eq row.1 j)
    from rest true t =
        rest ∙ sym (ap (first_key j row rows) (number_apart row.1 j (λ e. h (sym e ∙ eqb-true row.1 k t))))
    from rest false t = here (nat_eq row.1 j)
      where
        here : (b : Bool) → first_key j row (rows_after_move rows k n) b ≡ first_key j row rows b
        here true = refl
        here false = rest

-- the edit of a current row
current_edit_from : (n : ℕ) (journal : List Edit) (row : Current) → Contains (current_from n journal) row
    → (i : ℕ) → row.seq ≡ n + i → (edit : Edit) × (slice_get journal i ≡ Some edit) × (edit.id ≡ row.id)
current_edit_from n [] row h i s = absurd (let w = current_within n [] row h in omega arith)
current_edit_from n (edit ∷ later) row h zero s =
    elim (from_cases n edit later row h) [
      | inl p ↦ (edit, refl, ap (λ (other : Current). other.id) p.1)
      | inr q ↦ absurd (let w = current_within (n + 1) later row q in omega (arith, w.0))
    ]
current_edit_from n (edit ∷ later) row h (suc i) s =
    elim (from_cases n edit later row h) [
      | inl p ↦ absurd (let q : n ≡ row.seq = ap (λ (other : Current). other.seq) p.1 in omega arith)
      | inr q ↦ current_edit_from (n + 1) later row q i (omega arith)
    ]

pub current_edit : (journal : List Edit) (row : Current) → Contains (current journal) row
    → (i : ℕ) → row.seq ≡ i + 1 → (edit : Edit) × (slice_get journal i ≡ Some edit) × (edit.id ≡ row.id)
current_edit journal row h i s = current_edit_from 1 journal row h i (omega (arith, s))

-- a current row lies at an edit
pub row_lies : (journal : List Edit) (seq : ℕ)
    → ((row : Current) × Contains (current journal) row × (row.seq ≡ seq))
    → (1 ≤ seq) × (seq ≤ length journal)
row_lies journal seq (row, h, s) =
    let w = current_within 1 journal row h in (omega (arith, w.0, s), omega (arith, w.1, s))

-- a place and a bound are looked at by the index and by a feed alike
within_same : (bound : Option ℕ) (place seq : ℕ)
    → index_rows.is_within place bound seq ≡ (nat_lt place seq && is_within bound seq)
within_same None place seq = sym (and_true (nat_lt place seq))
  where
    and_true : (b : Bool) → (b && true) ≡ b
    and_true true = refl
    and_true false = refl
within_same (Some b) place seq = refl

module _ (ids : ℕ → Option (List ℕ × ℕ)) (journal : List Edit) (index : List (ℕ × ℕ))
    (ix : IsIndexed ids journal index) where
  -- a row's number has an id
  row_known : (i : ℕ) (row : ℕ × ℕ) → slice_get index i ≡ Some row → (p : List ℕ × ℕ) × (ids row.1 ≡ Some p)
  row_known i row g = from (ids row.1) refl
    where
      from : (o : Option (List ℕ × ℕ)) → ids row.1 ≡ o → (p : List ℕ × ℕ) × (ids row.1 ≡ Some p)
      from None e =
          absurd (both_ways (nat_eq row.1 row.1) (none_key index row.1 (ix.none row.1 e) i row g)
          (eq-eqb row.1 row.1 refl))
      from (Some p) e = (p, e)

  -- the sequence of each row is that of an edit
  pub rows_within : All (λ (row : ℕ × ℕ). row.0 < length journal + 1) index
  rows_within = all_shown low (row_in ids) index (subst (All low) (sym ix.rows) within)
    where
      low : Current → Type 0
      low c = c.seq < length journal + 1

      within : All low (current journal)
      within k d l =
          let w = current_within 1 journal _ (All-contains_itself (current journal) k d l) in
          omega (arith, w.1)

  row_at : (row : ℕ × ℕ) → Contains index row → (p : List ℕ × ℕ) × (ids row.1 ≡ Some p)
  row_at row c = row_known c.0 row (at_place index c.0 row c.1 (sym c.2))

  -- a row shows the id of its number
  row_shown : (row : ℕ × ℕ) (p : List ℕ × ℕ) → ids row.1 ≡ Some p
      → row_in ids row ≡ record { seq = row.0; id = p.0 }
  row_shown row p is = ap (λ (o : Option (List ℕ × ℕ)). record { seq = row.0; id = id_in o }) is

  next_is : (place : ℕ) (bound : Option ℕ)
      → find (λ (row : Current). nat_lt place row.seq && is_within bound row.seq) (current journal)
      ≡ option_map (row_in ids) (next_after index place bound)
  next_is place bound =
      ap (find (λ (row : Current). nat_lt place row.seq && is_within bound row.seq)) (sym ix.rows)
      ∙ (find_map (λ (row : Current). nat_lt place row.seq && is_within bound row.seq) (row_in ids) index
      ∙ ap (λ (p : ℕ → Bool). option_map (row_in ids) (find (λ (other_row : ℕ × ℕ). p other_row.0) index))
      (λ i n. sym (within_same bound place n) i))

  -- the next row is of a number that has an id, and is the next current row
  module _ (place : ℕ) (bound : Option ℕ) (r : ℕ × ℕ) (is : Some r ≡ next_after index place bound) where
    pub next_known : (p : List ℕ × ℕ) × (ids r.1 ≡ Some p)
    next_known = row_at r (find_is (λ (z : ℕ × ℕ). index_rows.is_within place bound z.0) index r (sym is)).1

    pub next_found : (p : List ℕ × ℕ) → ids r.1 ≡ Some p
        → Some (record { seq = r.0; id = p.0 })
        ≡ find (λ (c : Current). nat_lt place c.seq && is_within bound c.seq) (current journal)
    next_found p at =
        sym (ap Some (row_shown r p at)) ∙ (ap (option_map (row_in ids)) is ∙ sym (next_is place bound))

  pub next_nothing : (place : ℕ) (bound : Option ℕ) → None ≡ next_after index place bound
      → None ≡ find (λ (row : Current). nat_lt place row.seq && is_within bound row.seq) (current journal)
  next_nothing place bound is = ap (option_map (row_in ids)) is ∙ sym (next_is place bound)

  last_is : (place : ℕ)
      → find (λ (row : Current). nat_lt row.seq place) (reverse (current journal))
      ≡ option_map (row_in ids) (last_before index place)
  last_is place =
      ap (λ cs. find (λ (row : Current). nat_lt row.seq place) (reverse cs)) (sym ix.rows)
      ∙ (ap (find (λ (row : Current). nat_lt row.seq place)) (sym (map_reverse (row_in ids) index))
      ∙ find_map (λ (row : Current). nat_lt row.seq place) (row_in ids) (reverse index))

  -- the last row below a place is of a number that has an id, and is the last current row there
  module _ (place : ℕ) (r : ℕ × ℕ) (is : Some r ≡ last_before index place) where
    pub last_known : (p : List ℕ × ℕ) × (ids r.1 ≡ Some p)
    last_known =
        let found = find_is (λ (z : ℕ × ℕ). nat_lt z.0 place) (reverse index) r (sym is) in
        row_at r (contains_reverse index r found.1)

    pub last_found : (p : List ℕ × ℕ) → ids r.1 ≡ Some p
        → Some (record { seq = r.0; id = p.0 })
        ≡ find (λ (c : Current). nat_lt c.seq place) (reverse (current journal))
    last_found p at =
        sym (ap Some (row_shown r p at)) ∙ (ap (option_map (row_in ids)) is ∙ sym (last_is place))

  pub last_nothing : (place : ℕ) → None ≡ last_before index place
      → None ≡ find (λ (row : Current). nat_lt row.seq place) (reverse (current journal))
  last_nothing place is = ap (option_map (row_in ids)) is ∙ sym (last_is place)

  -- the number of rows above a place is the number of current rows above it
  pub count_is : (place : ℕ) → count_after index place ≡ pending (current journal) place
  count_is place =
      sym (count_map (λ (row : Current). nat_lt place row.seq) (row_in ids) index)
      ∙ ap (λ cs. pending cs place) ix.rows

  -- one more edit, of the id of number k, which had this id or none
  module _ (e : Edit) (k seq : ℕ) (last : seq ≡ length journal + 1)
      (own : (p : List ℕ × ℕ) → ids k ≡ Some p → p.0 ≡ e.id)
      (apart : (j : ℕ) (p : List ℕ × ℕ) → ids j ≡ Some p → j ≢ k → p.0 ≢ e.id)
      (ids' : ℕ → Option (List ℕ × ℕ)) (at : ids' k ≡ Some (e.id, seq))
      (other : (j : ℕ) → j ≢ k → ids' j ≡ ids j) where
    -- the rows that the move keeps are those of other ids, and show as before
    abbrev IsShownSo : ℕ × ℕ → Type 0
    IsShownSo r =
        (not (nat_eq r.1 k) ≡ not (bytes_eq (row_in ids r).id e.id))
        × (not (nat_eq r.1 k) ≡ true → row_in ids' r ≡ row_in ids r)

    others_shown : (i : ℕ) (r : ℕ × ℕ) → slice_get index i ≡ Some r → IsShownSo r
    others_shown i r g = from (same_number r.1 k) (row_known i r g)
      where
        from : (r.1 ≡ k) ⊎ (r.1 ≢ k) → ((p : List ℕ × ℕ) × (ids r.1 ≡ Some p)) → IsShownSo r
        from (inl s) (p, there) =
            let here : ids k ≡ Some p = subst (λ j. ids j ≡ Some p) s there in
            let same : bytes_eq p.0 e.id ≡ true = text_same p.0 e.id (own p here) in (
              ap not (eq-eqb r.1 k s) ∙ sym (ap (λ o. not (bytes_eq (id_in o) e.id)) there ∙ ap not same),
              λ t. absurd (both_ways (not (nat_eq r.1 k)) (ap not (eq-eqb r.1 k s)) t),
            )
        from (inr n) (p, there) =
            let another : bytes_eq p.0 e.id ≡ false = text_apart p.0 e.id (apart r.1 p there n) in (
              ap not (number_apart r.1 k n)
                  ∙ sym (ap (λ o. not (bytes_eq (id_in o) e.id)) there ∙ ap not another),
              λ t. ap (λ (o : Option (List ℕ × ℕ)). record { seq = r.0; id = id_in o }) (other r.1 n),
            )

    -- the current rows but that of the id, and then a row of the id
    abbrev renewed : List Current → Current → List Current
    renewed cs c = filter (λ (z : Current). not (bytes_eq z.id e.id)) cs ++ c ∷ []

    rows_more : map (row_in ids') (rows_after_move index k seq) ≡ current (journal ++ e ∷ [])
    rows_more =
        map-append (row_in ids') (filter (λ (r : ℕ × ℕ). not (nat_eq r.1 k)) index) ((seq, k) ∷ [])
        ∙ (ap (λ cs. cs ++ row_in ids' (seq, k) ∷ [])
        (filter_shown (row_in ids) (row_in ids') (λ (r : ℕ × ℕ). not (nat_eq r.1 k))
        (λ (c : Current). not (bytes_eq c.id e.id)) index others_shown)
        ∙ (ap (λ cs. renewed cs (row_in ids' (seq, k))) ix.rows
        ∙ (ap (λ (o : Option (List ℕ × ℕ)). renewed (current journal) (record { seq = seq; id = id_in o })) at
        ∙ (ap (λ (n : ℕ). renewed (current journal) (record { seq = n; id = e.id })) (omega (arith, last))
        ∙ sym (current_push 1 journal e)))))

    -- the moved rows are the current ones of the edits with the new edit
    pub indexed_more : IsIndexed ids' (journal ++ e ∷ []) (rows_after_move index k seq)
    indexed_more = record { rows = rows_more; key = key'; none = none' }
      where
        key' : (j : ℕ) (p : List ℕ × ℕ) → ids' j ≡ Some p → seq_of j (rows_after_move index k seq) ≡ Some p.1
        key' j p g = from (same_number j k)
          where
            from : (j ≡ k) ⊎ (j ≢ k) → seq_of j (rows_after_move index k seq) ≡ Some p.1
            from (inl s) =
                let here : ids' k ≡ Some p = subst (λ i. ids' i ≡ Some p) s g in
                let same : (e.id, seq) ≡ p = same_Some (e.id, seq) p (sym at ∙ here) in
                let latest : seq ≡ p.1 = ap (λ (z : List ℕ × ℕ). z.1) same in
                ap (λ i. seq_of i (rows_after_move index k seq)) s ∙ (moved_here index k seq ∙ ap Some latest)
            from (inr n) = moved_other index k seq j n ∙ ix.key j p (sym (other j n) ∙ g)

        none' : (j : ℕ) → ids' j ≡ None → seq_of j (rows_after_move index k seq) ≡ None
        none' j g = from (same_number j k)
          where
            from : (j ≡ k) ⊎ (j ≢ k) → seq_of j (rows_after_move index k seq) ≡ None
            from (inl s) =
                absurd (none-some (e.id, seq) (sym g ∙ subst (λ i. ids' i ≡ Some (e.id, seq)) (sym s) at))
            from (inr n) = moved_other index k seq j n ∙ ix.none j (sym (other j n) ∙ g)
