-- The rows of a log, by its pairs and its index.
use Rattle.std.proofs.Common.{◌≡◌, ℕ, ◌+◌, ◌<◌, List, length, ap, sym, ◌∙◌, arith, find, get_or, Contains}
use Rattle.std.proofs.Common.{◌&&◌, nat_lt, Bool}
use Rattle.std.specs.Prelude.{Option, Some, None, option_map, slice_get, string_bytes}
use Rattle.std.proofs.lemmas.List.{length-map}
use Rattle.std.proofs.lemmas.Option.{same_Some, none-some, slice_get-get_or, slice_get-map, slice_get_within}
use Rattle.hub_index.specs.Indexed.{id_in, row_in}
use Rattle.hub_index.specs.Rows.{next_after}
use Rattle.hub_index.proofs.IndexedLemmas.{current_edit, next_found, next_known}
use Rattle.hub_index.proofs.ListLemmas.{at_place}
use Rattle.hub_model.specs.Current.{Current, current}
use Rattle.hub_model.specs.Feed.{is_within}
use Rattle.hub_model.specs.Journal.{Edit}
use Rattle.hub_model.specs.Updates.{Note, UpdateRow, edit_of, edits_of_log, id_of, note_of, update_row_of}
use Rattle.hub_model.specs.declared.feeds.Style.{Style}
use Rattle.hub_model.specs.declared.updates.UpdateKind.{UpdateKind}
use Rattle.hub_feed.proofs.CurrentLemmas.{edit_of_row, row_there}
use Rattle.hub_updates.specs.declared.log.Pair.{Pair}
use Rattle.hub_updates.specs.Kept.{IsKept, ids_of, note_at, notes_of, pair_of}

module _ (numbers : List ℕ → Option ℕ) (pairs : List Pair) (entries : List ℕ) (index : List (ℕ × ℕ))
    (kept : IsKept numbers (ids_of pairs) entries index) where
  pair_low : (k : ℕ) (p : List ℕ × ℕ) → slice_get (ids_of pairs) k ≡ Some p → k < length pairs
  pair_low k p e = omega (arith, slice_get_within (ids_of pairs) k p e, length-map pairs pair_of)

  pair_there : (k : ℕ) (pair : Pair) → k < length pairs → pair ≡ get_or pairs k pair
      → slice_get (ids_of pairs) k ≡ Some (pair_of pair)
  pair_there k pair low is =
      slice_get-map pair_of pairs k ∙ ap (option_map pair_of) (at_place pairs k pair low is)

  -- the row of a pair lies at its latest note
  pub pair_row : (k : ℕ) (pair : Pair) → k < length pairs → pair ≡ get_or pairs k pair
      → Contains (current (edits_of_log (notes_of (ids_of pairs) entries)))
      (record { seq = pair.latest; id = string_bytes pair.id })
  pair_row k pair low is =
      let at = pair_there k pair low is in
      row_there (row_in (slice_get (ids_of pairs))) index
      (current (edits_of_log (notes_of (ids_of pairs) entries))) k pair.latest
      (string_bytes pair.id) kept.rows.rows
      (kept.rows.key k (pair_of pair) at)
      (λ r e. ap (λ (o : Option (List ℕ × ℕ)). record { seq = r.0; id = id_in o })
      (ap (slice_get (ids_of pairs)) e ∙ at))

  -- the pair of an id that has a number
  pub numbered : (id : List ℕ) (k : ℕ) → numbers id ≡ Some k
      → (k < length pairs) × ((pair : Pair) → pair ≡ get_or pairs k pair → string_bytes pair.id ≡ id)
  numbered id k e =
      let w = kept.found id k e in
      let low : k < length pairs = pair_low k w.0 w.1 in (
        low,
        λ pair is. ap (λ (q : List ℕ × ℕ). q.0)
            (same_Some (pair_of pair) w.0 (sym (pair_there k pair low is) ∙ w.1)) ∙ w.2,
      )

  -- an id without a number is the id of no row
  pub unnumbered : (id : List ℕ) → numbers id ≡ None → (row : Current)
      → Contains (current (edits_of_log (notes_of (ids_of pairs) entries))) row → row.id ≡ id → ⊥
  unnumbered id none row h same =
      let e = edit_of_row (edits_of_log (notes_of (ids_of pairs) entries)) row h in
      let i = e.1.0 in
      let low : i < length entries =
      omega (
        arith,
        e.1.1,
        length-map (notes_of (ids_of pairs) entries) edit_of,
        length-map entries (note_at (ids_of pairs)),
      ) in
      let x = get_or entries i 0 in
      let here : slice_get entries i ≡ Some x = slice_get-get_or entries i 0 low in
      let w = kept.within i x here in
      let edit : slice_get (edits_of_log (notes_of (ids_of pairs) entries)) i
      ≡ Some (edit_of (note_of w.0.0)) =
      slice_get-map edit_of (notes_of (ids_of pairs) entries) i
      ∙ (ap (option_map edit_of)
      (slice_get-map (note_at (ids_of pairs)) entries i ∙ ap (option_map (note_at (ids_of pairs))) here)
      ∙ ap (λ o. Some (edit_of (note_of (id_in o)))) w.1) in
      let found : slice_get (edits_of_log (notes_of (ids_of pairs) entries)) i ≡ Some e.0 =
      at_place (edits_of_log (notes_of (ids_of pairs) entries)) i e.0 e.1.1 (sym e.1.2) in
      let id_is : w.0.0 ≡ id =
      sym (kept.read x w.0 w.1)
      ∙ (ap (λ (f : Edit). f.id) (same_Some (edit_of (note_of w.0.0)) e.0 (sym edit ∙ found))
      ∙ (e.2 ∙ same)) in
      none-some x (sym none ∙ (ap numbers (sym id_is) ∙ kept.own x w.0 w.1))

  -- the next row, which is the row of a pair in the list
  module _ (place : ℕ) (bound : Option ℕ) (r : ℕ × ℕ) (is : Some r ≡ next_after index place bound) where
    pub next_low : r.1 < length pairs
    next_low =
        let w =
        next_known (slice_get (ids_of pairs)) (edits_of_log (notes_of (ids_of pairs) entries)) index kept.rows
        place bound r is in
        pair_low r.1 w.0 w.1

    pub next_shown : (p : Pair) → p ≡ get_or pairs r.1 p
        → Some (record { seq = r.0; id = string_bytes p.id })
        ≡ find (λ (c : Current). nat_lt place c.seq && is_within bound c.seq)
        (current (edits_of_log (notes_of (ids_of pairs) entries)))
    next_shown p at =
        next_found (slice_get (ids_of pairs)) (edits_of_log (notes_of (ids_of pairs) entries)) index kept.rows
        place bound r is (pair_of p) (pair_there r.1 p next_low at)

  -- the note at a place, which is of a pair in the list
  module _ (i x : ℕ) (low : i < length entries) (is : x ≡ get_or entries i x) where
    pub entry_low : x < length pairs
    entry_low = let w = kept.within i x (at_place entries i x low is) in pair_low x w.0 w.1

    module _ (p : Pair) (at : p ≡ get_or pairs x p) where
      -- the pair's id reads back from its note
      pub entry_read : id_of (note_of (string_bytes p.id)) ≡ string_bytes p.id
      entry_read = kept.read x (pair_of p) (pair_there x p entry_low at)

      entry_edit : slice_get (edits_of_log (notes_of (ids_of pairs) entries)) i
          ≡ Some (edit_of (note_of (string_bytes p.id)))
      entry_edit =
          slice_get-map edit_of (notes_of (ids_of pairs) entries) i
          ∙ (ap (option_map edit_of)
          (slice_get-map (note_at (ids_of pairs)) entries i
          ∙ ap (option_map (note_at (ids_of pairs))) (at_place entries i x low is))
          ∙ ap (λ o. Some (edit_of (note_of (id_in o)))) (pair_there x p entry_low at))

      -- the pair's id is that of the current row at this sequence, if there is one
      entry_id : (c : Current) → Contains (current (edits_of_log (notes_of (ids_of pairs) entries))) c
          → c.seq ≡ i + 1 → string_bytes p.id ≡ c.id
      entry_id c h s =
          let own = current_edit (edits_of_log (notes_of (ids_of pairs) entries)) c h i s in
          sym entry_read
          ∙ (ap (λ (e : Edit). e.id)
          (same_Some (edit_of (note_of (string_bytes p.id))) own.0 (sym entry_edit ∙ own.1))
          ∙ own.2)

      -- so the row is shown with the pair's kind and name
      pub entry_row : (kind : UpdateKind) (name : List ℕ) (seq seen : ℕ) (style : Style) (include_docs : Bool)
          → kind ≡ (note_of (string_bytes p.id)).kind → name ≡ (note_of (string_bytes p.id)).name
          → seq ≡ i + 1 → seen ≡ length entries
          → (c : Current) → Contains (current (edits_of_log (notes_of (ids_of pairs) entries))) c
          → c.seq ≡ seq
          → record { db_name = name; kind = kind; seq = seq; seen = seen }
          ≡ update_row_of (edits_of_log (notes_of (ids_of pairs) entries)) style include_docs c
      entry_row kind name seq seen style include_docs kinds names here all c h e =
          let same : note_of (string_bytes p.id) ≡ note_of c.id = ap note_of (entry_id c h (e ∙ here)) in
          let many : seen ≡ length (edits_of_log (notes_of (ids_of pairs) entries)) =
          omega (
            arith,
            all,
            length-map (notes_of (ids_of pairs) entries) edit_of,
            length-map entries (note_at (ids_of pairs)),
          ) in
          let shown : UpdateKind → List ℕ → ℕ → ℕ → UpdateRow =
          λ k n s m. record { db_name = n; kind = k; seq = s; seen = m } in
          ap (λ k. shown k name seq seen) (kinds ∙ ap (λ (n : Note). n.kind) same)
          ∙ (ap (λ n. shown (note_of c.id).kind n seq seen) (names ∙ ap (λ (n : Note). n.name) same)
          ∙ (ap (λ s. shown (note_of c.id).kind (note_of c.id).name s seen) (sym e)
          ∙ ap (shown (note_of c.id).kind (note_of c.id).name c.seq) many))
