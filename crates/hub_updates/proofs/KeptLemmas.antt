-- The invariant of a log, with one note more.
use Rattle.std.proofs.Common.{◌≡◌, ◌≢◌, ℕ, zero, suc, ◌+◌, ◌<◌, ◌≤◌, List, [], ◌∷◌, ◌++◌, length, get_or}
use Rattle.std.proofs.Common.{ap, refl, sym, ◌∙◌, subst, arith, inl, inr, ◌⊎◌, length-append}
use Rattle.std.specs.Prelude.{Option, Some, None, slice_get, slice_set, option_map, string_bytes}
use Rattle.std.specs.Prelude.{if◌then◌else◌}
use Rattle.std.specs.List.{All}
use Rattle.std.specs.Map.{update}
use Rattle.std.specs.Str.{bytes_eq}
use Rattle.std.proofs.lemmas.List.{length-map, length-set, map-append, map-set}
use Rattle.std.proofs.lemmas.Option.{same_Some, none-some, slice_get-map, slice_get_within, slice_get_past}
use Rattle.hub_index.specs.Indexed.{IsIndexed, id_in}
use Rattle.hub_index.specs.Rows.{seq_of, rows_after_move}
use Rattle.hub_index.proofs.IndexedLemmas.{indexed_more, rows_within}
use Rattle.hub_index.proofs.ListLemmas.{at_place, get_push, get_push_other, get_set, get_set_other}
use Rattle.hub_index.proofs.ListLemmas.{maps_agree}
use Rattle.hub_index.proofs.ListLemmas.{text_same, text_apart}
use Rattle.hub_model.specs.Updates.{Note, edit_of, edits_of_log, id_of, kind_of, letter_of, note_of}
use Rattle.hub_model.specs.declared.updates.UpdateKind.{UpdateKind}
use Rattle.hub_model.specs.declared.updates.UpdateKind.TheVariants.{Created, Updated, Deleted}
use Rattle.hub_model.proofs.Lists.{same_number, same_text}
use Rattle.hub_updates.specs.declared.log.Pair.{Pair}
use Rattle.hub_updates.specs.Kept.{IsKept, ids_of, note_at, notes_of, pair_of, ids_with_sequence}

-- an element of a list with one more is an old element or the new one
get_pushed : {A : Type 0} (xs : List A) (v w : A) (i : ℕ) → slice_get (xs ++ v ∷ []) i ≡ Some w
    → (slice_get xs i ≡ Some w) ⊎ (v ≡ w)
get_pushed [] v w zero e = inr (same_Some v w e)
get_pushed [] v w (suc i) e = absurd (none-some w e)
get_pushed (x ∷ xs) v w zero e = inl e
get_pushed (x ∷ xs) v w (suc i) e = get_pushed xs v w i e

-- the pairs, once the latest sequence of one pair is written over
pub pair_raised : (pairs : List Pair) (k seq : ℕ) (pair : Pair) → k < length pairs
    → pair ≡ get_or pairs k pair
    → ids_of (slice_set pairs k (record pair { latest = seq })) ≡ ids_with_sequence k seq (ids_of pairs)
pair_raised pairs k seq pair low is =
    let there : slice_get (ids_of pairs) k ≡ Some (string_bytes pair.id, pair.latest) =
    slice_get-map pair_of pairs k ∙ ap (option_map pair_of) (at_place pairs k pair low is) in
    map-set pair_of pairs k (record pair { latest = seq })
    ∙ ap (λ o. slice_set (ids_of pairs) k (id_in o, seq)) (sym there)

kind_back : (kind : UpdateKind) → kind_of (letter_of kind) ≡ kind
kind_back Created = refl
kind_back Updated = refl
kind_back Deleted = refl

-- a note reads back from its id
pub read_back : (note : Note) → note_of (id_of note) ≡ note
read_back note = ap (λ (kind : UpdateKind). record { kind = kind; name = note.name }) (kind_back note.kind)

module _ (numbers : List ℕ → Option ℕ) (ids : List (List ℕ × ℕ)) (entries : List ℕ) (index : List (ℕ × ℕ))
    (kept : IsKept numbers ids entries index) where
  -- a row's sequence is at most the number of notes
  pub kept_rows : All (λ (row : ℕ × ℕ). row.0 < length entries + 1) index
  kept_rows i row l =
      omega (
        arith,
        rows_within (slice_get ids) (edits_of_log (notes_of ids entries)) index kept.rows i row l,
        length-map (notes_of ids entries) edit_of,
        length-map entries (note_at ids),
      )

  -- a number past the pairs has no row
  pub kept_past : seq_of (length ids) index ≡ None
  kept_past = kept.rows.none (length ids) (slice_get_past ids (length ids) (omega arith))

  -- the number of an id is that of a pair
  pub kept_there : (id : List ℕ) (k : ℕ) → numbers id ≡ Some k → k < length ids
  kept_there id k e = let f = kept.found id k e in slice_get_within ids k f.0 f.1

  -- One more note, of the pair k. The pair had this id before, or it was not there.
  module _ (n : Note) (k seq : ℕ) (last : seq ≡ length entries + 1)
      (was : (p : List ℕ × ℕ) → slice_get ids k ≡ Some p → p.0 ≡ id_of n)
      (only : (j : ℕ) → numbers (id_of n) ≡ Some j → j ≡ k)
      (numbers' : List ℕ → Option ℕ) (ids' : List (List ℕ × ℕ))
      (at : slice_get ids' k ≡ Some (id_of n, seq))
      (other : (j : ℕ) → j ≢ k → slice_get ids' j ≡ slice_get ids j)
      (this : numbers' (id_of n) ≡ Some k) (rest : (q : List ℕ) → q ≢ id_of n → numbers' q ≡ numbers q)
      (few : length ids' ≤ length entries + 1) where
    apart : (j : ℕ) (p : List ℕ × ℕ) → slice_get ids j ≡ Some p → j ≢ k → p.0 ≢ id_of n
    apart j p there ne e = ne (only j (ap numbers (sym e) ∙ kept.own j p there))

    note_kept : (i j : ℕ) → slice_get entries i ≡ Some j → note_at ids' j ≡ note_at ids j
    note_kept i j e = from (same_number j k)
      where
        from : (j ≡ k) ⊎ (j ≢ k) → note_at ids' j ≡ note_at ids j
        from (inl s) =
            let w = kept.within i j e in
            let is : w.0.0 ≡ id_of n = was w.0 (subst (λ h. slice_get ids h ≡ Some w.0) s w.1) in
            ap (note_at ids') s
            ∙ (ap (λ o. note_of (id_in o)) at ∙ (ap note_of (sym is) ∙ sym (ap (λ o. note_of (id_in o)) w.1)))
        from (inr ne) = ap (λ o. note_of (id_in o)) (other j ne)

    -- the notes are the old ones, and then the new one
    pub notes_more : notes_of ids' (entries ++ k ∷ []) ≡ notes_of ids entries ++ n ∷ []
    notes_more =
        map-append (note_at ids') entries (k ∷ [])
        ∙ (ap (λ ns. ns ++ note_at ids' k ∷ []) (maps_agree (note_at ids') (note_at ids) entries note_kept)
        ∙ ap (λ m. notes_of ids entries ++ m ∷ []) (ap (λ o. note_of (id_in o)) at ∙ read_back n))

    edits_more : edits_of_log (notes_of ids' (entries ++ k ∷ []))
        ≡ edits_of_log (notes_of ids entries) ++ edit_of n ∷ []
    edits_more = ap edits_of_log notes_more ∙ map-append edit_of (notes_of ids entries) (n ∷ [])

    rows_more : IsIndexed (slice_get ids') (edits_of_log (notes_of ids' (entries ++ k ∷ [])))
        (rows_after_move index k seq)
    rows_more = subst (λ J. IsIndexed (slice_get ids') J (rows_after_move index k seq)) (sym edits_more)
        (indexed_more (slice_get ids) (edits_of_log (notes_of ids entries)) index kept.rows (edit_of n) k seq
        (omega (arith, last, length-map (notes_of ids entries) edit_of, length-map entries (note_at ids)))
        was apart (slice_get ids') at other)

    -- and the invariant goes on to hold
    pub kept_more : IsKept numbers' ids' (entries ++ k ∷ []) (rows_after_move index k seq)
    kept_more =
        record {
          found = found';
          own = own';
          read = read';
          within = within';
          fewer = omega (arith, few, length-append entries (k ∷ []));
          rows = rows_more;
        }
      where
        found' : (id : List ℕ) (j : ℕ) → numbers' id ≡ Some j
            → (p : List ℕ × ℕ) × (slice_get ids' j ≡ Some p) × (p.0 ≡ id)
        found' id j e = from (same_text id (id_of n))
          where
            from : (id ≡ id_of n) ⊎ (id ≢ id_of n)
                → (p : List ℕ × ℕ) × (slice_get ids' j ≡ Some p) × (p.0 ≡ id)
            from (inl s) =
                let here : j ≡ k = same_Some j k (sym e ∙ (ap numbers' s ∙ this)) in
                ((id_of n, seq), ap (slice_get ids') here ∙ at, sym s)
            from (inr ne) =
                let f = kept.found id j (sym (rest id ne) ∙ e) in
                let another : j ≢ k =
                λ s. ne (sym f.2 ∙ was f.0 (subst (λ h. slice_get ids h ≡ Some f.0) s f.1)) in
                (f.0, other j another ∙ f.1, f.2)

        own' : (j : ℕ) (p : List ℕ × ℕ) → slice_get ids' j ≡ Some p → numbers' p.0 ≡ Some j
        own' j p e = from (same_number j k)
          where
            from : (j ≡ k) ⊎ (j ≢ k) → numbers' p.0 ≡ Some j
            from (inl s) =
                ap (λ (z : List ℕ × ℕ). numbers' z.0)
                (same_Some p (id_of n, seq) (sym e ∙ (ap (slice_get ids') s ∙ at)))
                ∙ (this ∙ ap Some (sym s))
            from (inr ne) =
                let there = sym (other j ne) ∙ e in rest p.0 (apart j p there ne) ∙ kept.own j p there

        read' : (j : ℕ) (p : List ℕ × ℕ) → slice_get ids' j ≡ Some p → id_of (note_of p.0) ≡ p.0
        read' j p e = from (same_number j k)
          where
            from : (j ≡ k) ⊎ (j ≢ k) → id_of (note_of p.0) ≡ p.0
            from (inl s) =
                subst (λ (z : List ℕ × ℕ). id_of (note_of z.0) ≡ z.0)
                (same_Some (id_of n, seq) p (sym at ∙ (sym (ap (slice_get ids') s) ∙ e)))
                (ap id_of (read_back n))
            from (inr ne) = kept.read j p (sym (other j ne) ∙ e)

        there' : (j : ℕ) → (p : List ℕ × ℕ) × (slice_get ids j ≡ Some p)
            → (p : List ℕ × ℕ) × (slice_get ids' j ≡ Some p)
        there' j (p, e) = from (same_number j k)
          where
            from : (j ≡ k) ⊎ (j ≢ k) → (p : List ℕ × ℕ) × (slice_get ids' j ≡ Some p)
            from (inl s) = ((id_of n, seq), ap (slice_get ids') s ∙ at)
            from (inr ne) = (p, other j ne ∙ e)

        within' : (i j : ℕ) → slice_get (entries ++ k ∷ []) i ≡ Some j
            → (p : List ℕ × ℕ) × (slice_get ids' j ≡ Some p)
        within' i j e =
            elim (get_pushed entries k j i e) [
              | inl h ↦ there' j (kept.within i j h)
              | inr s ↦ ((id_of n, seq), ap (slice_get ids') (sym s) ∙ at)
            ]

  -- one more note of an old pair
  module _ (n : Note) (k seq : ℕ) (last : seq ≡ length entries + 1) (known : numbers (id_of n) ≡ Some k) where
    known_was : (p : List ℕ × ℕ) → slice_get ids k ≡ Some p → p.0 ≡ id_of n
    known_was p e =
        let f = kept.found (id_of n) k known in
        ap (λ (z : List ℕ × ℕ). z.0) (same_Some p f.0 (sym e ∙ f.1)) ∙ f.2

    known_only : (j : ℕ) → numbers (id_of n) ≡ Some j → j ≡ k
    known_only j e = same_Some j k (sym e ∙ known)

    known_at : slice_get (ids_with_sequence k seq ids) k ≡ Some (id_of n, seq)
    known_at = let f = kept.found (id_of n) k known in
        get_set ids k (id_in (slice_get ids k), seq) (slice_get_within ids k f.0 f.1)
        ∙ ap (λ (q : List ℕ). Some (q, seq)) (ap id_in f.1 ∙ f.2)

    known_few : length (ids_with_sequence k seq ids) ≤ length entries + 1
    known_few = omega (arith, kept.fewer, length-set ids k (id_in (slice_get ids k), seq))

    pub notes_raised : notes_of (ids_with_sequence k seq ids) (entries ++ k ∷ []) ≡ notes_of ids entries ++ n ∷ []
    notes_raised =
        notes_more n k seq last known_was known_only numbers (ids_with_sequence k seq ids) known_at
        (get_set_other ids k (id_in (slice_get ids k), seq)) known (λ q ne. refl) known_few

    pub kept_raised : IsKept numbers (ids_with_sequence k seq ids) (entries ++ k ∷ []) (rows_after_move index k seq)
    kept_raised =
        kept_more n k seq last known_was known_only numbers (ids_with_sequence k seq ids) known_at
        (get_set_other ids k (id_in (slice_get ids k), seq)) known (λ q ne. refl) known_few

    -- the same of all values that are equal to these
    pub raised_so : (ids' : List (List ℕ × ℕ)) (entries' : List ℕ) (index' : List (ℕ × ℕ))
        → ids' ≡ ids_with_sequence k seq ids → entries' ≡ entries ++ k ∷ [] → index' ≡ rows_after_move index k seq
        → IsKept numbers ids' entries' index' × (notes_of ids' entries' ≡ notes_of ids entries ++ n ∷ [])
    raised_so ids' entries' index' is es rows = rw (is, es, rows) (kept_raised, notes_raised)

  -- the first note of a pair
  module _ (n : Note) (seq : ℕ) (last : seq ≡ length entries + 1) (new : numbers (id_of n) ≡ None)
      (numbers' : List ℕ → Option ℕ)
      (given : (q : List ℕ) → numbers' q ≡ update bytes_eq numbers (id_of n) (Some (length ids)) q) where
    new_was : (p : List ℕ × ℕ) → slice_get ids (length ids) ≡ Some p → p.0 ≡ id_of n
    new_was p e = absurd (none-some p (sym (slice_get_past ids (length ids) (omega arith)) ∙ e))

    new_only : (j : ℕ) → numbers (id_of n) ≡ Some j → j ≡ length ids
    new_only j e = absurd (none-some j (sym new ∙ e))

    new_this : numbers' (id_of n) ≡ Some (length ids)
    new_this =
        given (id_of n)
        ∙ ap (λ b. if b then Some (length ids) else numbers (id_of n)) (text_same (id_of n) (id_of n) refl)

    new_rest : (q : List ℕ) → q ≢ id_of n → numbers' q ≡ numbers q
    new_rest q ne =
        given q
        ∙ ap (λ b. if b then Some (length ids) else numbers q) (text_apart (id_of n) q (λ e. ne (sym e)))

    new_few : length (ids ++ (id_of n, seq) ∷ []) ≤ length entries + 1
    new_few = omega (arith, kept.fewer, length-append ids ((id_of n, seq) ∷ []))

    pub notes_added : notes_of (ids ++ (id_of n, seq) ∷ []) (entries ++ length ids ∷ [])
        ≡ notes_of ids entries ++ n ∷ []
    notes_added =
        notes_more n (length ids) seq last new_was new_only numbers' (ids ++ (id_of n, seq) ∷ [])
        (get_push ids (id_of n, seq)) (get_push_other ids (id_of n, seq)) new_this new_rest new_few

    pub kept_added : IsKept numbers' (ids ++ (id_of n, seq) ∷ []) (entries ++ length ids ∷ [])
        (rows_after_move index (length ids) seq)
    kept_added =
        kept_more n (length ids) seq last new_was new_only numbers' (ids ++ (id_of n, seq) ∷ [])
        (get_push ids (id_of n, seq)) (get_push_other ids (id_of n, seq)) new_this new_rest new_few

  -- the same of all values that are equal to these
  pub added_so : (note : Note) (seq : ℕ) → seq ≡ length entries + 1 → (id : List ℕ) → id ≡ id_of note
      → numbers id ≡ None → (k : ℕ) → k ≡ length ids
      → (numbers' : List ℕ → Option ℕ) (ids' : List (List ℕ × ℕ)) (entries' : List ℕ) (index' : List (ℕ × ℕ))
      → ((q : List ℕ) → numbers' q ≡ update bytes_eq numbers id (Some k) q)
      → ids' ≡ ids ++ (id, seq) ∷ [] → entries' ≡ entries ++ k ∷ [] → index' ≡ rows_after_move index k seq
      → IsKept numbers' ids' entries' index' × (notes_of ids' entries' ≡ notes_of ids entries ++ note ∷ [])
  added_so note seq last id named new k first numbers' ids' entries' index' given is es rows =
      let none : numbers (id_of note) ≡ None = ap numbers (sym named) ∙ new in
      let given' : (q : List ℕ) → numbers' q ≡ update bytes_eq numbers (id_of note) (Some (length ids)) q =
      λ q. given q
      ∙ (ap (λ i. update bytes_eq numbers i (Some k) q) named
      ∙ ap (λ j. update bytes_eq numbers (id_of note) (Some j) q) first) in
      rw (
        is ∙ ap (λ i. ids ++ (i, seq) ∷ []) named,
        es ∙ ap (λ j. entries ++ j ∷ []) first,
        rows ∙ ap (λ j. rows_after_move index j seq) first,
      )
      (kept_added note seq last none numbers' given', notes_added note seq last none numbers' given')
