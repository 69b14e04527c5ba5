-- One more edit of a document that is there or new: the journal has the edit at its end, and the documents
-- stay in order.
use Rattle.std.proofs.Common.{◌≡◌, ◌≢◌, ℕ, ◌+◌, ◌<◌, ◌≤◌, List, [], ◌∷◌, ◌++◌, length, ap, refl, sym, ◌∙◌}
use Rattle.std.proofs.Common.{subst, arith, inl, inr, ◌⊎◌, ⊎_elim}
use Rattle.std.specs.Prelude.{Option, Some, None, slice_get, get_or, map, if◌then◌else◌}
use Rattle.std.specs.Str.{bytes_eq}
use Rattle.std.proofs.lemmas.List.{get_or_append_left, get_or_push, map-append, append-nil, length_push}
use Rattle.std.proofs.lemmas.List.{length-map}
use Rattle.std.proofs.lemmas.List.Elements.{filter-append}
use Rattle.std.proofs.lemmas.Option.{same_Some, none-some}
use Rattle.hub_model.specs.Journal.{Edit, IsAcceptable, IsLegal, edits_of}
use Rattle.hub_model.specs.Current.{current, is_edited}
use Rattle.hub_model.proofs.Legal.{legal_more}
use Rattle.hub_model.proofs.Lists.{same_number, same_text}
use Rattle.hub_database.specs.declared.entry.Entry.{Entry}
use Rattle.hub_database.specs.Filed.{FiledDocument, edit_with_id, no_edit, edit_in, edit_at, journal_of, IsFiled}
use Rattle.hub_database.specs.Documents.{one_if}
use Rattle.hub_database.proofs.CountLemmas.{edited_none, edited_some, documents_more}
use Rattle.hub_index.proofs.ListLemmas.{get_push, get_push_other, maps_agree, text_same, text_apart}

-- the document is there with these edits, or not at all
abbrev pub Was : (List ℕ → Option ℕ) → List FiledDocument → List ℕ → ℕ → List Edit → Type 0
Was numbers documents id k edits =
    ((numbers id ≡ Some k) × ((filed : FiledDocument) × (slice_get documents k ≡ Some filed) × (filed.edits ≡ edits)))
    ⊎
    ((numbers id ≡ None) × (slice_get documents k ≡ None) × (edits ≡ []))

module _ (limit : ℕ) (numbers : List ℕ → Option ℕ) (documents : List FiledDocument) (entries : List Entry)
    (st : IsFiled limit numbers documents entries) (id : List ℕ) (k : ℕ) (edits : List Edit)
    (was : Was numbers documents id k edits) where
  -- the document at k has the id and the edits
  pub at_k : (filed : FiledDocument) → slice_get documents k ≡ Some filed → (filed.id ≡ id) × (filed.edits ≡ edits)
  at_k filed g = ⊎_elim
      (λ w.
      let f = st.found id k w.0 in (
        ap (λ (other : FiledDocument). other.id) (same_Some filed f.0 (sym g ∙ f.1)) ∙ f.2,
        ap (λ (other : FiledDocument). other.edits) (same_Some filed w.1.0 (sym g ∙ w.1.1)) ∙ w.1.2,
      ))
      (λ w. absurd (none-some filed (sym w.1 ∙ g))) was

  pub apart : (j : ℕ) (filed : FiledDocument) → slice_get documents j ≡ Some filed → j ≢ k → filed.id ≢ id
  apart j filed g n e =
      let own : numbers id ≡ Some j = sym (ap numbers e) ∙ st.own j filed g in
      ⊎_elim (λ w. n (same_Some j k (sym own ∙ w.0))) (λ w. none-some j (sym w.0 ∙ own)) was

  pub kept_of : edits_of (journal_of documents entries) id ≡ map (edit_with_id id) edits
  kept_of = ⊎_elim
      (λ w.
      let a = at_k w.1.0 w.1.1 in
      let k : edits_of (journal_of documents entries) w.1.0.id ≡ map (edit_with_id w.1.0.id) w.1.0.edits =
      st.kept k w.1.0 w.1.1 in
      subst (λ es. edits_of (journal_of documents entries) id ≡ map (edit_with_id id) es) a.1
      (subst (λ i. edits_of (journal_of documents entries) i ≡ map (edit_with_id i) w.1.0.edits) a.0 k))
      (λ w. st.others id w.0 ∙ sym (ap (map (edit_with_id id)) w.2)) was

  module _ (e : Edit) (ok : IsAcceptable (journal_of documents entries) (edit_with_id id e))
      (room : length entries < limit)
      (numbers' : List ℕ → Option ℕ) (documents' : List FiledDocument)
      (at : slice_get documents' k
      ≡ Some (record { id = id; latest = length entries + 1; edits = edits ++ e ∷ [] }))
      (other : (j : ℕ) → j ≢ k → slice_get documents' j ≡ slice_get documents j)
      (this : numbers' id ≡ Some k) (rest : (q : List ℕ) → q ≢ id → numbers' q ≡ numbers q)
      (stay : (d : FiledDocument) → slice_get documents k ≡ Some d → length documents' ≡ length documents)
      (more : slice_get documents k ≡ None → length documents' ≡ length documents + 1) where
    abbrev changed : FiledDocument
    changed = record { id = id; latest = length entries + 1; edits = edits ++ e ∷ [] }

    abbrev entry : Entry
    entry = record { document = k; revision = length edits }

    old_entry : (i : ℕ) (y : Entry) → slice_get entries i ≡ Some y
        → edit_at documents' y ≡ edit_at documents y
    old_entry i y g = from (same_number y.document k) (st.within i y g)
      where
        from : (y.document ≡ k) ⊎ (y.document ≢ k)
            → ((d : FiledDocument) × (slice_get documents y.document ≡ Some d) × (y.revision < length d.edits))
            → edit_at documents' y ≡ edit_at documents y
        from (inr n) w = ap (λ o. edit_in o y.revision) (other y.document n)
        from (inl q) (d, there, low) =
            let a = at_k d (subst (λ j. slice_get documents j ≡ Some d) q there) in
            let now : slice_get documents' y.document ≡ Some changed =
            subst (λ j. slice_get documents' j ≡ Some changed) (sym q) at in
            let within : y.revision < length edits = subst (λ es. y.revision < length es) a.1 low in
            ap (λ o. edit_in o y.revision) now
            ∙ (ap (edit_with_id id) (get_or_append_left edits (e ∷ []) no_edit y.revision within)
            ∙ sym (ap (λ o. edit_in o y.revision) there
            ∙ (ap (λ i. edit_with_id i (get_or d.edits y.revision no_edit)) a.0
            ∙ ap (λ es. edit_with_id id (get_or es y.revision no_edit)) a.1)))

    -- the journal has one more edit at its end
    pub journal_is : journal_of documents' (entries ++ entry ∷ [])
        ≡ journal_of documents entries ++ edit_with_id id e ∷ []
    journal_is =
        map-append (edit_at documents') entries (entry ∷ [])
        ∙ (ap (λ es. es ++ edit_at documents' entry ∷ [])
        (maps_agree (edit_at documents') (edit_at documents) entries old_entry)
        ∙ ap (λ f. journal_of documents entries ++ f ∷ [])
        (ap (λ o. edit_in o (length edits)) at
        ∙ ap (edit_with_id id) (get_or_push edits e no_edit (length edits) refl)))

    edits_more : (q : List ℕ)
        → edits_of (journal_of documents' (entries ++ entry ∷ [])) q
        ≡ edits_of (journal_of documents entries) q ++ (if bytes_eq id q then (edit_with_id id e ∷ []) else [])
    edits_more q =
        ap (λ es. edits_of es q) journal_is
        ∙ filter-append (λ (f : Edit). bytes_eq f.id q) (journal_of documents entries) (edit_with_id id e ∷ [])

    edits_same : (q : List ℕ) → id ≢ q
        → edits_of (journal_of documents' (entries ++ entry ∷ [])) q
        ≡ edits_of (journal_of documents entries) q
    edits_same q n =
        edits_more q
        ∙ (ap (λ b. edits_of (journal_of documents entries) q ++ (if b then (edit_with_id id e ∷ []) else []))
        (text_apart id q n)
        ∙ append-nil (edits_of (journal_of documents entries) q))

    edits_here : edits_of (journal_of documents' (entries ++ entry ∷ [])) id
        ≡ map (edit_with_id id) (edits ++ e ∷ [])
    edits_here =
        edits_more id
        ∙ (ap (λ b. edits_of (journal_of documents entries) id ++ (if b then (edit_with_id id e ∷ []) else []))
        (text_same id id refl)
        ∙ (ap (λ es. es ++ edit_with_id id e ∷ []) kept_of ∙ sym (map-append (edit_with_id id) edits (e ∷ []))))

    found' : (q : List ℕ) (j : ℕ) → numbers' q ≡ Some j
        → (d : FiledDocument) × (slice_get documents' j ≡ Some d) × (d.id ≡ q)
    found' q j h = from (same_text q id)
      where
        here : j ≡ k → (q ≡ id) → (d : FiledDocument) × (slice_get documents' j ≡ Some d) × (d.id ≡ q)
        here s t = (changed, subst (λ i. slice_get documents' i ≡ Some changed) (sym s) at, sym t)

        there : q ≢ id → ((d : FiledDocument) × (slice_get documents j ≡ Some d) × (d.id ≡ q)) → (j ≡ k) ⊎ (j ≢ k)
            → (d : FiledDocument) × (slice_get documents' j ≡ Some d) × (d.id ≡ q)
        there n f (inl s) =
            absurd (n (sym f.2 ∙ (at_k f.0 (subst (λ i. slice_get documents i ≡ Some f.0) s f.1)).0))
        there n f (inr s) = (f.0, other j s ∙ f.1, f.2)

        from : (q ≡ id) ⊎ (q ≢ id) → (d : FiledDocument) × (slice_get documents' j ≡ Some d) × (d.id ≡ q)
        from (inl t) = here (same_Some j k (sym h ∙ (ap numbers' t ∙ this))) t
        from (inr n) = there n (st.found q j (sym (rest q n) ∙ h)) (same_number j k)

    own' : (j : ℕ) (d : FiledDocument) → slice_get documents' j ≡ Some d → numbers' d.id ≡ Some j
    own' j d g = from (same_number j k)
      where
        from : (j ≡ k) ⊎ (j ≢ k) → numbers' d.id ≡ Some j
        from (inl s) =
            let same : changed ≡ d =
            same_Some changed d (sym at ∙ subst (λ i. slice_get documents' i ≡ Some d) s g) in
            sym (ap numbers' (ap (λ (z : FiledDocument). z.id) same)) ∙ (this ∙ ap Some (sym s))
        from (inr n) =
            let before : slice_get documents j ≡ Some d = sym (other j n) ∙ g in
            rest d.id (apart j d before n) ∙ st.own j d before

    kept' : (j : ℕ) (d : FiledDocument) → slice_get documents' j ≡ Some d
        → edits_of (journal_of documents' (entries ++ entry ∷ [])) d.id ≡ map (edit_with_id d.id) d.edits
    kept' j d g = from (same_number j k)
      where
        from : (j ≡ k) ⊎ (j ≢ k)
            → edits_of (journal_of documents' (entries ++ entry ∷ [])) d.id ≡ map (edit_with_id d.id) d.edits
        from (inl s) =
            subst
            (λ (z : FiledDocument).
            edits_of (journal_of documents' (entries ++ entry ∷ [])) z.id ≡ map (edit_with_id z.id) z.edits)
            (same_Some changed d (sym at ∙ subst (λ i. slice_get documents' i ≡ Some d) s g)) edits_here
        from (inr n) =
            let before : slice_get documents j ≡ Some d = sym (other j n) ∙ g in
            edits_same d.id (λ t. apart j d before n (sym t)) ∙ st.kept j d before

    others' : (q : List ℕ) → numbers' q ≡ None
        → edits_of (journal_of documents' (entries ++ entry ∷ [])) q ≡ []
    others' q h = from (same_text id q)
      where
        from : (id ≡ q) ⊎ (id ≢ q) → edits_of (journal_of documents' (entries ++ entry ∷ [])) q ≡ []
        from (inl t) = absurd (none-some k (sym h ∙ (sym (ap numbers' t) ∙ this)))
        from (inr n) = edits_same q n ∙ st.others q (sym (rest q (λ t. n (sym t))) ∙ h)

    within' : (i : ℕ) (y : Entry) → slice_get (entries ++ entry ∷ []) i ≡ Some y
        → (d : FiledDocument) × (slice_get documents' y.document ≡ Some d) × (y.revision < length d.edits)
    within' i y g = from (same_number i (length entries))
      where
        longer : length (edits ++ e ∷ []) ≡ length edits + 1
        longer = length_push edits e

        newest : entry ≡ y
            → (d : FiledDocument) × (slice_get documents' y.document ≡ Some d) × (y.revision < length d.edits)
        newest s =
            subst
            (λ (z : Entry).
            (d : FiledDocument) × (slice_get documents' z.document ≡ Some d) × (z.revision < length d.edits))
            s (changed, at, omega (arith, longer))

        older : ((d : FiledDocument) × (slice_get documents y.document ≡ Some d) × (y.revision < length d.edits))
            → (y.document ≡ k) ⊎ (y.document ≢ k)
            → (d : FiledDocument) × (slice_get documents' y.document ≡ Some d) × (y.revision < length d.edits)
        older (d, there, low) (inl q) =
            let a = at_k d (subst (λ j. slice_get documents j ≡ Some d) q there) in
            let within : y.revision < length edits = subst (λ es. y.revision < length es) a.1 low in (
              changed,
              subst (λ j. slice_get documents' j ≡ Some changed) (sym q) at,
              omega (arith, longer, within),
            )
        older (d, there, low) (inr n) = (d, other y.document n ∙ there, low)

        from : (i ≡ length entries) ⊎ (i ≢ length entries)
            → (d : FiledDocument) × (slice_get documents' y.document ≡ Some d) × (y.revision < length d.edits)
        from (inl s) =
            newest
            (same_Some entry y
            (sym (get_push entries entry) ∙ subst (λ n. slice_get (entries ++ entry ∷ []) n ≡ Some y) s g))
        from (inr n) =
            older (st.within i y (sym (get_push_other entries entry i n) ∙ g)) (same_number y.document k)

    some' : (j : ℕ) (d : FiledDocument) → slice_get documents' j ≡ Some d → 1 ≤ length d.edits
    some' j d g = from (same_number j k)
      where
        longer : length (edits ++ e ∷ []) ≡ length edits + 1
        longer = length_push edits e

        from : (j ≡ k) ⊎ (j ≢ k) → 1 ≤ length d.edits
        from (inl s) =
            subst (λ (z : FiledDocument). 1 ≤ length z.edits)
            (same_Some changed d (sym at ∙ subst (λ i. slice_get documents' i ≡ Some d) s g))
            (omega (arith, longer))
        from (inr n) = st.some j d (sym (other j n) ∙ g)

    -- each edit is of the document whose id is left out
    one_of : edits_of edits [] ≡ edits
    one_of =
        ⊎_elim (λ w. subst (λ es. edits_of es [] ≡ es) w.1.2 (st.one k w.1.0 w.1.1)) (λ w. rw w.2 refl) was

    one' : e.id ≡ [] → (j : ℕ) (d : FiledDocument) → slice_get documents' j ≡ Some d → edits_of d.edits [] ≡ d.edits
    one' nameless j d g = from (same_number j k)
      where
        whole : edits_of (edits ++ e ∷ []) [] ≡ edits ++ e ∷ []
        whole =
            filter-append (λ (f : Edit). bytes_eq f.id []) edits (e ∷ [])
            ∙ (ap (λ b. edits_of edits [] ++ (if b then (e ∷ []) else [])) (text_same e.id [] nameless)
            ∙ ap (λ es. es ++ e ∷ []) one_of)

        from : (j ≡ k) ⊎ (j ≢ k) → edits_of d.edits [] ≡ d.edits
        from (inl s) =
            let now : slice_get documents' k ≡ Some d = subst (λ i. slice_get documents' i ≡ Some d) s g in
            subst (λ (z : FiledDocument). edits_of z.edits [] ≡ z.edits) (same_Some changed d (sym at ∙ now)) whole
        from (inr n) = st.one j d (sym (other j n) ∙ g)

    -- the documents are as many as the current rows
    as_many : (length documents' ≤ length entries + 1)
        × (length documents' ≡ length (current (journal_of documents entries ++ edit_with_id id e ∷ [])))
    as_many = ⊎_elim (λ w. there w.1.0 w.1.1) (λ w. absent w.0 w.1) was
      where
        rows : length (current (journal_of documents entries ++ edit_with_id id e ∷ [])) + one_if
            (is_edited id (journal_of documents entries))
            ≡ length (current (journal_of documents entries)) + 1
        rows = documents_more (journal_of documents entries) (edit_with_id id e)

        there : (d : FiledDocument) → slice_get documents k ≡ Some d
            → (length documents' ≤ length entries + 1)
            × (length documents' ≡ length (current (journal_of documents entries ++ edit_with_id id e ∷ [])))
        there d g =
            let has : 1 ≤ length edits = subst (λ es. 1 ≤ length es) (at_k d g).1 (st.some k d g) in
            let known =
            edited_some id (journal_of documents entries)
            (omega (arith, has, ap length kept_of, length-map edits (edit_with_id id))) in
            (omega (arith, stay d g, st.fewer), omega (arith, stay d g, st.each, rows, ap one_if known))

        absent : numbers id ≡ None → slice_get documents k ≡ None
            → (length documents' ≤ length entries + 1)
            × (length documents' ≡ length (current (journal_of documents entries ++ edit_with_id id e ∷ [])))
        absent none g =
            let new = edited_none id (journal_of documents entries) (st.others id none) in
            (omega (arith, more g, st.fewer), omega (arith, more g, st.each, rows, ap one_if new))

    -- the invariant of the documents goes on to hold
    pub filed_more : e.id ≡ [] → IsFiled limit numbers' documents' (entries ++ entry ∷ [])
    filed_more nameless = record {
      found = found';
      own = own';
      kept = kept';
      others = others';
      within = within';
      legal =
          subst IsLegal (sym journal_is) (legal_more (journal_of documents entries) (edit_with_id id e) st.legal ok);
      count = omega (arith, room, length_push entries entry);
      fewer = omega (arith, as_many.0, length_push entries entry);
      one = one' nameless;
      some = some';
      each = as_many.1 ∙ ap (λ J. length (current J)) (sym journal_is);
    }
