-- The storing of one edit in the documents and the journal of a database.
use Rattle.std.proofs.Common.{◌≡◌, ◌≢◌, ℕ, ◌+◌, ◌<◌, ◌≤◌, List, [], ◌∷◌, ◌++◌, length, Bool, true}
use Rattle.std.proofs.Common.{false, ap, refl, sym, ◌∙◌, subst, arith, inl, inr}
use Rattle.std.specs.Prelude.{OnErr, Result, Ok, Err, Option, Some, None, slice_get, slice_set}
use Rattle.std.specs.Prelude.{map, get_or, option_map, filter, not, nat_eq, nat_le, unwrap_or, if◌then◌else◌}
use Rattle.std.specs.Map.{update}
use Rattle.std.specs.Str.{bytes_eq}
use Rattle.std.specs.List.{All}
use Rattle.std.proofs.lemmas.Bool.{leb-false, eq-eqb, ne_eqb}
use Rattle.std.proofs.lemmas.Option.{same_Some, none-some, slice_get-map, slice_get_past, slice_get_within}
use Rattle.std.proofs.lemmas.Option.{get_or_from_slice_get, slice_get-get_or}
use Rattle.std.proofs.lemmas.List.{append-nil, get_or-map, length-map, length_push, map_push}
use Rattle.std.proofs.lemmas.Simd.{map-map}
use Rattle.std.proofs.lemmas.List.Elements.{filter-append}
use Rattle.std.proofs.Math.Seq.{map-set_same}
use Rattle.std.proofs.Math.ListN.{length-set}
use Rattle.hub_index.specs.Order.{IsOrder, id_at, number_in, with_number}
use Rattle.hub_index.specs.Rows.{rows_after_move, seq_of}
use Rattle.hub_document.specs.declared.limits.Limits.{Limits}
use Rattle.hub_model.specs.Revision.{Revision}
use Rattle.hub_model.specs.Journal.{Edit, edits_of, head_of}
use Rattle.hub_model.specs.Leaves.{leaves_of, leaves_among, best_first}
use Rattle.hub_model.specs.Row.{is_deleted}
use Rattle.hub_model.specs.declared.outcomes.Outcome.{Outcome}
use Rattle.hub_model.specs.declared.outcomes.Outcome.TheVariants as outcome
use Rattle.hub_revtree.specs.Tree.{IsRevTree}
use Rattle.hub_database.specs.declared.entry.Entry.{Entry}
use Rattle.hub_database.specs.declared.document.Document.{Document}
use Rattle.hub_database.specs.declared.document.Incoming.{Incoming}
use Rattle.hub_database.specs.declared.document.Looked.{Looked}
use Rattle.hub_database.specs.declared.document.Looked.TheVariants.{Known, Refused, Ready}
use Rattle.hub_database.specs.declared.contents.Contents.TheInside.{Inside}
use Rattle.hub_database.specs.Filed.{FiledDocument, HasNumbers, edit_with_id, edit_at, ids_of, journal_of, IsFiled}
use Rattle.hub_database.specs.Looked.{Setting, IsWritten, NeedsRoomFor, IsStorable, stores_edit, look_at}
use Rattle.hub_database.specs.Looked.{look_in, unless_full, outcome_of, document_after, documents_after}
use Rattle.hub_database.specs.Looked.{entries_after, journal_after, numbers_after, rows_after}
use Rattle.hub_database.specs.Indexed.{IsIndexed, latest_of}
use Rattle.hub_database.specs.Documents.{filed_document, files}
use Rattle.hub_database.specs.Inside.{IsWhole, HasDocuments, IsCounted, HasRows, ShowsSame, IsInserted}
use Rattle.hub_database.specs.Documents.{deleted_in, one_if, setting_of, unwritten_document}
use Rattle.hub_database.specs.Inside.{edits_inside, first_setting}
use Rattle.hub_database.specs.Inside.{ids_in, number_by}
use Rattle.hub_index.proofs.ListLemmas.{at_place, get_push, get_push_other, get_set, get_set_other, text_same}
use Rattle.hub_index.proofs.ListLemmas.{text_apart}
use Rattle.hub_index.proofs.OrderLemmas.{number_more}
use Rattle.hub_index.proofs.IndexLemmas.{filter_keeps, moved_new}
use Rattle.hub_database.proofs.ListLemmas.{count_filter}
use Rattle.hub_database.proofs.CountLemmas.{deleted_more, deleted_some}
use Rattle.hub_database.proofs.NamedLemmas.{leaves_named, deleted_named}
use Rattle.hub_database.proofs.MergeLemmas.{acceptable_in, needs_in, stores_by}
use Rattle.hub_database.proofs.FiledLemmas.{Was, kept_of, journal_is, filed_more}
use Rattle.hub_database.proofs.IndexedLemmas.{indexed_edit}
pub use Rattle.hub_revtree.proofs.BranchLemmas.{on_err}

-- The state after an edit is stored: the documents and the rows are in order, and the journal has the edit
-- if it is stored.
abbrev pub Leaves : ℕ → List FiledDocument → List Entry → List ℕ → Looked → (List ℕ → Option ℕ) → List FiledDocument
    → List Entry → List (ℕ × ℕ) → Type 0
Leaves limit documents entries id looked numbers' documents' entries' index' =
    IsFiled limit numbers' documents' entries' ×
    (journal_of documents' entries' ≡ journal_after looked id (journal_of documents entries)) × IsIndexed
    documents' entries' index'

-- where an edit is to be stored, the journal is not full
room_in : (limit n : ℕ) (looked : Looked) (edit : Edit) → unless_full (nat_le limit n) looked ≡ Ready edit
    → n < limit
room_in limit n looked edit h = leb-false limit n (from (nat_le limit n) looked h)
  where
    from : (full : Bool) (looked : Looked) → unless_full full looked ≡ Ready edit → full ≡ false
    from true Known h = absurd (cc)
    from true (Refused f) h = absurd (cc)
    from true (Ready x) h = absurd (cc)
    from false looked h = refl

stays : (journal later_journal : List Edit) (id : List ℕ) → later_journal ≡ journal
    → (count count' : ℕ) (was is : Bool)
    → was ≡ is_deleted (leaves_of journal id) → is ≡ is_deleted (leaves_of later_journal id)
    → count ≡ deleted_in journal → count' + one_if was ≡ count + one_if is → count' ≡ deleted_in later_journal
stays journal later_journal id same count count' was is w i c h =
    let now : is ≡ was = i ∙ (ap (λ K. is_deleted (leaves_of K id)) same ∙ sym w) in
    let all : deleted_in later_journal ≡ deleted_in journal = ap deleted_in same in
    omega (arith, h, c, all, ap one_if now)

-- the count goes on to be the number of documents with a deleted winner
counted_on : (journal later_journal : List Edit) (id : List ℕ) (looked : Looked)
    → later_journal ≡ journal_after looked id journal
    → (count count' : ℕ) (was is : Bool) → was ≡ is_deleted (leaves_of journal id)
    → is ≡ is_deleted (leaves_of later_journal id)
    → count ≡ deleted_in journal → count' + one_if was ≡ count + one_if is → count' ≡ deleted_in later_journal
counted_on journal later_journal id Known same count count' was is w i c h =
    stays journal later_journal id same count count' was is w i c h
counted_on journal later_journal id (Refused f) same count count' was is w i c h =
    stays journal later_journal id same count count' was is w i c h
counted_on journal later_journal id (Ready e) same count count' was is w i c h =
    let more = deleted_more journal (edit_with_id id e) in
    let now : is ≡ is_deleted (leaves_of (journal ++ edit_with_id id e ∷ []) id) =
    i ∙ ap (λ K. is_deleted (leaves_of K id)) same in
    let all : deleted_in later_journal ≡ deleted_in (journal ++ edit_with_id id e ∷ []) = ap deleted_in same in
    omega (arith, h, c, more, all, ap one_if w, ap one_if now)

-- the state where the edit is stored
module _ (limit : ℕ) (numbers : List ℕ → Option ℕ) (documents : List FiledDocument) (entries : List Entry)
    (st : IsFiled limit numbers documents entries) (index : List (ℕ × ℕ))
    (ix : IsIndexed documents entries index) (id : List ℕ) (k : ℕ) (edits : List Edit)
    (was : Was numbers documents id k edits)
    (one : edits_of edits [] ≡ edits) where
  stores : (edit : Edit) → IsStorable edits (Ready edit) → length entries < limit
      → (numbers' : List ℕ → Option ℕ) (documents' : List FiledDocument)
      → slice_get documents' k
      ≡ Some (record { id = id; latest = length entries + 1; edits = edits ++ edit ∷ [] })
      → ((j : ℕ) → j ≢ k → slice_get documents' j ≡ slice_get documents j)
      → numbers' id ≡ Some k → ((q : List ℕ) → q ≢ id → numbers' q ≡ numbers q)
      → ((filed_document : FiledDocument) → slice_get documents k ≡ Some filed_document → length documents' ≡ length documents)
      → (slice_get documents k ≡ None → length documents' ≡ length documents + 1)
      → Leaves limit documents entries id (Ready edit) numbers' documents'
      (entries ++ record { document = k; revision = length edits } ∷ []) (rows_after_move index k (length entries + 1))
  stores edit s room numbers' documents' at other this rest stay more =
      let ok =
      acceptable_in (journal_of documents entries) id edits
      (kept_of limit numbers documents entries st id k edits was) one edit st.legal s.0 s.1 in
      let more_edits =
      journal_is limit numbers documents entries st id k edits was edit ok room numbers' documents' at other
      this
      rest stay more in (
        filed_more limit numbers documents entries st id k edits was edit ok room numbers' documents' at other
            this
            rest stay more s.0,
        more_edits,
        indexed_edit limit numbers documents entries index st ix id k edits was edit documents'
            (entries ++ record { document = k; revision = length edits } ∷ []) at other more_edits,
      )

-- an edit of a document that is there
module _ (limit : ℕ) (numbers : List ℕ → Option ℕ) (documents : List Document) (entries : List Entry)
    (st : IsFiled limit numbers (files documents) entries) (k : ℕ) (document : Document)
    (at : slice_get documents k ≡ Some document) where
  pub filed_at : slice_get (files documents) k ≡ Some (filed_document document)
  filed_at = slice_get-map filed_document documents k ∙ ap (option_map filed_document) at

  pub same_files : (other : Document) → filed_document other ≡ filed_document document
      → files (slice_set documents k other) ≡ files documents
  same_files other e =
      map-set_same filed_document documents k other document
      (e ∙ ap filed_document (sym (get_or_from_slice_get documents k document document at)))

  pub in_range : k < length documents
  in_range = slice_get_within documents k document at

  kept_at : edits_of (journal_of (files documents) entries) document.id ≡ map
      (edit_with_id document.id) document.tree.edits
  kept_at = st.kept k (filed_document document) filed_at

  -- a document has no more edits than the journal
  pub few_edits : length document.tree.edits ≤ length entries
  few_edits =
      let same : length (edits_of (journal_of (files documents) entries) document.id)
      ≡ length (map (edit_with_id document.id) document.tree.edits) =
      ap length kept_at in
      omega (
        arith,
        same,
        length-map document.tree.edits (edit_with_id document.id),
        count_filter (λ (edit : Edit). bytes_eq edit.id document.id) (journal_of (files documents) entries),
        length-map entries (edit_at (files documents)),
      )

  -- its winner is deleted where the tree's is
  pub mark_at : IsRevTree document.tree.edits
      → is_deleted (leaves_of document.tree.edits [])
      ≡ is_deleted (leaves_of (journal_of (files documents) entries) document.id)
  mark_at tree =
      sym
      (ap is_deleted (leaves_named
      (journal_of (files documents) entries) document.id document.tree.edits kept_at tree.one)
      ∙ deleted_named document.id (leaves_of document.tree.edits []))

  -- so this document is counted
  pub mark_counted : IsRevTree document.tree.edits → (count : ℕ)
      → count ≡ deleted_in (journal_of (files documents) entries)
      → one_if (is_deleted (leaves_of document.tree.edits [])) ≤ count
  mark_counted tree count c =
      omega (
        arith,
        c,
        ap one_if (mark_at tree),
        deleted_some (journal_of (files documents) entries) document.id,
      )

  pub unchanged : (index index' : List (ℕ × ℕ)) → IsIndexed (files documents) entries index
      → (other : Document) (entries' : List Entry) → filed_document other ≡ filed_document document → entries' ≡ entries
      → index' ≡ index → IsFiled limit numbers (files (slice_set documents k other)) entries'
      × (journal_of (files (slice_set documents k other)) entries' ≡ journal_of (files documents) entries)
      × IsIndexed (files (slice_set documents k other)) entries' index'
  unchanged index index' ix other entries' e es is = rw (same_files other e, es, is) (st, refl, ix)

  -- an edit that takes memory on the tree takes it in the journal
  pub needs_at : (id : List ℕ) → numbers id ≡ Some k → IsRevTree document.tree.edits → (edit : Incoming)
      → NeedsRoomFor document.tree.edits [] edit → NeedsRoomFor (journal_of (files documents) entries) id edit
  needs_at id there tree edit n =
      let f = st.found id k there in
      let this : document.id ≡ id = ap (λ (z : FiledDocument). z.id)
      (same_Some (filed_document document) f.0 (sym filed_at ∙ f.1)) ∙ f.2 in
      subst (λ i. NeedsRoomFor (journal_of (files documents) entries) i edit) this
      (needs_in (journal_of (files documents) entries) document.id document.tree.edits kept_at tree.one
      edit.origin
      edit.deleted edit.body st.legal n)

  leaves_so : (index index' : List (ℕ × ℕ)) → IsIndexed (files documents) entries index
      → (tree : IsRevTree document.tree.edits) (looked : Looked)
      (room : (e : Edit) → looked ≡ Ready e → length entries < limit)
      (other : Document) (entries' : List Entry)
      → IsStorable document.tree.edits looked
      → filed_document other ≡ document_after looked (setting_of k document entries index)
      → entries' ≡ entries_after looked (setting_of k document entries index)
      → index' ≡ rows_after looked (setting_of k document entries index)
      → Leaves limit (files documents) entries document.id looked numbers
      (files (slice_set documents k other)) entries'
      index'
  leaves_so index index' ix tree (Ready x) room other entries' s e es is =
      let within : k < length documents = slice_get_within documents k document at in
      let now : slice_get (files (slice_set documents k other)) k ≡ Some (filed_document other) =
      slice_get-map filed_document (slice_set documents k other) k
      ∙ ap (option_map filed_document) (get_set documents k other within) in
      rw (es, is) (stores limit numbers
      (files documents) entries st index ix document.id k document.tree.edits
      (inl (st.own k (filed_document document) filed_at, (filed_document document, filed_at, refl))) tree.one x s
      (room x refl) numbers
      (files (slice_set documents k other))
      (now ∙ ap Some e)
      (λ j n. slice_get-map filed_document (slice_set documents k other) j
      ∙ (ap (option_map filed_document) (get_set_other documents k other j n) ∙ sym (slice_get-map filed_document documents j)))
      (st.own k (filed_document document) filed_at) (λ q n. refl)
      (λ f g. let looked : length (files (slice_set documents k other)) ≡ length
      (slice_set documents k other) =
      length-map (slice_set documents k other) filed_document in
      omega (arith, looked, length-set documents k other, length-map documents filed_document))
      (λ g. absurd (none-some (filed_document document) (sym g ∙ filed_at))))
  leaves_so index index' ix tree Known room other entries' s e es is =
      rw (same_files other e, es, is) (st, refl, ix)
  leaves_so index index' ix tree (Refused fault) room other entries' s e es is =
      rw (same_files other e, es, is) (st, refl, ix)

  -- the state after an edit of this document is stored
  pub extended : (index index' : List (ℕ × ℕ)) → IsIndexed (files documents) entries index → (id : List ℕ)
      → numbers id ≡ Some k → IsRevTree document.tree.edits
      → (edit : Incoming) (other : Document) (entries' : List Entry) (o : Outcome Revision)
      → IsWritten (look_in limit (setting_of k document entries index) edit)
      (setting_of k document entries index)
      (setting_of k other entries' index') o → IsRevTree other.tree.edits
      → (count count' : ℕ) → count ≡ deleted_in (journal_of (files documents) entries)
      → count' + one_if (is_deleted (leaves_of document.tree.edits []))
      ≡ count + one_if (is_deleted (leaves_of other.tree.edits []))
      → IsFiled limit numbers (files (slice_set documents k other)) entries'
      × (stores_edit limit (journal_of (files documents) entries) id edit
      ≡ record { outcome = o; journal = journal_of (files (slice_set documents k other)) entries' })
      × (count' ≡ deleted_in (journal_of (files (slice_set documents k other)) entries'))
      × IsIndexed (files (slice_set documents k other)) entries' index'
  extended index index' ix id there tree edit other entries' o x tree' count count' c h =
      let looked : Looked = unless_full (nat_le limit (length entries))
      (look_at document.id document.tree.edits edit) in
      let left =
      leaves_so index index' ix tree looked
      (λ e r. room_in limit (length entries) (look_at document.id document.tree.edits edit) e r) other
      entries' x.storable
      x.document x.entries x.rows in
      let full : nat_le limit (length (journal_of (files documents) entries))
      ≡ nat_le limit (length entries) =
      ap (nat_le limit) (length-map entries (edit_at (files documents))) in
      let f = st.found id k there in
      let this : document.id ≡ id = ap (λ (z : FiledDocument). z.id)
      (same_Some (filed_document document) f.0 (sym filed_at ∙ f.1)) ∙ f.2 in
      let said =
      stores_by (journal_of (files documents) entries) document.id document.tree.edits kept_at tree.one limit
      (nat_le limit (length entries)) full edit in
      let answers : stores_edit limit (journal_of (files documents) entries) document.id edit
      ≡ record { outcome = o; journal = journal_of (files (slice_set documents k other)) entries' } =
      said
      ∙ (ap (λ (a : Outcome Revision).
      record {
        outcome = a;
        journal = journal_after looked document.id
            (journal_of (files documents) entries);
      })
      (sym x.answer)
      ∙ ap (λ (journal : List Edit). record { outcome = o; journal = journal }) (sym left.1)) in
      let now : slice_get (files (slice_set documents k other)) k ≡ Some (filed_document other) =
      slice_get-map filed_document (slice_set documents k other) k
      ∙ ap (option_map filed_document) (get_set documents k other in_range) in
      let named_now : other.id ≡ document.id = id_stays looked (setting_of k document entries index)
      (filed_document other) x.document in
      let kept_now : edits_of (journal_of (files (slice_set documents k other)) entries') other.id
      ≡ map (edit_with_id other.id) other.tree.edits =
      left.0.kept k (filed_document other) now in
      let mark_now : is_deleted (leaves_of other.tree.edits [])
      ≡ is_deleted (leaves_of (journal_of (files (slice_set documents k other)) entries') document.id) =
      sym
      (ap is_deleted
      (leaves_named (journal_of (files (slice_set documents k other)) entries') other.id other.tree.edits
      kept_now
      tree'.one)
      ∙ deleted_named other.id (leaves_of other.tree.edits []))
      ∙ ap (λ (i : List ℕ). is_deleted
      (leaves_of (journal_of (files (slice_set documents k other)) entries') i))
      named_now in (
        left.0,
        subst (λ i. stores_edit limit (journal_of (files documents) entries) i edit
            ≡ record { outcome = o; journal = journal_of (files (slice_set documents k other)) entries' })
            this answers,
        counted_on (journal_of (files documents) entries)
            (journal_of (files (slice_set documents k other)) entries')
            document.id looked left.1 count count' (is_deleted (leaves_of document.tree.edits []))
            (is_deleted (leaves_of other.tree.edits [])) (mark_at tree) mark_now c h,
        left.2,
      )
    where
      id_stays : (looked : Looked) (setting : Setting) (g : FiledDocument) → g ≡ document_after looked setting
          → g.id ≡ setting.document.id
      id_stays Known setting g e = ap (λ (z : FiledDocument). z.id) e
      id_stays (Refused fault) setting g e = ap (λ (z : FiledDocument). z.id) e
      id_stays (Ready x) setting g e = ap (λ (z : FiledDocument). z.id) e

-- the first edit of a document
module _ (old : Inside) (st : HasDocuments old) (ix : HasRows old) (id : List ℕ)
    (absent : number_by old id ≡ None) where
  inserted : (looked : Looked)
      (room : (edit : Edit) → looked ≡ Ready edit → length old.journal.items < old.limits.journal)
      (numbers' : List ℕ → Option ℕ) (documents' : List Document) (entries' : List Entry)
      (index' : List (ℕ × ℕ))
      → IsStorable [] looked
      → files documents' ≡ documents_after looked (first_setting id old) (files old.documents.items)
      → entries' ≡ entries_after looked (first_setting id old)
      → ((q : List ℕ) → numbers' q ≡ numbers_after looked id (length old.documents.items) (number_by old) q)
      → index' ≡ rows_after looked (first_setting id old)
      → Leaves old.limits.journal (files old.documents.items) old.journal.items id looked numbers'
      (files documents') entries' index'
  inserted looked room numbers' documents' entries' index' s fs es ns is =
      rw (fs, es, is) (at looked s room ns)
    where
      many_files : length (files old.documents.items) ≡ length old.documents.items
      many_files = length-map old.documents.items filed_document

      past : slice_get (files old.documents.items) (length old.documents.items) ≡ None
      past =
          slice_get_past (files old.documents.items) (length old.documents.items) (omega (arith, many_files))

      at : (looked : Looked) → IsStorable [] looked
          → ((edit : Edit) → looked ≡ Ready edit → length old.journal.items < old.limits.journal)
          → ((q : List ℕ) → numbers' q ≡ numbers_after looked id (length old.documents.items)
          (number_by old) q)
          → Leaves old.limits.journal (files old.documents.items) old.journal.items id looked numbers'
          (documents_after looked (first_setting id old) (files old.documents.items))
          (entries_after looked (first_setting id old)) (rows_after looked (first_setting id old))
      at (Ready edit) s room ns =
          let new : FiledDocument = record { id = id; latest = length old.journal.items + 1; edits = edit ∷ [] } in
          stores old.limits.journal (number_by old) (files old.documents.items) old.journal.items st.filed
          old.index ix id (length old.documents.items) [] (inr (absent, past, refl)) refl edit s
          (room edit refl)
          numbers' (files old.documents.items ++ new ∷ [])
          (subst (λ n. slice_get (files old.documents.items ++ new ∷ []) n ≡ Some new) many_files
          (get_push (files old.documents.items) new))
          (λ j n. get_push_other (files old.documents.items) new j (λ edit. n (edit ∙ many_files)))
          (ns id
          ∙ ap (λ b. if b then Some (length old.documents.items) else number_by old id)
          (text_same id id refl))
          (λ q n. ns q
          ∙ ap (λ b. if b then Some (length old.documents.items) else number_by old q)
          (text_apart id q (λ edit. n (sym edit))))
          (λ d g. absurd (none-some d (sym past ∙ g))) (λ g. length_push (files old.documents.items) new)
      at Known s room ns =
          let same : numbers' ≡ number_by old = λ i q. ns q i in (
            subst (λ f. IsFiled old.limits.journal f (files old.documents.items) old.journal.items)
                (sym same) st.filed,
            refl,
            ix,
          )
      at (Refused fault) s room ns =
          let same : numbers' ≡ number_by old = λ i q. ns q i in (
            subst (λ f. IsFiled old.limits.journal f (files old.documents.items) old.journal.items)
                (sym same) st.filed,
            refl,
            ix,
          )

-- the count after the first edit of a document
first_counted : (journal later_journal : List Edit) (id : List ℕ) (looked : Looked) (setting : Setting)
    (count count' : ℕ)
    → setting.document ≡ unwritten_document id → later_journal ≡ journal_after looked id journal
    → edits_of journal id ≡ [] → IsStorable [] looked → count ≡ deleted_in journal
    → count' ≡ count + one_if (is_deleted (leaves_of (document_after looked setting).edits []))
    → count' ≡ deleted_in later_journal
first_counted journal later_journal id Known setting count count' first same none storable c h =
    omega (
      arith,
      h,
      c,
      ap deleted_in same,
      ap (λ (filed : FiledDocument). one_if (is_deleted (leaves_of filed.edits []))) first,
    )
first_counted journal later_journal id (Refused edit) setting count count' first same none storable c h =
    omega (
      arith,
      h,
      c,
      ap deleted_in same,
      ap (λ (filed : FiledDocument). one_if (is_deleted (leaves_of filed.edits []))) first,
    )
first_counted journal later_journal id (Ready e) setting count count' first same none storable c h =
    let one : edits_of (e ∷ []) [] ≡ e ∷ [] =
    ap (λ b. if b then (e ∷ []) else []) (text_same e.id [] storable.0) in
    let kept : edits_of (journal ++ edit_with_id id e ∷ []) id ≡ map (edit_with_id id) (e ∷ []) =
    filter-append (λ (edit : Edit). bytes_eq edit.id id) journal (edit_with_id id e ∷ [])
    ∙ (ap (λ es. es ++ (if bytes_eq id id then (edit_with_id id e ∷ []) else [])) none
    ∙ ap (λ b. if b then (edit_with_id id e ∷ []) else []) (text_same id id refl)) in
    let now : is_deleted (leaves_of (e ∷ []) []) ≡ is_deleted (leaves_of (journal ++ edit_with_id id e ∷ []) id) =
    sym
    (ap is_deleted (leaves_named (journal ++ edit_with_id id e ∷ []) id (e ∷ []) kept one)
    ∙ deleted_named id (leaves_of (e ∷ []) [])) in
    let before : false ≡ is_deleted (leaves_of journal id) =
    sym (ap (λ es. is_deleted (best_first (leaves_among es es))) none) in
    let only : one_if (is_deleted (leaves_of (setting.document.edits ++ e ∷ []) []))
    ≡ one_if (is_deleted (leaves_of (e ∷ []) [])) =
    ap (λ (filed : FiledDocument). one_if (is_deleted (leaves_of (filed.edits ++ e ∷ []) []))) first in
    counted_on journal later_journal id (Ready e) same count count' false
    (is_deleted (leaves_of (e ∷ []) [])) before
    (now ∙ ap (λ K. is_deleted (leaves_of K id)) (sym same)) c (omega (arith, h, only))

-- the fields after the first edit of a document, one by one
pub first_stored : (id : List ℕ) (edit : Incoming) (old new : Inside) (none d : FiledDocument) (look : Looked)
    (e : Edit) (revision : Revision) (number : ℕ)
    → none ≡ unwritten_document id
    → look
    ≡ unless_full (nat_le old.limits.journal (length old.journal.items)) (look_at none.id none.edits edit)
    → look ≡ Ready e → IsStorable none.edits look → head_of e ≡ Some revision
    → d ≡ record { id = none.id; latest = length old.journal.items + 1; edits = none.edits ++ e ∷ [] }
    → number ≡ length old.documents.items
    → files new.documents.items ≡ files old.documents.items ++ d ∷ []
    → new.journal.items ≡ old.journal.items ++ record { document = number; revision = length none.edits } ∷ []
    → IsOrder (ids_in old) old.numbers → number_by old id ≡ None
    → new.numbers ≡ with_number (ids_in old) old.numbers id number
    → IsOrder (ids_in old ++ id ∷ []) new.numbers
    → new.deleted ≡ old.deleted + one_if (is_deleted (leaves_of d.edits []))
    → new.index ≡ rows_after_move old.index number (length old.journal.items + 1)
    → IsInserted id (look_in old.limits.journal (first_setting id old) edit) old new (outcome.Stored revision)
first_stored id edit old new none d look e revision number first looked ready storable head now place fs js
    order
    absent ns sorted count rows =
    let more : ids_in new ≡ ids_in old ++ id ∷ [] =
    ap ids_of fs
    ∙ (map_push (λ (z : FiledDocument). z.id) (files old.documents.items) d
    ∙ ap (λ (i : List ℕ). ids_in old ++ i ∷ [])
    (ap (λ (z : FiledDocument). z.id) now ∙ ap (λ (z : FiledDocument). z.id) first)) in
    let next : number ≡ length (ids_in old) =
    omega (
      arith,
      place,
      length-map (files old.documents.items) (λ (z : FiledDocument). z.id),
      length-map old.documents.items filed_document,
    ) in
    let s : Setting = first_setting id old in
    let is : look_in old.limits.journal s edit ≡ Ready e =
    sym
    (ap (λ (z : FiledDocument).
    unless_full (nat_le old.limits.journal (length old.journal.items)) (look_at z.id z.edits edit)) first)
    ∙ (sym looked ∙ ready) in
    let filed_now : d ≡ document_after (Ready e) s =
    now
    ∙ ap
    (λ (z : FiledDocument). record { id = z.id; latest = length old.journal.items + 1; edits = z.edits ++ e ∷ [] })
    first in
    record {
      answer =
          sym
          (ap outcome_of is
          ∙ ap (λ o. outcome.Stored (unwrap_or o (record { generation = 0; hash = [] }))) head);
      files =
          fs
          ∙ (ap (λ x. files old.documents.items ++ x ∷ []) filed_now
          ∙ sym (ap (λ k. documents_after k s (files old.documents.items)) is));
      entries =
          js
          ∙ (ap (λ n. old.journal.items ++ record { document = n; revision = length none.edits } ∷ []) place
          ∙ (ap (λ (z : FiledDocument). old.journal.items
          ++ record { document = length old.documents.items; revision = length z.edits } ∷ []) first
          ∙ sym (ap (λ k. entries_after k s) is)));
      rows =
          rows
          ∙ (ap (λ n. rows_after_move old.index n (length old.journal.items + 1)) place
          ∙ sym (ap (λ k. rows_after k s) is));
      numbers =
          λ q. ap (λ z. number_in z new.numbers q) more
          ∙ (ap (λ l. number_in (ids_in old ++ id ∷ []) l q) ns
          ∙ number_more (ids_in old) old.numbers id number order next absent q)
          ∙ (ap (λ n. update bytes_eq (number_by old) id (Some n) q) place
          ∙ sym (ap (λ k. numbers_after k id (length old.documents.items) (number_by old) q) is));
      order = subst (λ z. IsOrder z new.numbers) (sym more) sorted;
      deleted =
          count
          ∙ (ap (λ (z : FiledDocument). old.deleted + one_if (is_deleted (leaves_of z.edits []))) filed_now
          ∙ sym (ap (λ k. old.deleted + one_if (is_deleted (leaves_of (document_after k s).edits []))) is));
      storable =
          subst (IsStorable []) (ready ∙ sym is)
          (subst (λ (z : FiledDocument). IsStorable z.edits look) first storable);
    }

-- the state after the first edit of a document is stored
pub inserted_so : (old new : Inside) → HasDocuments old → IsCounted old → HasRows old → (id : List ℕ)
    → number_by old id ≡ None → (edit : Incoming) (o : Outcome Revision)
    → IsInserted id (look_in old.limits.journal (first_setting id old) edit) old new o
    → new.limits ≡ old.limits
    → HasDocuments new
    ×
    (stores_edit old.limits.journal (edits_inside old) id edit
    ≡ record { outcome = o; journal = edits_inside new })
    × IsCounted new × HasRows new
inserted_so old new st counted ix id absent edit o x stay =
    let l : Looked =
    unless_full (nat_le old.limits.journal (length old.journal.items)) (look_at id [] edit) in
    let left =
    inserted old st ix id absent l
    (λ e r. room_in old.limits.journal (length old.journal.items) (look_at id [] edit) e r)
    (number_by new) new.documents.items new.journal.items new.index x.storable x.files x.entries
    x.numbers x.rows in
    let none : edits_of (edits_inside old) id ≡ [] = st.filed.others id absent in
    let full : nat_le old.limits.journal (length (edits_inside old))
    ≡ nat_le old.limits.journal (length old.journal.items) =
    ap (nat_le old.limits.journal) (length-map old.journal.items (edit_at (files old.documents.items))) in
    let said =
    stores_by (edits_inside old) id [] none refl old.limits.journal
    (nat_le old.limits.journal (length old.journal.items)) full edit in (
      record { filed = rw stay left.0; order = x.order },
      said
          ∙ (ap (λ (a : Outcome Revision).
          record { outcome = a; journal = journal_after l id (edits_inside old) }) (sym x.answer)
          ∙ ap (λ (journal : List Edit). record { outcome = o; journal = journal }) (sym left.1)),
      first_counted (edits_inside old) (edits_inside new) id l (first_setting id old) old.deleted
          new.deleted
          refl left.1 none x.storable counted x.deleted,
      left.2,
    )

-- a call that changed nothing
pub same_store : (old new : Inside) → HasDocuments old → IsCounted old → HasRows old → ShowsSame old new
    → new.limits ≡ old.limits
    → HasDocuments new × IsCounted new × (edits_inside new ≡ edits_inside old) × HasRows new
same_store old new st counted ix w stay =
    let same : (q : List ℕ) → number_by new q ≡ number_by old q =
    λ q. ap (λ ds. number_in (ids_of ds) new.numbers q) w.documents
    ∙ ap (λ l. number_in (ids_in old) l q) w.numbers in
    let numbers : number_by new ≡ number_by old = λ i q. same q i in (
      record {
        filed = rw stay (rw (numbers, w.documents, w.journal) st.filed);
        order = rw (w.documents, w.numbers) st.order;
      },
      rw (w.deleted, w.documents, w.journal) counted,
      rw (w.documents, w.journal) refl,
      rw (w.documents, w.journal, w.index) ix,
    )

-- the outcome of a first edit, and the journal after it
pub first_said : (old : Inside) → HasDocuments old → (id : List ℕ) → number_by old id ≡ None
    → (edit : Incoming)
    → stores_edit old.limits.journal (edits_inside old) id edit
    ≡ record {
      outcome = outcome_of (look_in old.limits.journal (first_setting id old) edit);
      journal = journal_after (look_in old.limits.journal (first_setting id old) edit) id (edits_inside old);
    }
first_said old st id absent edit =
    let full : nat_le old.limits.journal (length (edits_inside old))
    ≡ nat_le old.limits.journal (length old.journal.items) =
    ap (nat_le old.limits.journal) (length-map old.journal.items (edit_at (files old.documents.items))) in
    stores_by (edits_inside old) id [] (st.filed.others id absent) refl old.limits.journal
    (nat_le old.limits.journal (length old.journal.items)) full edit

-- the invariant holds after a first edit
pub inserted_whole : (old new : Inside) → IsWhole old → (id : List ℕ) → number_by old id ≡ None
    → (edit : Incoming) (o : Outcome Revision)
    → IsInserted id (look_in old.limits.journal (first_setting id old) edit) old new o
    → new.limits ≡ old.limits
    → IsWhole new
    × (stores_edit old.limits.journal (edits_inside old) id edit
    ≡ record { outcome = o; journal = edits_inside new })
inserted_whole old new w id absent edit o x stay =
    let left = inserted_so old new w.documents w.counted w.rows id absent edit o x stay in (
      record { documents = left.0; counted = left.2; rows = left.3 },
      left.1,
    )

pub same_whole : (old new : Inside) → IsWhole old → ShowsSame old new → new.limits ≡ old.limits
    → IsWhole new × (edits_inside new ≡ edits_inside old)
same_whole old new w same stay =
    let left = same_store old new w.documents w.counted w.rows same stay in (
      record { documents = left.0; counted = left.1; rows = left.3 },
      left.2,
    )

-- a number that is found is that of a document
pub number_below : (limit : ℕ) (numbers : List ℕ → Option ℕ) (documents : List Document)
    (entries : List Entry) → IsFiled limit numbers (files documents) entries → (id : List ℕ) (k : ℕ)
    → numbers id ≡ Some k → k < length documents
number_below limit numbers documents entries st id k there =
    let f = st.found id k there in
    omega (arith, slice_get_within (files documents) k f.0 f.1, length-map documents filed_document)

-- the document of a number that is found is in the list
pub document_there : (inside : Inside) → HasDocuments inside → (id : List ℕ) (k : ℕ)
    → number_by inside id ≡ Some k
    → (document : Document) → document ≡ get_or inside.documents.items k document
    → slice_get inside.documents.items k ≡ Some document
document_there inside st id k there document is =
    let numbers = number_by inside in
    let low =
    number_below inside.limits.journal numbers inside.documents.items inside.journal.items st.filed id k
    there in
    at_place inside.documents.items k document low is

-- a consequence of a statement about an error
pub err_then : {T E P Q : Type 0} (result : Result T E) → (P → Q) → OnErr result P → OnErr result Q
err_then (Ok x) f p = tt
err_then (Err e) f p = f p

-- a first edit that takes memory on its tree takes it in the journal
pub needs_first : (inside : Inside) → HasDocuments inside → (id : List ℕ) → number_by inside id ≡ None
    → (edit : Incoming) → NeedsRoomFor [] [] edit → NeedsRoomFor (edits_inside inside) id edit
needs_first inside st id absent edit n =
    needs_in (edits_inside inside) id [] (st.filed.others id absent) refl edit.origin edit.deleted edit.body
    st.filed.legal n

-- a number past the documents has no row
pub no_row : (inside : Inside) → HasRows inside → seq_of (length inside.documents.items) inside.index ≡ None
no_row inside ix =
    let n = length inside.documents.items in
    let many : length (files inside.documents.items) ≡ n = length-map inside.documents.items filed_document in
    ix.none n
    (ap (option_map latest_of) (slice_get_past (files inside.documents.items) n (omega (arith, many))))

-- ---- the ids of documents

-- the ids, where one document changed, and kept its id
pub ids_stay : (documents : List Document) (k : ℕ) (document other : Document)
    → slice_get documents k ≡ Some document
    → other.id ≡ document.id → ids_of (files (slice_set documents k other)) ≡ ids_of (files documents)
ids_stay documents k document other at same =
    map-map (λ (z : FiledDocument). z.id) filed_document (slice_set documents k other)
    ∙ (map-set_same (λ (z : Document). z.id) documents k other document
    (same ∙ ap (λ (z : Document). z.id) (sym (get_or_from_slice_get documents k document document at)))
    ∙ sym (map-map (λ (z : FiledDocument). z.id) filed_document documents))

-- a document keeps its id when an edit of it is written
pub id_kept : (looked : Looked) (k : ℕ) (document other : Document) (entries : List Entry)
    (index : List (ℕ × ℕ))
    → filed_document other ≡ document_after looked (setting_of k document entries index) → other.id ≡ document.id
id_kept Known k document other entries index e = ap (λ (z : FiledDocument). z.id) e
id_kept (Refused fault) k document other entries index e = ap (λ (z : FiledDocument). z.id) e
id_kept (Ready x) k document other entries index e = ap (λ (z : FiledDocument). z.id) e

-- contents in which one document changed, and kept its id
pub store_stays : (old new : Inside) (k : ℕ) (document other : Document) → HasDocuments old
    → slice_get old.documents.items k ≡ Some document → other.id ≡ document.id
    → new.documents.items ≡ slice_set old.documents.items k other → new.numbers ≡ old.numbers
    → IsFiled new.limits.journal (number_by old) (files new.documents.items) new.journal.items →
    HasDocuments new
store_stays old new k document other st at same documents numbers filed_now =
    let ids : ids_in new ≡ ids_in old =
    ap (λ ds. ids_of (files ds)) documents ∙ ids_stay old.documents.items k document other at same in
    let each : (q : List ℕ) → number_by new q ≡ number_by old q =
    λ q. ap (λ z. number_in z new.numbers q) ids ∙ ap (λ l. number_in (ids_in old) l q) numbers in
    let found : number_by new ≡ number_by old = λ i q. each q i in
    record {
      filed =
          subst (λ f. IsFiled new.limits.journal f (files new.documents.items) new.journal.items)
          (sym found) filed_now;
      order = rw (ids, numbers) st.order;
    }

-- the invariant holds after a write that changed nothing of a document that is there
pub unchanged_whole : (old new : Inside) → IsWhole old → (id : List ℕ) (k : ℕ) → number_by old id ≡ Some k
    → (document other : Document) → document ≡ get_or old.documents.items k document
    → filed_document other ≡ filed_document document → new.documents.items ≡ slice_set old.documents.items k other
    → new.numbers ≡ old.numbers → new.journal.items ≡ old.journal.items → new.index ≡ old.index
    → new.deleted ≡ old.deleted → new.limits ≡ old.limits
    → IsWhole new × (edits_inside new ≡ edits_inside old)
unchanged_whole old new w id k there document other is same documents numbers journal index deleted limits =
    let at = document_there old w.documents id k there document is in
    same_whole old new w
    (record {
      documents =
          ap files documents
          ∙ same_files old.limits.journal (number_by old) old.documents.items old.journal.items
          w.documents.filed k document at other same;
      numbers = numbers;
      journal = journal;
      deleted = deleted;
      index = index;
    })
    limits

-- the invariant holds after the write of an edit of a document that is there
pub extended_whole : (old new : Inside) → IsWhole old → (id : List ℕ) (k : ℕ) → number_by old id ≡ Some k
    → (document other : Document) → document ≡ get_or old.documents.items k document
    → IsRevTree document.tree.edits → IsRevTree other.tree.edits → (edit : Incoming) (o : Outcome Revision)
    → IsWritten (look_in old.limits.journal (setting_of k document old.journal.items old.index) edit)
    (setting_of k document old.journal.items old.index)
    (setting_of k other new.journal.items new.index) o
    → new.documents.items ≡ slice_set old.documents.items k other → new.numbers ≡ old.numbers
    → new.deleted + one_if (is_deleted (leaves_of document.tree.edits []))
    ≡ old.deleted + one_if (is_deleted (leaves_of other.tree.edits []))
    → new.limits ≡ old.limits
    → IsWhole new
    × (stores_edit old.limits.journal (edits_inside old) id edit
    ≡ record { outcome = o; journal = edits_inside new })
extended_whole old new w id k there document other is tree tree' edit o x documents numbers count limits =
    let limit = old.limits.journal in
    let at = document_there old w.documents id k there document is in
    let same : other.id ≡ document.id =
    id_kept (look_in limit (setting_of k document old.journal.items old.index) edit) k document other
    old.journal.items old.index x.document in
    let left =
    extended limit (number_by old) old.documents.items old.journal.items w.documents.filed k document at
    old.index new.index w.rows id there tree edit other new.journal.items o x tree' old.deleted new.deleted
    w.counted count in
    let now =
    subst (λ (ds : List Document). IsFiled limit (number_by old) (files ds) new.journal.items
    × (stores_edit limit (edits_inside old) id edit
    ≡ record { outcome = o; journal = journal_of (files ds) new.journal.items })
    × (new.deleted ≡ deleted_in (journal_of (files ds) new.journal.items))
    × IsIndexed (files ds) new.journal.items new.index) (sym documents) left in (
      record {
        documents = store_stays old new k document other w.documents at same documents numbers
            (subst (λ (l : Limits). IsFiled l.journal (number_by old) (files new.documents.items)
            new.journal.items) (sym limits) now.0);
        counted = now.2;
        rows = now.3;
      },
      now.1,
    )

-- the id of the document of a number
pub id_here : (documents : List Document) (k : ℕ) (document : Document) → k < length documents
    → document ≡ get_or documents k document → document.id ≡ id_at (ids_of (files documents)) k
id_here documents k document low is =
    let within : k < length (files documents) = omega (arith, length-map documents filed_document) in
    sym
    (get_or-map (λ (z : FiledDocument). z.id) (files documents) k (filed_document document) [] within
    ∙ (ap (λ (z : FiledDocument). z.id) (get_or-map filed_document documents k document (filed_document document) low)
    ∙ ap (λ (z : Document). z.id) (sym is)))

-- a number whose document has an id is the number of that id
pub number_has : (documents : List Document) (numbers : List ℕ) → HasNumbers (files documents) numbers
    → (id : List ℕ) (k : ℕ) → k < length (ids_of (files documents)) → id_at (ids_of (files documents)) k ≡ id
    → number_in (ids_of (files documents)) numbers id ≡ Some k
number_has documents numbers own id k low here =
    let within : k < length (files documents) =
    omega (arith, length-map (files documents) (λ (filed : FiledDocument). filed.id)) in
    let d : FiledDocument = get_or (files documents) k (unwritten_document []) in
    let edit_with_id : d.id ≡ id =
    sym (get_or-map (λ (filed : FiledDocument). filed.id) (files documents) k (unwritten_document []) [] within) ∙ here in
    ap (number_in (ids_of (files documents)) numbers) (sym edit_with_id)
    ∙ own k d (slice_get-get_or (files documents) k (unwritten_document []) within)

-- an id without an edit in the journal has no number
pub no_number : (inside : Inside) → HasDocuments inside → (id : List ℕ)
    → edits_of (edits_inside inside) id ≡ [] → number_by inside id ≡ None
no_number inside is id none = from (number_by inside id) refl
  where
    from : (number : Option ℕ) → number_by inside id ≡ number → number_by inside id ≡ None
    from None e = e
    from (Some k) e =
        let f = is.filed.found id k e in
        let d = f.0 in
        let kept = is.filed.kept k d f.1 in
        let empty : edits_of (edits_inside inside) d.id ≡ [] =
        ap (edits_of (edits_inside inside)) f.2 ∙ none in
        let same : length (map (edit_with_id d.id) d.edits) ≡ 0 = ap length (sym kept ∙ empty) in
        absurd (omega (arith, same, length-map d.edits (edit_with_id d.id), is.filed.some k d f.1))

-- the row of a new document, taken back
pub row_taken : (rows : List (ℕ × ℕ)) (number seq : ℕ) → seq_of number rows ≡ None
    → All (λ (row : ℕ × ℕ). row.0 < seq) rows
    → filter (λ (row : ℕ × ℕ). not (nat_eq row.0 seq)) (rows_after_move rows number seq) ≡ rows
row_taken rows number seq none above =
    let p : ℕ × ℕ → Bool = λ row. not (nat_eq row.0 seq) in
    ap (filter p) (sym (moved_new number rows seq none))
    ∙ (filter-append p rows ((seq, number) ∷ [])
    ∙ (ap (λ b. filter p rows ++ (if not b then ((seq, number) ∷ []) else [])) (eq-eqb seq seq refl)
    ∙ (append-nil (filter p rows)
    ∙ filter_keeps p rows (λ k other_row l.
    ap not (ne_eqb (get_or rows k other_row).0 seq (λ e. below k other_row l e))))))
  where
    below : (k : ℕ) (other_row : ℕ × ℕ) → k < length rows → (get_or rows k other_row).0 ≡ seq → ⊥
    below k other_row l e = let low = above k other_row l in omega (arith, e, low)
