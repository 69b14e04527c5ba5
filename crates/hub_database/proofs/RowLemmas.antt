-- The row of a document, by its tree and by the index.
use Rattle.std.proofs.Common.{◌≡◌, ℕ, ◌+◌, ◌<◌, List, [], ◌∷◌, length, Bool, true, false, ap, refl, sym, ◌∙◌}
use Rattle.std.proofs.Common.{subst}
use Rattle.std.proofs.Common.{arith, find, Contains, nat_lt}
use Rattle.std.specs.declared.alloc.AllocError.{AllocError}
use Rattle.std.specs.Prelude.{IfOk, OnOk, Result, Ok, Err, get_or, take, Option, Some, slice_get, map}
use Rattle.std.specs.Prelude.{reverse}
use Rattle.std.specs.Prelude.{option_map}
use Rattle.std.proofs.lemmas.List.{length-map}
use Rattle.std.proofs.lemmas.Option.{same_Some, slice_get-get_or, slice_get-map, slice_get_within}
use Rattle.hub_index.specs.Indexed.{id_in, row_in}
use Rattle.hub_index.specs.Rows.{last_before, next_after}
use Rattle.hub_index.proofs.IndexedLemmas.{current_edit, last_found, last_known, next_found, next_known}
use Rattle.hub_index.proofs.ListLemmas.{at_place}
use Rattle.hub_model.specs.Journal.{Edit, edits_of}
use Rattle.hub_model.specs.Leaves.{Leaf, leaves_of}
use Rattle.hub_model.specs.Current.{Current, current}
use Rattle.hub_model.specs.Row.{ChangeRow, row_of, changes_of, doc_of, is_deleted}
use Rattle.hub_model.specs.declared.feeds.Style.{Style}
use Rattle.hub_model.specs.declared.feeds.Style.TheVariants.{MainOnly, AllDocs}
use Rattle.hub_feed.specs.Reach.{first_within}
use Rattle.hub_feed.proofs.CurrentLemmas.{row_there}
use Rattle.hub_revtree.specs.Tree.{IsRevTree}
use Rattle.hub_database.specs.declared.entry.Entry.{Entry}
use Rattle.hub_database.specs.declared.document.Document.{Document}
use Rattle.hub_database.specs.Filed.{FiledDocument, edit_with_id, edit_at, edit_in, journal_of, IsFiled}
use Rattle.hub_database.specs.Indexed.{IsIndexed, latest_at, latest_of}
use Rattle.hub_database.specs.Documents.{filed_document, files, made_row}
use Rattle.hub_database.proofs.IndexedLemmas.{document_at}
use Rattle.hub_database.proofs.NamedLemmas.{renamed, leaves_named, revisions_named, deleted_named}

changes_named : (style : Style) (id : List ℕ) (leaves : List Leaf)
    → changes_of style (map (renamed id) leaves) ≡ changes_of style leaves
changes_named MainOnly id leaves = ap (take 1) (revisions_named id leaves)
changes_named AllDocs id leaves = revisions_named id leaves

doc_named : (include_docs : Bool) (id : List ℕ) (leaves : List Leaf)
    → doc_of include_docs (map (renamed id) leaves) ≡ doc_of include_docs leaves
doc_named false id leaves = refl
doc_named true id [] = refl
doc_named true id (leaf ∷ leaves) = refl

-- the row at this sequence, of a document with this id and these edits, made while there are so many edits
abbrev row_as : ℕ → List ℕ → List Edit → Style → Bool → ℕ → ChangeRow
row_as seq id edits style include_docs seen =
    made_row seq id edits style (doc_of include_docs (leaves_of edits [])) seen

-- a document's row, by its tree
row_by : (journal : List Edit) (style : Style) (include_docs : Bool) (row : Current) (edits : List Edit)
    → edits_of journal row.id ≡ map (edit_with_id row.id) edits → IsRevTree edits
    → row_of journal style include_docs row ≡ row_as row.seq row.id edits style include_docs (length journal)
row_by journal style include_docs row edits kept tree =
    rw (
      leaves_named journal row.id edits kept tree.one,
      changes_named style row.id (leaves_of edits []),
      deleted_named row.id (leaves_of edits []),
      doc_named include_docs row.id (leaves_of edits []),
    ) refl

-- the row of the document to which the journal's entry at a current row's sequence leads
module _ (limit : ℕ) (numbers : List ℕ → Option ℕ) (documents : List Document) (entries : List Entry)
    (st : IsFiled limit numbers (files documents) entries) where
  pub entry_low : (i : ℕ) (x : Entry) → i < length entries → x ≡ get_or entries i x
      → x.document < length documents
  entry_low i x low is =
      let w = st.within i x (at_place entries i x low is) in
      omega (arith, slice_get_within (files documents) x.document w.0 w.1, length-map documents filed_document)

  row_at : (row : Current) → Contains (current (journal_of (files documents) entries)) row
      → (i : ℕ) (x : Entry) → row.seq ≡ i + 1 → slice_get entries i ≡ Some x → (document : Document)
      → slice_get documents x.document ≡ Some document → IsRevTree document.tree.edits
      → (style : Style) (include_docs : Bool)
      → row_of (journal_of (files documents) entries) style include_docs row
      ≡ row_as row.seq document.id document.tree.edits style include_docs
      (length (journal_of (files documents) entries))
  row_at row h i x s here document at tree style include_docs =
      let there : slice_get (files documents) x.document ≡ Some (filed_document document) =
      slice_get-map filed_document documents x.document ∙ ap (option_map filed_document) at in
      let edit : slice_get (journal_of (files documents) entries) i ≡ Some (edit_at (files documents) x) =
      slice_get-map (edit_at (files documents)) entries i
      ∙ ap (option_map (edit_at (files documents))) here in
      let J = journal_of (files documents) entries in
      let own = current_edit J row h i s in
      let found : edit_at (files documents) x ≡ own.0 =
      same_Some (edit_at (files documents) x) own.0 (sym edit ∙ own.1) in
      let same : document.id ≡ row.id =
      sym (ap (λ o. (edit_in o x.revision).id) there) ∙ (ap (λ (e : Edit). e.id) found ∙ own.2) in
      let kept = st.kept x.document (filed_document document) there in
      row_by J style include_docs row document.tree.edits
      (subst (λ q. edits_of J q ≡ map (edit_with_id q) document.tree.edits) same kept) tree
      ∙ ap (λ (q : List ℕ). row_as row.seq q document.tree.edits style include_docs (length J)) (sym same)

  pub row_answer : (result : Result ChangeRow AllocError) (seq seen i : ℕ) (x : Entry) → seq ≡ i + 1
      → i < length entries → x ≡ get_or entries i x → (document : Document)
      → document ≡ get_or documents x.document document → (style : Style) (include_docs : Bool)
      → IfOk result (λ r. r ≡ row_as seq document.id document.tree.edits style include_docs seen)
      → OnOk result (IsRevTree document.tree.edits) → seen ≡ length (journal_of (files documents) entries)
      → IfOk result (λ r. (c : Current) → Contains (current (journal_of (files documents) entries)) c
      → c.seq ≡ seq → r ≡ row_of (journal_of (files documents) entries) style include_docs c)
  row_answer (Ok r) seq seen i x s low is document at style include_docs row tree all = λ c h e.
      row
      ∙ (ap (λ (n : ℕ). row_as n document.id document.tree.edits style include_docs seen) (sym e)
      ∙ (ap (λ (n : ℕ). row_as c.seq document.id document.tree.edits style include_docs n) all
      ∙ sym (row_at c h i x (e ∙ s) (at_place entries i x low is) document
      (at_place documents x.document document (entry_low i x low is) at) tree style include_docs)))
  row_answer (Err e) seq seen i x s low is document at style include_docs row tree all = tt

-- the rows that a step in the index finds
module _ (documents : List Document) (entries : List Entry) (index : List (ℕ × ℕ))
    (ix : IsIndexed (files documents) entries index) where
  -- a number that has an id is a document's
  number_low : (k : ℕ) (p : List ℕ × ℕ) → latest_at (files documents) k ≡ Some p → k < length documents
  number_low k p is =
      let d = document_at (files documents) k p is in
      omega (arith, slice_get_within (files documents) k d.0 d.1, length-map documents filed_document)

  number_there : (k : ℕ) (document : Document) → k < length documents → document ≡ get_or documents k document
      → latest_at (files documents) k ≡ Some (document.id, document.latest)
  number_there k document low is =
      ap (option_map latest_of)
      (slice_get-map filed_document documents k ∙ ap (option_map filed_document) (at_place documents k document low is))

  -- a document's row lies at its latest edit
  pub document_row : (k : ℕ) (document : Document) → k < length documents
      → document ≡ get_or documents k document
      → Contains (current (journal_of (files documents) entries))
      (record { seq = document.latest; id = document.id })
  document_row k document low is =
      let at = number_there k document low is in
      row_there (row_in (latest_at (files documents))) index
      (current (journal_of (files documents) entries)) k
      document.latest document.id ix.rows (ix.key k (document.id, document.latest) at)
      (λ r e. ap (λ (o : Option (List ℕ × ℕ)). record { seq = r.0; id = id_in o })
      (ap (latest_at (files documents)) e ∙ at))

  -- the next row is of a document
  module _ (place : ℕ) (bound : Option ℕ) (r : ℕ × ℕ) (is : Some r ≡ next_after index place bound) where
    pub next_low : r.1 < length documents
    next_low =
        let J = journal_of (files documents) entries in
        let w = next_known (latest_at (files documents)) J index ix place bound r is in number_low r.1 w.0 w.1

    pub next_shown : (d : Document) → d ≡ get_or documents r.1 d
        → Some (record { seq = r.0; id = d.id })
        ≡ first_within place bound (current (journal_of (files documents) entries))
    next_shown d at =
        next_found (latest_at (files documents)) (journal_of (files documents) entries) index ix place bound r
        is
        (d.id, d.latest) (number_there r.1 d next_low at)

  -- and so is the last one
  module _ (place : ℕ) (r : ℕ × ℕ) (is : Some r ≡ last_before index place) where
    pub last_low : r.1 < length documents
    last_low =
        let J = journal_of (files documents) entries in
        let w = last_known (latest_at (files documents)) J index ix place r is in number_low r.1 w.0 w.1

    pub last_shown : (d : Document) → d ≡ get_or documents r.1 d
        → Some (record { seq = r.0; id = d.id })
        ≡ find (λ (c : Current). nat_lt c.seq place)
        (reverse (current (journal_of (files documents) entries)))
    last_shown d at =
        last_found (latest_at (files documents)) (journal_of (files documents) entries) index ix place r is
        (d.id, d.latest) (number_there r.1 d last_low at)

pub get_default : {A : Type 0} (xs ys : List A) (i : ℕ) (e : A) → ys ≡ xs → i < length ys
    → slice_get xs i ≡ Some (get_or ys i e)
get_default xs ys i e same low = ap (λ zs. slice_get zs i) (sym same) ∙ slice_get-get_or ys i e low

-- the document of an entry
pub document_of : (limit : ℕ) (numbers : List ℕ → Option ℕ) (documents : List Document) (entries : List Entry)
    → IsFiled limit numbers (files documents) entries → (i : ℕ) (x : Entry) → slice_get entries i ≡ Some x
    → (document : Document) → document ≡ get_or documents x.document document
    → slice_get documents x.document ≡ Some document
document_of limit numbers documents entries st i x here document is =
    let w = st.within i x here in
    at_place documents x.document document
    (omega (arith, slice_get_within (files documents) x.document w.0 w.1, length-map documents filed_document)) is

-- the document with an id that has a number
pub numbered : (limit : ℕ) (numbers : List ℕ → Option ℕ) (documents : List Document) (entries : List Entry)
    → IsFiled limit numbers (files documents) entries → (id : List ℕ) (k : ℕ) → numbers id ≡ Some k
    → (k < length documents) ×
    ((document : Document) → document ≡ get_or documents k document → document.id ≡ id)
numbered limit numbers documents entries st id k e =
    let w = st.found id k e in
    let low : k < length documents =
    omega (arith, slice_get_within (files documents) k w.0 w.1, length-map documents filed_document) in (
      low,
      λ document is. ap (λ (f : FiledDocument). f.id)
          (same_Some (filed_document document) w.0
          (sym (slice_get-map filed_document documents k
          ∙ ap (option_map filed_document) (at_place documents k document low is)) ∙ w.1))
          ∙ w.2,
    )
