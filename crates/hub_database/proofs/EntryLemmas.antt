-- The edit of a sequence is the one that its entry names.
use Rattle.std.proofs.Common.{◌≡◌, ℕ, suc, ◌<◌, List, length, ap, refl, sym, ◌∙◌, subst}
use Rattle.std.specs.Prelude.{Bool, false, Option, Some, None, option_map, slice_get, get_or}
use Rattle.std.proofs.lemmas.Option.{none-some, same_Some, slice_get-map}
use Rattle.hub_model.specs.Revision.{Revision}
use Rattle.hub_model.specs.Journal.{Edit}
use Rattle.hub_revtree.specs.Tree.{Tip, tip, tip_of}
use Rattle.hub_database.specs.declared.document.Document.{Document}
use Rattle.hub_database.specs.declared.entry.Entry.{Entry}
use Rattle.hub_database.specs.Filed.{FiledDocument, edit_with_id, no_edit, edit_in, edit_at, journal_of, IsFiled}
use Rattle.hub_database.specs.Documents.{filed_document, files}
use Rattle.hub_database.specs.Reads.{bare_doc, doc_shown, entry_at}
use Rattle.hub_database.proofs.RowLemmas.{get_default, document_of}

-- the edit that an entry stands for
pub edit_found : (limit : ℕ) (numbers : List ℕ → Option ℕ) (documents : List Document) (entries : List Entry)
    → IsFiled limit numbers (files documents) entries → (k : ℕ) (x : Entry) → slice_get entries k ≡ Some x
    → (document : Document) → document ≡ get_or documents x.document document
    → option_map (edit_with_id document.id) (slice_get document.tree.edits x.revision)
    ≡ slice_get (journal_of (files documents) entries) k
edit_found limit numbers documents entries st k x here document is =
    let at : slice_get documents x.document ≡ Some document =
    document_of limit numbers documents entries st k x here document is in
    let filed_so : slice_get (files documents) x.document ≡ Some (filed_document document) =
    slice_get-map filed_document documents x.document ∙ ap (option_map filed_document) at in
    let w = st.within k x here in
    let same : w.0 ≡ filed_document document = same_Some w.0 (filed_document document) (sym w.1 ∙ filed_so) in
    let low : x.revision < length document.tree.edits =
    subst (λ (z : FiledDocument). x.revision < length z.edits) same w.2 in
    let there : slice_get document.tree.edits x.revision ≡ Some
    (get_or document.tree.edits x.revision no_edit) =
    get_default document.tree.edits document.tree.edits x.revision no_edit refl low in
    ap (option_map (edit_with_id document.id)) there
    ∙ (sym (ap (λ o. Some (edit_in o x.revision)) filed_so)
    ∙ sym (slice_get-map (edit_at (files documents)) entries k
    ∙ ap (option_map (edit_at (files documents))) here))

-- the parts that are lent of this edit, with its document's id
module _ {A : Type 0} (id : List ℕ) (rev : A → Revision) (deleted : A → Bool)
    (body : A → List ℕ) (x : A) where
  pub bare_lent : (maybe_edit : Option Edit)
      → Some (tip (rev x) (deleted x) (body x)) ≡ option_map tip_of maybe_edit
      → Some (bare_doc id (rev x) (deleted x) (body x))
      ≡ option_map (doc_shown false) (option_map (edit_with_id id) maybe_edit)
  bare_lent None e = absurd (none-some (tip (rev x) (deleted x) (body x)) (sym e))
  bare_lent (Some edit) e =
      let same : tip (rev x) (deleted x) (body x) ≡ tip_of edit = same_Some _ _ e in
      ap (λ (t : Tip).
      Some (record { id = id; rev = t.rev; path = None; deleted = t.deleted; body = t.body })) same

pub path_lent : (id : List ℕ) (path : Option (List Revision)) (maybe_edit : Option Edit)
    → Some path ≡ option_map (λ e. Some e.path) maybe_edit
    → Some path ≡ option_map (λ e. Some e.path) (option_map (edit_with_id id) maybe_edit)
path_lent id path None e = absurd (none-some path (sym e))
path_lent id path (Some edit) e = e

pub none_lent : (id : List ℕ) (maybe_edit : Option Edit) → None ≡ option_map tip_of maybe_edit
    → option_map (edit_with_id id) maybe_edit ≡ None
none_lent id None e = refl
none_lent id (Some edit) e = absurd (none-some (tip_of edit) e)

-- the edit of a sequence stands at the place before it
pub at_sequence : (journal : List Edit) (seq k : ℕ) → seq ≡ suc k → entry_at journal seq ≡ slice_get journal k
at_sequence journal seq k e = ap (entry_at journal) e
