-- The answers of a database about its documents (CouchDB API reference: documents, open_revs, GET /{db}).
use Rattle.std.specs.Prelude.{◌≡◌, ℕ, suc, zero, List, [], ◌∷◌, length, map, slice_get, count_by, Bool, true}
use Rattle.std.specs.Prelude.{not, if◌then◌else◌, Option, Some, None, option_map, option_and_then}
use Rattle.hub_model.specs.Revision.{Revision}
use Rattle.hub_model.specs.Journal.{Edit, head_of}
use Rattle.hub_model.specs.Leaves.{Leaf, leaves_of, revisions_of}
use Rattle.hub_model.specs.Current.{current}
use Rattle.hub_model.specs.Row.{is_deleted}
use Rattle.hub_model.specs.Walk.{shown_edit, line_of}
use Rattle.hub_document.specs.declared.doc.Doc.{Doc}
use Rattle.hub_document.specs.declared.open_revs.OpenRevs.{OpenRevs}
use Rattle.hub_document.specs.declared.open_revs.OpenRevs.TheVariants.{All, Listed}
use Rattle.hub_database.specs.declared.answers.OpenRev.{OpenRev}
use Rattle.hub_database.specs.declared.answers.OpenRev.TheVariants as opened
use Rattle.hub_database.specs.declared.answers.Lookup.{Lookup}
use Rattle.hub_database.specs.declared.answers.Lookup.TheVariants as looked
use Rattle.hub_database.specs.declared.answers.Info.{Info}

-- an edit as a document, with its history where that is asked for
abbrev pub doc_shown : Bool → Edit → Doc
doc_shown revs edit =
    record {
      id = edit.id;
      rev = head_of edit;
      path = if revs
          then Some edit.path else None;
      deleted = edit.deleted;
      body = edit.body;
    }

-- a document without its history
abbrev pub bare_doc : List ℕ → Revision → Bool → List ℕ → Doc
bare_doc id rev deleted body = record { id = id; rev = Some rev; path = None; deleted = deleted; body = body }

-- the answer for a revision, by its edit where it has a body
abbrev pub open_rev_of : Bool → Revision → Option Edit → OpenRev
open_rev_of revs revision None = opened.Missing revision
open_rev_of revs revision (Some edit) = opened.Found (doc_shown revs edit)

-- the answer for a revision of a document
abbrev pub open_rev : List Edit → List ℕ → Bool → Revision → OpenRev
open_rev journal id revs revision = open_rev_of revs revision (shown_edit journal id revision)

-- the revisions that are asked for: every leaf, best first, or those listed, in their order
abbrev pub asked_of : List Edit → List ℕ → OpenRevs → List Revision
asked_of journal id All = revisions_of (leaves_of journal id)
asked_of journal id (Listed revs) = revs

-- the answer for each of these revisions
abbrev pub open_revs : List Edit → List ℕ → OpenRevs → Bool → List OpenRev
open_revs journal id which revs = map (open_rev journal id revs) (asked_of journal id which)

-- the answer for a document, by its leaves: its winner, unless that is deleted
abbrev pub lookup_of : List Edit → List ℕ → Bool → List Leaf → Lookup
lookup_of journal id revs [] = looked.Unknown
lookup_of journal id revs (winner ∷ others) =
    if winner.edit.deleted
    then looked.Deleted
    else looked.Found (doc_shown revs (record {
      id = id;
      path = line_of journal id winner.rev;
      deleted = winner.edit.deleted;
      body = winner.edit.body;
    }))

-- the answer for the document of this id, by a journal
abbrev pub lookup : List Edit → List ℕ → Bool → Lookup
lookup journal id revs = lookup_of journal id revs (leaves_of journal id)

-- the document is found: it has a winner that is not deleted
abbrev pub HasDocument : List Edit → List ℕ → Bool → Type 0
HasDocument journal id revs = (doc : Doc) × (lookup journal id revs ≡ looked.Found doc)

-- the numbers of documents whose winner is not deleted, of documents whose winner is deleted, and of edits,
-- and the life
abbrev pub info_of : List Edit → (life : ℕ) → Info
info_of journal life = record {
  doc_count = count_by (λ c. not (is_deleted (leaves_of journal c.id))) (current journal);
  doc_del_count = count_by (λ c. is_deleted (leaves_of journal c.id)) (current journal);
  update_seq = length journal;
  life = life;
}

-- the edit of this sequence, where sequences count from 1
abbrev pub entry_at : List Edit → ℕ → Option Edit
entry_at journal zero = None
entry_at journal (suc k) = slice_get journal k

-- the id and the revision of the edit of this sequence
abbrev pub entry_of : List Edit → ℕ → Option (List ℕ × Revision)
entry_of journal n = option_and_then (λ e. option_map (λ r. (e.id, r)) (head_of e)) (entry_at journal n)

-- the edit of this sequence as a document, with its history
abbrev pub entry_doc_of : List Edit → ℕ → Option Doc
entry_doc_of journal n = option_map (doc_shown true) (entry_at journal n)
