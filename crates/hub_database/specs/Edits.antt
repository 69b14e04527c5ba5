-- The storing of documents (CouchDB API reference, _bulk_docs, PUT and DELETE of a document).
use Rattle.std.specs.Prelude.{◌≡◌, ◌<◌, ℕ, List, [], length, take, slice_get, Bool, true, false, IsTrue}
use Rattle.std.specs.Prelude.{if◌then◌else◌, unwrap_or, Some, Result, Ok, Err, IfOk, OnErr}
use Rattle.std.specs.declared.alloc.AllocError.{AllocError}
use Rattle.hub_model.specs.Journal.{Edit, IsAcceptable}
use Rattle.hub_model.specs.Draft.{Draft, HasNextRevision, draft_result}
use Rattle.hub_model.specs.Outcome.{Stores, StoresAll, merge_result, refusal_result, stores_all}
use Rattle.hub_model.specs.Revision.{Revision}
use Rattle.hub_model.specs.declared.outcomes.Fault.TheVariants as fault
use Rattle.hub_model.specs.declared.outcomes.Outcome.{Outcome}
use Rattle.hub_model.specs.declared.outcomes.Outcome.TheVariants as outcome
use Rattle.hub_database.specs.Database.{Contents}
use Rattle.hub_database.specs.declared.batch.Batch.{Batch}
use Rattle.hub_database.specs.declared.batch.DbFault.{DbFault}
use Rattle.hub_database.specs.declared.batch.DbFault.TheVariants as db_fault
use Rattle.hub_document.specs.declared.doc.Doc.{Doc}

-- a document as an edit; without a history its path is empty, which is no path
abbrev pub edit_of : Doc → Edit
edit_of doc = record { id = doc.id; path = unwrap_or doc.path []; deleted = doc.deleted; body = doc.body }

-- a document as an edit whose revision is made here
abbrev pub draft_of : Doc → Draft
draft_of doc = record { id = doc.id; rev = doc.rev; deleted = doc.deleted; body = doc.body }

-- the outcome of storing a document, and the journal after it: as an edit that is made here, or as an edit
-- of another database
abbrev pub stores_doc : Bool → ℕ → List Edit → Doc → Stores
stores_doc new_edits limit journal doc =
    if new_edits then draft_result limit journal (draft_of doc) else merge_result limit journal (edit_of doc)

-- the same for documents one after the other, in a database that stands or was deleted
abbrev pub docs_result : Bool → Bool → ℕ → List Edit → List Doc → StoresAll
docs_result new_edits deleted limit journal docs = stores_all (stores_doc new_edits limit) deleted journal docs

-- the same for one document, as an edit that is made here
abbrev pub one_draft_result : Bool → ℕ → List Edit → Doc → Stores
one_draft_result deleted limit journal doc =
    if deleted then refusal_result journal fault.Deleted else draft_result limit journal (draft_of doc)

-- Storing the document takes memory. An edit of another database takes it where it may be stored, and an
-- edit that is made here where it has a leaf and a generation left. A document whose revision is known,
-- that contradicts, or that names no leaf needs none.
abbrev pub NeedsRoom : Bool → List Edit → Doc → Type 0
NeedsRoom true journal doc = HasNextRevision journal (draft_of doc)
NeedsRoom false journal doc = IsAcceptable journal (edit_of doc)

-- A batch stopped at this place: the database stands, and the document there needed room. The documents
-- before it made up this journal. Of five documents with a known one in the middle a batch may stop at 0,
-- 1, 3 or 4, and never at 2.
pub record StopsAt (new_edits deleted : Bool) (journal : List Edit) (at : ℕ) (docs : List Doc) : Type 0 where
  pub stands : deleted ≡ false
  pub doc : Doc
  pub there : slice_get docs at ≡ Some doc
  pub needs : NeedsRoom new_edits journal doc

-- A write of one edit to the contents of a database, where `stores` has its outcome and the next journal.
-- The write answers this outcome, leaves this journal, and changes nothing else. Out of memory nothing
-- changes at all, and `needs` holds: the write takes memory. So a refused edit leaves the contents as they
-- were.
pub record IsStore (stores : Stores) (needs : Type 0) (before after : Contents)
    (result : Result (Outcome Revision) AllocError) : Type 0 where
  pub ok : IfOk result (λ outcome. stores ≡ record { outcome = outcome; journal = after.journal })
  pub rest : after ≡ record before { journal = after.journal }
  pub err : OnErr result (after ≡ before)
  pub memory : OnErr result needs

-- A batch that was written to a database, which stands or was deleted, and has these journals before and
-- after it. The documents that have replies were written one after the other. Each document has a reply, if
-- the batch did not stop. If it did, the first document without a reply needed room. So of three documents
-- a batch with two replies stopped at the third.
pub record IsBatch (new_edits deleted : Bool) (limit : ℕ) (before after : List Edit) (docs : List Doc)
    (batch : Batch) : Type 0 where
  pub ok : docs_result new_edits deleted limit before (take (length batch.replies) docs)
      ≡ record { outcomes = batch.replies; journal = after }
  pub whole : batch.stopped ≡ false → length batch.replies ≡ length docs
  pub stopped : IsTrue batch.stopped → length batch.replies < length docs
  pub stops : IsTrue batch.stopped → StopsAt new_edits deleted after (length batch.replies) docs

-- the answer of a call to its one edit, by the edit's outcome; an edit that is made here is never known
-- before, and Known is answered as a conflict
abbrev pub reply_of : Outcome Revision → Result Revision DbFault
reply_of (outcome.Stored rev) = Ok rev
reply_of (outcome.Refused f) = Err (db_fault.Refused f)
reply_of outcome.Known = Err (db_fault.Refused fault.Conflict)
