-- The answers of a database to calls (CouchDB API reference: documents, local documents, _bulk_docs,
-- _revs_diff; own for the order of refusals).
use Rattle.std.specs.Prelude.{ℕ, ◌^◌, List, [], ◌∷◌, Bool, true, false, if◌then◌else◌, nat_le}
use Rattle.std.specs.Prelude.{codes, Option, Some, None, Result, Ok, Err}
use Rattle.hub_model.specs.Journal.{Edit}
use Rattle.hub_model.specs.Revision.{Revision}
use Rattle.hub_model.specs.Leaves.{leaves_of}
use Rattle.hub_model.specs.Missing.{RevisionsOfDoc, diffs}
use Rattle.hub_model.specs.declared.outcomes.Outcome.{Outcome}
use Rattle.hub_model.specs.declared.outcomes.Outcome.TheVariants.{Stored, Known, Refused}
use Rattle.hub_document.specs.Asking.{asked_in, open_revs_in}
use Rattle.hub_document.specs.Read.{or_fault, json_of}
use Rattle.hub_document.specs.declared.doc.Doc.{Doc}
use Rattle.hub_document.specs.declared.doc.DocFault.{DocFault}
use Rattle.hub_document.specs.declared.doc.DocFault.TheVariants as doc
use Rattle.hub_document.specs.declared.local_doc.LocalDoc.{LocalDoc}
use Rattle.hub_document.specs.declared.open_revs.OpenRevs.{OpenRevs}
use Rattle.hub_document.specs.declared.open_revs.OpenRevs.TheVariants.{All, Listed}
use Rattle.hub_database.specs.Database.{Database, Local}
use Rattle.hub_database.specs.Edits.{one_draft_result, docs_result}
use Rattle.hub_database.specs.Locals.{local_after_write}
use Rattle.hub_database.specs.Reads.{info_of, lookup, open_revs}
use Rattle.hub_database.specs.declared.answers.Lookup.{Lookup}
use Rattle.hub_database.specs.declared.answers.Lookup.TheVariants.{Unknown, Deleted, Found}
use Rattle.hub_database.specs.declared.answers.OpenRev.{OpenRev}
use Rattle.hub_revtree.specs.Winner.{winner_of}
use Rattle.hub_revtree.specs.declared.leaf.Winner.{Winner}
use Rattle.hub_http.specs.Refusals.{of_doc_fault, of_fault}
use Rattle.hub_http.specs.declared.refusal.Refusal.{Refusal}
use Rattle.hub_http.specs.declared.refusal.Refusal.TheVariants.{BadRev, Conflict, SequenceFull, Missing}
use Rattle.hub_http.specs.declared.refusal.Refusal.TheVariants.{DocDeleted, NoMemory}
use Rattle.hub_params.specs.DocParams.{DocAsked}
use Rattle.hub_replies.specs.Bodies.{info_body, edit_body, local_edit_body, doc_body, local_doc_body}
use Rattle.hub_replies.specs.Bodies.{open_revs_body, diffs_body, commit_body}
use Rattle.hub_replies.specs.Bulk.{batch_body}
use Rattle.hub_service.specs.Bulk.{Batch, readings, read_docs, faults_of, replies_of}
use Rattle.hub_service.specs.Refusals.{of_note_fault}
use Rattle.hub_service.specs.Said.{CallAnswer, Body, Refusing, WriteAnswer, refuses_all}
use Rattle.hub_updates.specs.declared.state.NoteFault.{NoteFault}

-- the answer with the information of a database of this name
abbrev pub says_info : List ℕ → Database → CallAnswer
says_info name db = Body 200 (info_body name (info_of db.journal db.life))

-- the answer to a commit, which has nothing to do
abbrev pub says_commit : CallAnswer
says_commit = Body 201 commit_body

-- ---- reading documents

-- the answer to a GET of a document that was looked up
abbrev pub says_found : Lookup → CallAnswer
says_found Unknown = Refusing Missing
says_found Deleted = Refusing DocDeleted
says_found (Found doc) = Body 200 (doc_body doc)

-- all leaves are asked for
abbrev pub is_all : OpenRevs → Bool
is_all All = true
is_all (Listed asked) = false

-- the answer with the revisions that were asked for; where all leaves were and there is none, the document
-- is unknown
abbrev pub says_revs : Bool → List OpenRev → CallAnswer
says_revs true [] = Refusing Missing
says_revs true (rev ∷ revs) = Body 200 (open_revs_body (rev ∷ revs))
says_revs false revs = Body 200 (open_revs_body revs)

-- the answer with the revisions that a value of `open_revs` asks for, where the value could be read
abbrev pub gets_revs : List Edit → List ℕ → Bool → Option OpenRevs → CallAnswer
gets_revs journal id revs None = Refusing BadRev
gets_revs journal id revs (Some which) = says_revs (is_all which) (open_revs journal id which revs)

-- the answer with a document, or with some of its revisions; a `rev` without `open_revs` is refused
abbrev pub gets_by : List Edit → List ℕ → Bool → Option (List ℕ) → Option (List ℕ) → CallAnswer
gets_by journal id revs rev (Some text) = gets_revs journal id revs (open_revs_in text)
gets_by journal id revs (Some rev) None = Refusing BadRev
gets_by journal id revs None None = says_found (lookup journal id revs)

-- the answer with a document, or with some of its revisions, by the parameters of a query
abbrev pub gets_doc : List Edit → List ℕ → DocAsked → CallAnswer
gets_doc journal id asked = gets_by journal id asked.revs asked.rev asked.open_revs

-- ---- editing documents

-- the answer to an edit, by its outcome
abbrev pub says_edit : ℕ → List ℕ → Outcome Revision → CallAnswer
says_edit status id (Stored rev) = Body status (edit_body id rev)
says_edit status id Known = Refusing Conflict
says_edit status id (Refused fault) = Refusing (of_fault fault)

-- The answer to a write whose notice may have lapsed. A lapsed notice is told before anything else: the
-- stored edits stand, and have no note. A batch that stopped for memory after a stored document, with a full
-- log, is answered sequence_full.
abbrev pub says_noted : Option NoteFault → CallAnswer → CallAnswer
says_noted None said = said
says_noted (Some fault) said = Refusing (of_note_fault fault)

-- the answer to an edit whose revision is made here, and its outcome
abbrev pub edits : ℕ → Database → Doc → WriteAnswer
edits status db doc =
    let outcome = (one_draft_result db.deleted db.limits.journal db.journal doc).outcome in
    record { said = says_edit status doc.id outcome; outcomes = outcome ∷ [] }

-- the answer to a document that is put, or the refusal of its fault
abbrev pub puts_doc : Database → Result Doc DocFault → WriteAnswer
puts_doc db (Err fault) = refuses_all (of_doc_fault fault)
puts_doc db (Ok doc) = edits 201 db doc

-- an edit that deletes
abbrev pub deletion : List ℕ → Revision → Doc
deletion id rev = record { id = id; rev = Some rev; path = None; deleted = true; body = codes "{}" }

-- the winner of a document, if there is one
abbrev pub winner_in : Database → List ℕ → Option Winner
winner_in db id = winner_of (leaves_of db.journal id)

-- ---- local documents

abbrev pub says_local : Option Local → CallAnswer
says_local None = Refusing Missing
says_local (Some local) = Body 200 (local_doc_body local.id local.count local.body)

-- the answer to a local document that is kept, unless its count of writes reaches 2^64
abbrev pub local_reply : Local → CallAnswer
local_reply local =
    if nat_le (2 ^ 64) local.count then Refusing SequenceFull else
    Body 201 (local_edit_body local.id local.count)

-- the answer to a local document that is put, or the refusal of its fault
abbrev pub puts_local : Database → Result LocalDoc DocFault → CallAnswer
puts_local db (Err fault) = Refusing (of_doc_fault fault)
puts_local db (Ok doc) = local_reply (local_after_write db.locals doc)

-- ---- replication

-- the revisions that a body asks for
abbrev pub asked_by : List ℕ → Result (List RevisionsOfDoc) DocFault
asked_by body = or_fault (json_of body) doc.NotJson asked_in

-- the answer with the revisions that are missing, of those that were asked for
abbrev pub says_diffs : List Edit → Result (List RevisionsOfDoc) DocFault → CallAnswer
says_diffs journal (Err fault) = Refusing (of_doc_fault fault)
says_diffs journal (Ok asked) = Body 200 (diffs_body (diffs journal asked))

-- The answer to a batch, by the faults of its elements and the outcomes of its documents. A batch that
-- stopped is answered out of memory.
abbrev pub says_batch : Batch → List (Option DocFault) → Bool → List (Outcome Revision) → CallAnswer
says_batch batch faults stopped outcomes =
    if stopped then Refusing NoMemory
    else Body 201 (batch_body batch.docs (replies_of batch.new_edits faults outcomes))

-- the answer to a batch and the outcomes of its documents, or the refusal of the whole
abbrev pub batch_reply : Database → Result Batch Refusal → WriteAnswer
batch_reply db (Err refusal) = refuses_all refusal
batch_reply db (Ok batch) =
    let read = readings batch.new_edits batch.docs in
    let stored = docs_result batch.new_edits db.deleted db.limits.journal db.journal (read_docs read) in
    record { said = says_batch batch (faults_of read) false stored.outcomes; outcomes = stored.outcomes }
