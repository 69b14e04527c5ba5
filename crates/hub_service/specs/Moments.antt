-- Looks at a database behind its lock: each look finds the database of some moment (own).
use Rattle.std.specs.Prelude.{◌≡◌, ◌⊎◌, ◌≤◌, ◌^◌, ℕ, List, Bool, true, false, Result, Ok, Err, IsSome}
use Rattle.std.specs.Prelude.{if◌then◌else◌}
use Rattle.hub_document.specs.declared.doc.Doc.{Doc}
use Rattle.hub_document.specs.declared.local_doc.LocalDoc.{LocalDoc}
use Rattle.hub_model.specs.Journal.{IsLegal}
use Rattle.hub_model.specs.declared.outcomes.Fault.{Fault}
use Rattle.hub_model.specs.declared.outcomes.Outcome.TheVariants.{Stored, Refused}
use Rattle.hub_database.specs.Database.{Database}
use Rattle.hub_database.specs.Edits.{one_draft_result}
use Rattle.hub_database.specs.Locals.{local_after_write}
use Rattle.hub_database.specs.declared.batch.DbFault.{DbFault}
use Rattle.hub_databases.specs.declared.written.Edited.{Edited}
use Rattle.hub_databases.specs.declared.written.Written.{Written}
use Rattle.hub_http.specs.Refusals.{of_fault}
use Rattle.hub_http.specs.declared.refusal.Refusal.{Refusal}
use Rattle.hub_http.specs.declared.refusal.Refusal.TheVariants.{NoMemory, Deleted, SequenceFull}
use Rattle.hub_shared.specs.Handles.{IsStoredBy}
use Rattle.hub_shared.specs.Stored.{HasStored}
use Rattle.hub_service.specs.Refusals.{of_db_fault}
use Rattle.hub_service.specs.Said.{CallAnswer, Refusing, Says, IsWant, WriteAnswer}
use Rattle.hub_service.specs.declared.response.Response.{Response}

-- this holds of some database with a legal journal, as it may lie under its lock
pub record HasDatabase (holds : Database → Type 0) : Type 0 where
  pub db : Database
  pub legal : IsLegal db.journal
  pub held : holds db

-- a database that was deleted refuses a call that looks at it
abbrev pub said_unless_deleted : Database → CallAnswer → CallAnswer
said_unless_deleted db said = if db.deleted then Refusing Deleted else said

-- A look at some database found this. A look that found nothing says that the database was deleted, or that
-- memory was missing. A later look may differ: it may find a deleted database where this one found a
-- document.
abbrev pub IsFound : {A : Type 0} → (Database → A → Type 0) → Result A Refusal → Type 0
IsFound found (Ok a) = HasDatabase (λ db. (db.deleted ≡ false) × found db a)
IsFound found (Err e) = (e ≡ NoMemory) ⊎ ((e ≡ Deleted) × HasDatabase (λ db. db.deleted ≡ true))

-- the result of a call on a database, with its fault as a refusal
abbrev pub with_refusal : {A : Type 0} → Result A DbFault → Result A Refusal
with_refusal (Ok a) = Ok a
with_refusal (Err fault) = Err (of_db_fault fault)

-- The result of one look: a result that some database gave, where `gives` says which results each database
-- may give. Or memory was missing for the look.
abbrev pub IsLooked : {A : Type 0} → (Database → Result A DbFault → Type 0) → Result A Refusal → Type 0
IsLooked {A} gives r = (r ≡ Err NoMemory)
    ⊎ HasDatabase (λ db. (given : Result A DbFault) × gives db given × (r ≡ with_refusal given))

-- a call that reads was answered as some database says it, or memory was missing
abbrev pub IsRead : (Database → CallAnswer) → Result Response Refusal → Type 0
IsRead says r = HasDatabase (λ db. Says r (said_unless_deleted db (says db))) ⊎ IsWant r

-- A call that writes was answered as some database says it. Or memory was missing. Or a document was stored,
-- and the log of updates was full, so that it has no note of the write. With a log of one note, the note of
-- the database's making, each put of a document is stored and answered 503 sequence_full. A batch of a known
-- document stores nothing, and is answered 201.
abbrev pub IsWritten : (Database → WriteAnswer) → Result Response Refusal → Type 0
IsWritten does r = HasDatabase (λ db. Says r (does db).said)
    ⊎ (IsWant r ⊎ ((r ≡ Err SequenceFull) × HasDatabase (λ db. HasStored (does db).outcomes)))

-- The outcome of one edit that is made here. Some database makes it, and gives it this revision. Or some
-- database refuses it, or memory was missing.
abbrev pub IsEdited : Doc → Result Edited Refusal → Type 0
IsEdited doc (Ok edited) = HasDatabase (λ db.
    (one_draft_result db.deleted db.limits.journal db.journal doc).outcome ≡ Stored edited.rev)
IsEdited doc (Err refusal) = (refusal ≡ NoMemory) ⊎ HasDatabase (λ db.
    (fault : Fault) × (refusal ≡ of_fault fault)
    × ((one_draft_result db.deleted db.limits.journal db.journal doc).outcome ≡ Refused fault))

-- The outcome of a batch that was stored in some database. The log of updates may have no note of it only
-- where edits were stored. So no note is missing of a batch of known documents alone.
pub record IsStored (new_edits : Bool) (docs : List Doc) (written : Written) : Type 0 where
  pub stored : IsStoredBy false 0 (record { parts = 0; count = 0 }) new_edits docs written.batch
  pub lapsed : IsSome written.lapsed → HasStored written.batch.replies

-- Some database of any journal has kept a local document, and says how often it was written. Or the database
-- was deleted, or the count would reach 2^64, or memory was missing. A document that was written twice
-- before is told the count 3.
abbrev pub IsKept : LocalDoc → Result ℕ Refusal → Type 0
IsKept doc (Ok count) = (db : Database) × (db.deleted ≡ false) × (count ≡ (local_after_write db.locals doc).count)
IsKept doc (Err e) =
    (e ≡ NoMemory)
    ⊎ (((e ≡ Deleted) × ((db : Database) × (db.deleted ≡ true)))
    ⊎ ((e ≡ SequenceFull)
    × ((db : Database) × (db.deleted ≡ false) × (2 ^ 64 ≤ (local_after_write db.locals doc).count))))
