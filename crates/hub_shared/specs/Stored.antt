-- The effect of storing documents on a database, and which documents were stored (CouchDB API reference,
-- _bulk_docs, PUT and DELETE of a document).
use Rattle.std.specs.Prelude.{◌≡◌, ℕ, ◌<◌, ◌^◌, ◌++◌, List, Bool, true, false, IsTrue, Contains, count_by}
use Rattle.std.specs.Prelude.{length, take}
use Rattle.hub_model.specs.Journal.{Edit, IsLegal}
use Rattle.hub_model.specs.Revision.{Revision}
use Rattle.hub_model.specs.declared.outcomes.Outcome.{Outcome}
use Rattle.hub_model.specs.declared.outcomes.Outcome.TheVariants.{Stored, Known, Refused}
use Rattle.hub_document.specs.declared.doc.Doc.{Doc}
use Rattle.hub_database.specs.Database.{Database}
use Rattle.hub_database.specs.Edits.{StopsAt, docs_result}
use Rattle.hub_database.specs.declared.batch.Batch.{Batch}
use Rattle.hub_database.specs.declared.batch.DbFault.{DbFault}
use Rattle.hub_database.specs.declared.batch.DbFault.TheVariants.{NoMemory}
use Rattle.hub_shared.specs.declared.write.Accepted.{Accepted}

-- whether a document with this reply was stored
abbrev pub is_stored : Outcome Revision → Bool
is_stored (Stored rev) = true
is_stored Known = false
is_stored (Refused fault) = false

-- how many documents were stored: for a stored, a known, a stored and a refused document, 2
abbrev pub stored_count : List (Outcome Revision) → ℕ
stored_count replies = count_by is_stored replies

-- one of the documents was stored
abbrev pub HasStored : List (Outcome Revision) → Type 0
HasStored replies = (rev : Revision) × Contains replies (Stored rev)

-- a write of these documents found no memory; a write of no document never fails so
abbrev pub IsOutOfMemoryFor : List Doc → DbFault → Type 0
IsOutOfMemoryFor docs fault = (fault ≡ NoMemory) × (0 < length docs)

-- the result of a write, without its receipts
abbrev pub batch_of : Accepted → Batch
batch_of accepted = record { replies = accepted.replies; stopped = accepted.stopped }

-- `count` edits were added to the journal, and nothing else changed; it is legal, with less than 2^32 edits
pub record Adds (count : ℕ) (old new : Database) : Type 0 where
  pub edits : List Edit
  pub behind : new.journal ≡ old.journal ++ edits
  pub many : length edits ≡ count
  pub legal : IsLegal new.journal
  pub within : length new.journal < 2 ^ 32
  pub rest : new ≡ record old { journal = new.journal }

-- The documents of a batch before its stop were stored one after the other, and nothing else changed. Say
-- that a, b and c are given after 5 edits. Where b is refused, there are 7 edits then. Where memory runs out
-- at b, there are 6 edits, and one reply.
pub record StoresBatch (new_edits : Bool) (docs : List Doc) (old : Database) (batch : Batch)
    (new : Database) : Type 0 where
  -- each reply is that of its document after the documents before it, and the journal has the stored edits
  pub replies : docs_result new_edits old.deleted old.limits.journal old.journal (take (length batch.replies) docs)
      ≡ record { outcomes = batch.replies; journal = new.journal }
  -- without a stop each document has its reply
  pub whole : batch.stopped ≡ false → length batch.replies ≡ length docs
  -- a stop is at one of the documents
  pub stopped : IsTrue batch.stopped → length batch.replies < length docs
  -- and this document needed room
  pub stops : IsTrue batch.stopped
      → StopsAt new_edits old.deleted new.journal (length batch.replies) docs
  -- there is one edit more for each stored document
  pub adds : Adds (stored_count batch.replies) old new
