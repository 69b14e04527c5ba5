-- Why a local document is not stored (CouchDB API reference, local documents; how it is counted is own).
use Rattle.std.specs.Prelude.{◌≡◌, ◌⊎◌, ◌<◌, ◌≤◌, ◌^◌, true, false}
use Rattle.hub_model.specs.declared.outcomes.Fault.TheVariants as fault
use Rattle.hub_document.specs.declared.local_doc.LocalDoc.{LocalDoc}
use Rattle.hub_database.specs.Database.{Database}
use Rattle.hub_database.specs.Locals.{local_after_write}
use Rattle.hub_database.specs.declared.batch.DbFault.{DbFault}
use Rattle.hub_database.specs.declared.batch.DbFault.TheVariants.{NoMemory, Refused}

-- A deleted database is the first fault. A database that stands is out of memory only where the document's
-- next count is below 2^64. Where it is not, the fault is a full sequence.
abbrev pub IsLocalFault : Database → LocalDoc → DbFault → Type 0
IsLocalFault db doc e =
    ((db.deleted ≡ true) × (e ≡ Refused fault.Deleted))
    ⊎ ((db.deleted ≡ false) × (((e ≡ NoMemory) × ((local_after_write db.locals doc).count < 2 ^ 64))
    ⊎ ((e ≡ Refused fault.SequenceFull) × (2 ^ 64 ≤ (local_after_write db.locals doc).count))))
