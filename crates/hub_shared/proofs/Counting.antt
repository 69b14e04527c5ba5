-- How often a local document was written, and why a local document is not stored.
use Rattle.std.proofs.Common.{◌≡◌, ◌<◌, ◌⊎◌, inl, inr, Option, Some, None, arith}
use Rattle.hub_model.specs.declared.outcomes.Fault.TheVariants.{Deleted, SequenceFull}
use Rattle.hub_document.specs.declared.local_doc.LocalDoc.{LocalDoc}
use Rattle.hub_database.specs.Database.{Database, Local}
use Rattle.hub_database.specs.Locals.{next_count}
use Rattle.hub_database.specs.declared.batch.DbFault.{DbFault}
use Rattle.hub_database.specs.declared.batch.DbFault.TheVariants.{NoMemory, Refused}
use Rattle.hub_shared.specs.Locals.{IsLocalFault}

pub next_above : (maybe_local : Option Local) → 0 < next_count maybe_local
next_above None = omega arith
next_above (Some local) = omega arith

pub one_of_three : (db : Database) (doc : LocalDoc) (fault : DbFault) → IsLocalFault db doc fault
    → (fault ≡ NoMemory) ⊎ ((fault ≡ Refused Deleted) ⊎ (fault ≡ Refused SequenceFull))
one_of_three db doc fault (inl gone) = inr (inl gone.1)
one_of_three db doc fault (inr (standing, inl want)) = inl want.0
one_of_three db doc fault (inr (standing, inr full)) = inr (inr full.0)
