-- One database as its callers see it (own).
use Rattle.std.specs.Prelude.{◌≡◌, ◌⊎◌, ℕ, List, Bool, true, false, Result, IfOk, IfErr}
use Rattle.hub_model.specs.Journal.{Edit}
use Rattle.hub_model.specs.Feed.{Feed}
use Rattle.hub_model.specs.declared.outcomes.Fault.TheVariants as fault
use Rattle.hub_document.specs.declared.limits.Limits.{Limits}
use Rattle.hub_database.specs.declared.batch.DbFault.{DbFault}
use Rattle.hub_database.specs.declared.batch.DbFault.TheVariants.{NoMemory, Refused}

-- a local document; its count says how often it was written
pub record Local : Type 0 where
  pub id : List ℕ
  pub count : ℕ
  pub body : List ℕ

-- a database
pub record Database : Type 0 where
  pub journal : List Edit  -- the accepted edits, first to last
  pub deleted : Bool  -- whether it was deleted
  pub locals : List Local  -- in the byte order of their ids
  pub feeds : List (ℕ × Feed)  -- the feeds that are not finished, with their numbers, which rise
  pub next_feed : ℕ  -- the number of the next feed
  pub limits : Limits
  pub life : ℕ  -- the number of its life, which no earlier database of its hub had

-- The contents of a database that stands or was deleted: all of it but its feeds. A database of two edits,
-- one local document and three feeds has the contents of two edits and that local document.
pub record Contents : Type 0 where
  pub journal : List Edit  -- the accepted edits, first to last
  pub locals : List Local  -- in the byte order of their ids
  pub limits : Limits
  pub life : ℕ

-- the contents of a database
abbrev pub contents_of : Database → Contents
contents_of db =
    record { journal = db.journal; locals = db.locals; limits = db.limits; life = db.life }

-- the database is deleted, and this fault says so
abbrev pub IsDeletedFault : Database → DbFault → Type 0
IsDeletedFault db e = (db.deleted ≡ true) × (e ≡ Refused fault.Deleted)

-- The fault of a call that reads, where `needs` says that its answer takes memory. A deleted database
-- always gives Deleted. NoMemory comes only where the database stands and the answer takes memory. So an
-- unknown document is never answered as out of memory.
abbrev pub GivesUp : Database → Type 0 → DbFault → Type 0
GivesUp db needs e =
    IsDeletedFault db e ⊎ ((db.deleted ≡ false) × (e ≡ NoMemory) × needs)

-- The result of a call that reads a database. A database that stands gives a value for which `is` holds,
-- and a deleted one the fault Deleted. Memory runs out only where `needs` says that the answer takes some.
-- So an unknown document is answered as unknown, however little memory is left.
pub record IsRead {A : Type 0} (db : Database) (result : Result A DbFault) (is : A → Type 0)
    (needs : Type 0) : Type 0 where
  pub ok : IfOk result (λ found. (db.deleted ≡ false) × is found)
  pub err : IfErr result (GivesUp db needs)

-- the result of a call that reads a database and takes no memory: only a deleted database makes it fail
pub record IsFreeRead {A : Type 0} (db : Database) (result : Result A DbFault)
    (is : A → Type 0) : Type 0 where
  pub ok : IfOk result (λ found. (db.deleted ≡ false) × is found)
  pub err : IfErr result (IsDeletedFault db)
