-- The faults of calls that go by the name of a database (own).
use Rattle.std.specs.Prelude.{◌≡◌, ◌↔◌, ◌≤◌, ◌<◌, ℕ, List, length, Contains, false, Result, Err, IfErr}
use Rattle.hub_databases.specs.Kept.{NamesState}
use Rattle.hub_databases.specs.Names.{is_name}
use Rattle.hub_databases.specs.declared.fault.HubFault.{HubFault}
use Rattle.hub_databases.specs.declared.fault.HubFault.TheVariants.{NoMemory, BadName}
use Rattle.hub_databases.specs.declared.fault.HubFault.TheVariants.{Exists, Absent, TooMany}
use Rattle.hub_databases.specs.declared.fault.HubFault.TheVariants.{SequenceFull}

-- The result of a call that goes by a name. It is BadName just where the text is no name of a database, and
-- it has no fault but those that may come.
pub record IsCallByName {A : Type 0} (name : List ℕ) (result : Result A HubFault)
    (may : HubFault → Type 0) : Type 0 where
  pub bad : (is_name name ≡ false) ↔ (result ≡ Err BadName)
  pub err : IfErr result may

-- the name is not there yet, and there is room for it
abbrev pub IsFree : NamesState → List ℕ → Type 0
IsFree state name = ¬ Contains state.names name × (length state.names < state.limit)

-- The fault where no database is made under this name. Exists: the name is there. TooMany: it is not there,
-- and no room is left. SequenceFull (a full log) and NoMemory come only for a free name. With the one name
-- a and a limit of 1, a is refused as Exists, and b as TooMany, be the log full or not.
abbrev pub IsCreationFault : NamesState → List ℕ → HubFault → Type 0
IsCreationFault state name NoMemory = IsFree state name
IsCreationFault state name BadName = ⊥
IsCreationFault state name Exists = Contains state.names name
IsCreationFault state name Absent = ⊥
IsCreationFault state name TooMany = ¬ Contains state.names name × (state.limit ≤ length state.names)
IsCreationFault state name SequenceFull = IsFree state name

-- The fault where no database of this name is removed. Absent says that the name is not there.
-- SequenceFull, for a full log, and NoMemory come only where the name is there.
abbrev pub IsRemovalFault : NamesState → List ℕ → HubFault → Type 0
IsRemovalFault state name NoMemory = Contains state.names name
IsRemovalFault state name BadName = ⊥
IsRemovalFault state name Exists = ⊥
IsRemovalFault state name Absent = ¬ Contains state.names name
IsRemovalFault state name TooMany = ⊥
IsRemovalFault state name SequenceFull = Contains state.names name
