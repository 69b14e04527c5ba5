-- The faults of calls on a hub's names (own).
use Rattle.std.specs.Prelude.{◌≡◌}
use Rattle.hub_updates.specs.declared.state.NoteFault.{NoteFault}
use Rattle.hub_updates.specs.declared.state.NoteFault.TheVariants as note
use Rattle.hub_databases.specs.declared.fault.HubFault.{HubFault}
use Rattle.hub_databases.specs.declared.fault.HubFault.TheVariants.{NoMemory, SequenceFull}

-- the fault of a call, by the fault with which the log handed its notice back
abbrev pub fault_of : NoteFault → HubFault
fault_of note.NoMemory = NoMemory
fault_of note.SequenceFull = SequenceFull

-- e is the fault of a call whose notice was handed back with the first fault
abbrev pub IsFaultOf : NoteFault → HubFault → Type 0
IsFaultOf fault e = e ≡ fault_of fault
