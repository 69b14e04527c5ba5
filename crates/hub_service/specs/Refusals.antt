-- The refusals of calls that fail below a connection (CouchDB API reference, HTTP status codes).
use Rattle.hub_database.specs.declared.batch.DbFault.{DbFault}
use Rattle.hub_database.specs.declared.batch.DbFault.TheVariants as db_fault
use Rattle.hub_databases.specs.declared.fault.HubFault.{HubFault}
use Rattle.hub_databases.specs.declared.fault.HubFault.TheVariants as hub_fault
use Rattle.hub_feed.specs.declared.host.OpenFault.{OpenFault}
use Rattle.hub_feed.specs.declared.host.OpenFault.TheVariants as open_fault
use Rattle.hub_http.specs.Refusals.{of_fault}
use Rattle.hub_http.specs.declared.refusal.Refusal.{Refusal}
use Rattle.hub_http.specs.declared.refusal.Refusal.TheVariants as refusal
use Rattle.hub_params.specs.declared.feed_fault.ParamFault.{ParamFault}
use Rattle.hub_params.specs.declared.feed_fault.ParamFault.TheVariants as param
use Rattle.hub_updates.specs.declared.state.NoteFault.{NoteFault}
use Rattle.hub_updates.specs.declared.state.NoteFault.TheVariants as note_fault

-- the refusal of a call on a database that failed
abbrev pub of_db_fault : DbFault → Refusal
of_db_fault db_fault.NoMemory = refusal.NoMemory
of_db_fault (db_fault.Refused fault) = of_fault fault

-- the refusal of a write of which the log of updates has no note
abbrev pub of_note_fault : NoteFault → Refusal
of_note_fault note_fault.NoMemory = refusal.NoMemory
of_note_fault note_fault.SequenceFull = refusal.SequenceFull

-- the refusal of a call on the names of a hub that failed
abbrev pub of_hub_fault : HubFault → Refusal
of_hub_fault hub_fault.NoMemory = refusal.NoMemory
of_hub_fault hub_fault.BadName = refusal.BadName
of_hub_fault hub_fault.Exists = refusal.Exists
of_hub_fault hub_fault.Absent = refusal.Absent
of_hub_fault hub_fault.TooMany = refusal.TooMany
of_hub_fault hub_fault.SequenceFull = refusal.SequenceFull

-- the refusal of a feed's parameters that can't be read
abbrev pub of_param_fault : ParamFault → Refusal
of_param_fault param.NoMemory = refusal.NoMemory
of_param_fault param.BadSince = refusal.BadSince
of_param_fault param.BadLimit = refusal.BadLimit
of_param_fault param.BadStyle = refusal.BadStyle
of_param_fault param.BadFeed = refusal.BadFeed
of_param_fault param.BadFilter = refusal.BadFilter
of_param_fault param.BadDocIds = refusal.BadDocIds
of_param_fault param.BadHeartbeat = refusal.BadHeartbeat
of_param_fault param.DescendingMode = refusal.DescendingMode
of_param_fault param.BadFlag = refusal.BadFlag

-- the refusal of a feed that was not opened
abbrev pub of_open_fault : OpenFault → Refusal
of_open_fault open_fault.NoMemory = refusal.NoMemory
of_open_fault open_fault.Deleted = refusal.Deleted
of_open_fault open_fault.TooManyFeeds = refusal.TooManyFeeds
