-- The values of the follower's code, as values of the model (own).
use Rattle.std.specs.Prelude.{◌≡◌, map, Option, Some, None, Result, Err, string_bytes}
use Rattle.hub_model.specs.Journal.{Edit, head_of}
use Rattle.hub_database.specs.Edits.{edit_of}
use Rattle.hub_database.specs.declared.answers.OpenRev.{OpenRev}
use Rattle.hub_database.specs.declared.answers.OpenRev.TheVariants.{Found, Missing}
use Rattle.hub_follow_model.specs.Follower as follow
use Rattle.hub_follower.specs.declared.fault.FollowFault.{FollowFault}
use Rattle.hub_follower.specs.declared.fault.FollowFault.TheVariants as told
use Rattle.hub_follower.specs.declared.phase.Phase.{Phase}
use Rattle.hub_follower.specs.declared.phase.Phase.TheVariants.{Listing, Comparison, Retrieval, Storage}
use Rattle.hub_follower.specs.declared.phase.Phase.TheVariants.{SourceCheckpoint, TargetCheckpoint}
use Rattle.hub_follower.specs.declared.phase.Next.{Next}
use Rattle.hub_follower.specs.declared.phase.Next.TheVariants as goes
use Rattle.hub_follower.specs.declared.machine.State.{State}
use Rattle.hub_follower.specs.declared.machine.State.TheVariants.{Down, SourceStart, TargetStart, Ready, Busy}
use Rattle.hub_follower.specs.declared.call.Call.{Call}
use Rattle.hub_follower.specs.declared.call.Call.TheVariants as asks
use Rattle.hub_follower.specs.declared.call.Answer.{Answer}
use Rattle.hub_follower.specs.declared.call.Answer.TheVariants as says

-- the phase of a round or a checkpoint
abbrev pub phase_of : Phase → follow.Phase
phase_of Listing = follow.Listing
phase_of (Comparison asked last) = follow.Comparison asked.items last
phase_of (Retrieval next later got last) = follow.Retrieval next later.items (map edit_of got) last
phase_of (Storage got last) = follow.Storage (map edit_of got) last
phase_of SourceCheckpoint = follow.SourceCheckpoint
phase_of TargetCheckpoint = follow.TargetCheckpoint

-- the follower of a machine's state
abbrev pub follower_of : State → follow.Follower
follower_of Down = follow.Down
follower_of (SourceStart session_id) = follow.SourceStart (string_bytes session_id)
follower_of (TargetStart session_id source) = follow.TargetStart (string_bytes session_id) source
follower_of (Ready session) = follow.Ready session
follower_of (Busy session phase) = follow.Busy session (phase_of phase)

-- the follower of a session and its next state
abbrev pub follower_behind : follow.Session → Next → follow.Follower
follower_behind session goes.Ready = follow.Ready session
follower_behind session (goes.ReadyAt last) = follow.ready_at session last
follower_behind session (goes.Busy phase) = follow.Busy session (phase_of phase)

-- the edit of a revision that was asked for, where the revision is there
abbrev pub found_edit : OpenRev → Option Edit
found_edit (Found doc) = Some (edit_of doc)
found_edit (Missing r) = None

-- the answer of a peer
abbrev pub answer_of : Answer → follow.Answer
answer_of (says.Log log) = follow.LogAnswer log
answer_of (says.Changes c) = follow.ChangesAnswer c.rows.items c.last_seq c.life
answer_of (says.RevsDiff diffs) = follow.RevsDiffAnswer diffs.items
answer_of (says.OpenRevs found) = follow.OpenRevsAnswer (map found_edit found)
answer_of (says.Merge replies) = follow.MergeAnswer replies
answer_of says.Put = follow.PutAnswer

-- the call on a peer
abbrev pub call_of : Call → follow.Call
call_of asks.GetSource = follow.LocalGet follow.Source
call_of asks.GetTarget = follow.LocalGet follow.Target
call_of (asks.Changes since) = follow.Changes since
call_of (asks.RevsDiff asked) = follow.RevsDiff asked.now
call_of (asks.OpenRevs asked) = follow.OpenRevs asked.now.id asked.now.revs
call_of (asks.Merge docs) = follow.Merge (map edit_of docs.now)
call_of (asks.PutSource s) =
    follow.LocalPut follow.Source (follow.checkpoint_log s.now s.now.source_history)
call_of (asks.PutTarget s) =
    follow.LocalPut follow.Target (follow.checkpoint_log s.now s.now.target_history)

-- the fault is that of this outcome, with the document told by its id and head; memory may run out in any
abbrev pub IsFaultOf : {A : Type 0} → FollowFault → Result A follow.Fault → Type 0
IsFaultOf told.NoMemory outcome = Unit {0}
IsFaultOf told.BadLogId outcome = ⊥
IsFaultOf told.Peer outcome = outcome ≡ Err follow.PeerFault
IsFaultOf (told.Refused id rev refusal) outcome =
    (edit : Edit) × (outcome ≡ Err (follow.RefusedDocument edit refusal)) × (edit.id ≡ id)
    × (head_of edit ≡ Some rev)
IsFaultOf (told.Lost id rev) outcome = outcome ≡ Err (follow.MissingRevision (string_bytes id) rev)
