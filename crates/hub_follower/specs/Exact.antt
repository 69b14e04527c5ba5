-- The calls of a follower over two peers that answer exactly are a run of its world, also where one fails
-- (own).
use Rattle.std.specs.Prelude.{◌≡◌, ◌⊎◌, ℕ, List, map, take, Option, Some}
use Rattle.hub_model.specs.Journal.{Edit}
use Rattle.hub_model.specs.Missing.{diffs}
use Rattle.hub_model.specs.Outcome.{merges_all}
use Rattle.hub_model.specs.Walk.{shown_edit}
use Rattle.hub_follow_model.specs.Follower as follow
use Rattle.hub_follow_model.specs.Sequence.{seq_in}
use Rattle.hub_follow_model.specs.Copied.{IsFaithful}
use Rattle.hub_follow_model.specs.World.{World, Event, Run, empty_world}
use Rattle.hub_follow_model.specs.ChangesFeed.{HasChangesAnswer}
use Rattle.hub_follow_model.specs.ReplicationLog.{ReplicationLog}
use Rattle.hub_follower.specs.Peers.{FollowState, IsWalk, Breaks}
use Rattle.hub_follower.specs.declared.fault.FollowFault.{FollowFault}

-- the contents of a peer
pub record PeerContents : Type 0 where
  pub journal : List Edit
  pub life : ℕ  -- the number of its life
  pub log : Option ReplicationLog

-- the answer, and the contents after it, of a database with at most `limit` edits that nobody else writes
abbrev pub IsExact : ℕ → PeerContents → follow.Call → follow.Answer → PeerContents → Type 0
IsExact limit held (follow.LocalGet side) (follow.LogAnswer log) new = (log ≡ held.log) × (new ≡ held)
IsExact limit held (follow.Changes since) (follow.ChangesAnswer rows last life) new =
    HasChangesAnswer held.journal (seq_in held.life since) rows last × (life ≡ held.life) × (new ≡ held)
IsExact limit held (follow.RevsDiff asked) (follow.RevsDiffAnswer missed) new =
    (missed ≡ diffs held.journal asked) × (new ≡ held)
IsExact limit held (follow.OpenRevs id revs) (follow.OpenRevsAnswer docs) new =
    (docs ≡ map (shown_edit held.journal id) revs) × (new ≡ held)
IsExact limit held (follow.Merge docs) (follow.MergeAnswer outcomes) new =
    (outcomes ≡ (merges_all limit held.journal docs).outcomes)
    × (new ≡ record held { journal = (merges_all limit held.journal docs).journal })
IsExact limit held (follow.LocalPut side log) follow.PutAnswer new = new ≡ record held { log = Some log }
IsExact limit held call answer new = ⊥

-- a merge of which a front of the documents was stored
abbrev pub IsStoredInPart : ℕ → PeerContents → follow.Call → PeerContents → Type 0
IsStoredInPart limit held (follow.Merge docs) new =
    (count : ℕ) × (new ≡ record held { journal = (merges_all limit held.journal (take count docs)).journal })
IsStoredInPart limit held call new = ⊥

-- The failure of a call of a database that nobody else writes. The call has no effect; or it has its whole
-- effect, and the answer is lost; or it is a merge that stops. So of a merge of a and b the journal gets
-- nothing, a, or both.
abbrev pub IsExactLoss : ℕ → PeerContents → follow.Call → PeerContents → Type 0
IsExactLoss limit held call new =
    (new ≡ held)
    ⊎ (((answer : follow.Answer) × IsExact limit held call answer new) ⊎ IsStoredInPart limit held call new)

-- the world of a follower over exact peers, in which these sessions have begun
abbrev pub world_at : ℕ → List (List ℕ) → FollowState PeerContents PeerContents → World
world_at limit sessions at =
    record {
      limit = limit;
      life = at.source.life;
      source = at.source.journal;
      target = at.target.journal;
      source_log = at.source.log;
      target_log = at.target.log;
      sessions = sessions;
      follower = at.follower;
    }

-- over exact peers the follower makes its calls until it owes none
abbrev pub IsExactWalk : ℕ → FollowState PeerContents PeerContents → FollowState PeerContents PeerContents → Type 0
IsExactWalk limit old new = IsWalk (IsExact limit) (IsExact limit) old new

-- over exact peers the follower makes its calls up to a call that fails for this fault
abbrev pub BreaksExactly : ℕ → FollowFault → FollowState PeerContents PeerContents → FollowState PeerContents PeerContents → Type 0
BreaksExactly limit fault old new =
    Breaks (IsExact limit) (IsExact limit) (IsExactLoss limit) (IsExactLoss limit) fault old new

-- some events lead from the old state of a follower and its peers to the new one
abbrev pub HasRun : ℕ → List (List ℕ) → FollowState PeerContents PeerContents → FollowState PeerContents PeerContents → Type 0
HasRun limit sessions old new =
    (events : List Event) × Run (world_at limit sessions old) events (world_at limit sessions new)

-- the law: a walk of a follower over exact peers is a run of its world
abbrev pub ExactWalksRun : Type 0
ExactWalksRun =
    (limit : ℕ) (sessions : List (List ℕ)) (old new : FollowState PeerContents PeerContents) → IsExactWalk limit old new
    → HasRun limit sessions old new

-- the law: the calls up to a failure, and the failure, are a run of its world
abbrev pub ExactBreaksRun : Type 0
ExactBreaksRun =
    (limit : ℕ) (sessions : List (List ℕ)) (fault : FollowFault) (old new : FollowState PeerContents PeerContents)
    → BreaksExactly limit fault old new → HasRun limit sessions old new

-- So after a run from two empty databases a walk, or calls up to a failure, leave the copy faithful.
abbrev pub ExactPeersCopy : Type 0
ExactPeersCopy =
    (limit : ℕ) (sessions : List (List ℕ)) (events : List Event) (fault : FollowFault)
    (old new : FollowState PeerContents PeerContents)
    → Run (empty_world limit) events (world_at limit sessions old)
    → IsExactWalk limit old new ⊎ BreaksExactly limit fault old new
    → IsFaithful (world_at limit sessions new)
