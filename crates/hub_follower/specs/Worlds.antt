-- The world of two databases that one thread holds (own).
use Rattle.std.specs.Prelude.{◌≡◌, ◌≤◌, ℕ, List, length, map, Option, Some, None}
use Rattle.hub_model.specs.Journal.{Edit}
use Rattle.hub_model.specs.RightlyHanded.{ChangeItem}
use Rattle.hub_model.specs.Row.{ChangeRow}
use Rattle.hub_database.specs.Edits.{edit_of}
use Rattle.hub_follow_model.specs.ChangesFeed.{IsChangesAnswer}
use Rattle.hub_follow_model.specs.Follower as follow
use Rattle.hub_follow_model.specs.declared.seq.Seq.{Seq}
use Rattle.hub_follow_model.specs.ReplicationLog.{ReplicationLog}
use Rattle.hub_follow_model.specs.World as world
use Rattle.hub_follower.specs.Views.{answer_of}
use Rattle.hub_follower.specs.declared.call.Answer.{Answer}
use Rattle.std.specs.Prelude.{string_bytes}
use Rattle.hub_follower.specs.declared.world.FollowEvent.{FollowEvent}
use Rattle.hub_follower.specs.declared.world.FollowEvent.TheVariants as event

-- two databases' journals, and the replication log at each
pub record Pair : Type 0 where
  pub limit : ℕ  -- the greatest number of edits in each journal
  pub life : ℕ  -- the number of the source's life
  pub source : List Edit
  pub target : List Edit
  pub source_log : Option ReplicationLog
  pub target_log : Option ReplicationLog

-- the world of a pair, with these sessions and this follower
abbrev pub world_of : Pair → List (List ℕ) → follow.Follower → world.World
world_of pair sessions follower =
    record {
      limit = pair.limit;
      life = pair.life;
      source = pair.source;
      target = pair.target;
      source_log = pair.source_log;
      target_log = pair.target_log;
      sessions = sessions;
      follower = follower;
    }

-- the call has this answer, whichever sessions and follower the world has
abbrev pub Answers : Pair → follow.Call → Answer → Pair → Type 0
Answers old call answer new =
    (sessions : List (List ℕ)) (follower : follow.Follower)
    → world.IsAnswered (world_of old sessions follower) call (answer_of answer)
    (world_of new sessions follower)

-- a call for changes asks above a sequence that the source has
abbrev pub IsWithin : ℕ → follow.Call → Type 0
IsWithin len (follow.Changes since) = since.n ≤ len
IsWithin len call = Unit {0}

-- the next call, if it asks for changes, asks above a sequence that the source has
abbrev pub IsWithinNext : ℕ → Option follow.Call → Type 0
IsWithinNext len None = Unit {0}
IsWithinNext len (Some call) = IsWithin len call

-- the place is a sequence that the source has
abbrev pub HasPlace : world.World → Type 0
HasPlace w = (seq : Seq) → world.place_of w.follower ≡ Some seq → seq.n ≤ length w.source

-- the next call had this answer; without a next call nothing changed
abbrev pub HasAnswered : world.World → Option follow.Call → Option Answer → world.World → Type 0
HasAnswered w None None new = new ≡ w
HasAnswered w None (Some answer) new = ⊥
HasAnswered w (Some call) None new = ⊥
HasAnswered w (Some call) (Some answer) new =
    world.IsAnswered w call (answer_of answer) new

-- the sequence above which the next call asks for changes, where it does
abbrev pub changes_asked : Option follow.Call → Option Seq
changes_asked None = None
changes_asked (Some (follow.Changes since)) = Some since
changes_asked (Some call) = None

-- these items are an answer above `since` of a source of this life, and this is that answer
abbrev pub IsAnswerOf : List Edit → (life since : ℕ) → List ChangeItem → Answer → Type 0
IsAnswerOf journal life since items answer =
    (rows : List ChangeRow) × (last : ℕ) × IsChangesAnswer journal since items rows last
    × (answer_of answer ≡ follow.ChangesAnswer rows last life)

-- an event, as an event of the model
abbrev pub event_of : FollowEvent → world.Event
event_of (event.Write docs) = world.Write (map edit_of docs.items)
event_of (event.Start session_id) = world.Start (string_bytes session_id)
event_of event.Round = world.Round
event_of event.Checkpoint = world.Checkpoint
event_of event.Answer = world.Reply
event_of (event.Changes items) = world.ChangesReply items.items
event_of event.LostBefore = world.LossBefore
event_of event.LostAfter = world.LossAfter
event_of event.Restart = world.Restart
