-- Two databases, a replication log at each, and a follower; the events that may happen to them, and whole
-- runs of events. Any call may fail (own, over the CouchDB Replication Protocol).
use Rattle.std.specs.Prelude.{◌≡◌, ℕ, List, [], ◌∷◌, map, take, Contains, Bool, true, false, IsTrue, Option}
use Rattle.std.specs.Prelude.{Some, None, MatchOption, ◌⊎◌, option_map}
use Rattle.hub_model.specs.Draft.{Draft, draft_result}
use Rattle.hub_model.specs.Journal.{Edit}
use Rattle.hub_model.specs.Missing.{diffs}
use Rattle.hub_model.specs.Outcome.{merges_all, stores_all}
use Rattle.hub_model.specs.RightlyHanded.{ChangeItem}
use Rattle.hub_model.specs.Row.{ChangeRow}
use Rattle.hub_model.specs.Walk.{shown_edit}
use Rattle.hub_follow_model.specs.ChangesFeed.{IsChangesAnswer, HasChangesAnswer}
use Rattle.hub_follow_model.specs.Follower.{Call, LocalGet, Changes, RevsDiff, OpenRevs, Merge, LocalPut}
use Rattle.hub_follow_model.specs.Follower.{Answer, LogAnswer, ChangesAnswer, RevsDiffAnswer, OpenRevsAnswer}
use Rattle.hub_follow_model.specs.Follower.{MergeAnswer, PutAnswer, Side, Source, Target, Listing}
use Rattle.hub_follow_model.specs.Follower.{SourceCheckpoint, Follower, Down, SourceStart, TargetStart, Ready}
use Rattle.hub_follow_model.specs.Follower.{Busy}
use Rattle.hub_follow_model.specs.Follower.{next_call, after_failure, after_answer}
use Rattle.hub_follow_model.specs.ReplicationLog.{ReplicationLog, IsRecordedIn}
use Rattle.hub_follow_model.specs.Sequence.{seq_in}
use Rattle.hub_follow_model.specs.declared.seq.Seq.{Seq}

-- the two databases' journals, the log at each, and the follower
pub record World : Type 0 where
  pub limit : ℕ  -- the greatest number of edits in each journal
  pub life : ℕ  -- the number of the source's life, which no event changes
  pub source : List Edit
  pub target : List Edit
  pub source_log : Option ReplicationLog
  pub target_log : Option ReplicationLog
  pub sessions : List (List ℕ)  -- the sessions that have begun
  pub follower : Follower

-- two empty databases without logs, and no session
abbrev pub empty_world : ℕ → World
empty_world limit =
    record {
      limit = limit;
      life = 1;
      source = [];
      target = [];
      source_log = None;
      target_log = None;
      sessions = [];
      follower = Down;
    }

-- the log at this side
abbrev pub log_at : Side → World → Option ReplicationLog
log_at Source world = world.source_log
log_at Target world = world.target_log

-- the world with this log at this side
abbrev pub with_log : Side → ReplicationLog → World → World
with_log Source log world = record world { source_log = Some log }
with_log Target log world = record world { target_log = Some log }

-- From world the call may have this answer, and lead to the world new. LocalGet has the log that stands at
-- the side. Changes has changes that the source rightly hands above the sequence, as it counts in the
-- source's life, and that life. RevsDiff has the revisions that the target misses, and OpenRevs the edit that
-- the source shows of each revision. Merge has the outcomes of storing the documents at the target. Only
-- Merge and LocalPut change the world: LocalPut stores its log.
abbrev pub IsAnswered : World → Call → Answer → World → Type 0
IsAnswered world (LocalGet side) (LogAnswer log) new = (log ≡ log_at side world) × (new ≡ world)
IsAnswered world (Changes since) (ChangesAnswer rows last life) new =
    HasChangesAnswer world.source (seq_in world.life since) rows last × (life ≡ world.life) × (new ≡ world)
IsAnswered world (RevsDiff asked) (RevsDiffAnswer answered) new =
    (answered ≡ diffs world.target asked) × (new ≡ world)
IsAnswered world (OpenRevs id revs) (OpenRevsAnswer docs) new =
    (docs ≡ map (shown_edit world.source id) revs) × (new ≡ world)
IsAnswered world (Merge docs) (MergeAnswer outcomes) new =
    (outcomes ≡ (merges_all world.limit world.target docs).outcomes)
    × (new ≡ record world { target = (merges_all world.limit world.target docs).journal })
IsAnswered world (LocalPut side log) PutAnswer new = new ≡ with_log side log world
IsAnswered world call answer new = ⊥

-- an event that may happen next
pub data Event : Type 0 where
  Write : (docs : List Edit) → Event  -- documents are stored at the source, with their histories
  InteractiveWrite : (drafts : List Draft) → Event  -- drafts, whose revisions the source makes
  Start : (session_id : List ℕ) → Event
  Round : Event
  Checkpoint : Event
  Reply : Event  -- the next call is answered
  ChangesReply : (items : List ChangeItem) → Event  -- the next call asks for changes, and gets these
  LossBefore : Event  -- the next call fails, and had no effect
  LossAfter : Event  -- the next call has its effect, and its answer is lost
  PartialMerge : (count : ℕ) → Event  -- the next call is a merge, and fails after `count` documents
  Restart : Event  -- the follower loses all that it holds

-- whether the follower has no call to make
abbrev pub is_free : Follower → Bool
is_free Down = true
is_free (SourceStart session_id) = false
is_free (TargetStart session_id source) = false
is_free (Ready s) = true
is_free (Busy s phase) = false

-- the follower as a round begins: with a session and no phase it asks for changes, and else it stays as it is
abbrev pub round_start : Follower → Follower
round_start Down = Down
round_start (SourceStart session_id) = SourceStart session_id
round_start (TargetStart session_id source) = TargetStart session_id source
round_start (Ready s) = Busy s Listing
round_start (Busy s phase) = Busy s phase

-- the follower as a checkpoint begins: with a session and no phase it writes to the source, and else it stays
abbrev pub checkpoint_start : Follower → Follower
checkpoint_start Down = Down
checkpoint_start (SourceStart session_id) = SourceStart session_id
checkpoint_start (TargetStart session_id source) = TargetStart session_id source
checkpoint_start (Ready s) = Busy s SourceCheckpoint
checkpoint_start (Busy s phase) = Busy s phase

-- a session of this id may begin: the follower has no call to make, and no earlier session had the id
abbrev pub IsFreeFor : World → List ℕ → Type 0
IsFreeFor world session_id = IsTrue (is_free world.follower) × (¬ Contains world.sessions session_id)

-- the next call is a merge, and new is the world where the merge fails after `count` documents; another call
-- changes nothing
abbrev pub IsPartialMerge : World → Option Call → ℕ → World → Type 0
IsPartialMerge world (Some (Merge docs)) count new =
    new ≡ record world {
      target = (merges_all world.limit world.target (take count docs)).journal;
      follower = after_failure world.follower;
    }
IsPartialMerge world call count new = new ≡ world

-- the next call asks for changes, and new is the world where these items answer it; items that are no answer
-- change nothing, and nor does another call
abbrev pub IsChangesReply : World → Option Call → List ChangeItem → World → Type 0
IsChangesReply world (Some (Changes since)) items new =
    ((rows : List ChangeRow) × (last : ℕ)
    × IsChangesAnswer world.source (seq_in world.life since) items rows last
    × (new ≡ record world { follower = after_answer world.follower (ChangesAnswer rows last world.life) }))
    ⊎ (((rows : List ChangeRow) (last : ℕ)
    → ¬ IsChangesAnswer world.source (seq_in world.life since) items rows last) × (new ≡ world))
IsChangesReply world call items new = new ≡ world

-- From world the event may lead to new. An event that does not fit the follower's state changes nothing.
abbrev pub Step : World → Event → World → Type 0
Step world (Write docs) new =
    new ≡ record world { source = (merges_all world.limit world.source docs).journal }
Step world (InteractiveWrite drafts) new =
    new ≡ record world { source = (stores_all (draft_result world.limit) false world.source drafts).journal }
Step world (Start session_id) new =
    (IsFreeFor world session_id
    × (new ≡ record world { sessions = session_id ∷ world.sessions; follower = SourceStart session_id }))
    ⊎ ((¬ IsFreeFor world session_id) × (new ≡ world))
Step world Round new = new ≡ record world { follower = round_start world.follower }
Step world Checkpoint new = new ≡ record world { follower = checkpoint_start world.follower }
Step world Reply new =
    MatchOption (next_call world.follower) (new ≡ world)
    (λ call. (answer : Answer) × (mid : World) × IsAnswered world call answer mid
    × (new ≡ record mid { follower = after_answer world.follower answer }))
Step world (ChangesReply items) new = IsChangesReply world (next_call world.follower) items new
Step world LossBefore new = new ≡ record world { follower = after_failure world.follower }
Step world LossAfter new =
    MatchOption (next_call world.follower) (new ≡ world)
    (λ call. (answer : Answer) × (mid : World) × IsAnswered world call answer mid
    × (new ≡ record mid { follower = after_failure world.follower }))
Step world (PartialMerge count) new = IsPartialMerge world (next_call world.follower) count new
Step world Restart new = new ≡ record world { follower = Down }

-- the events lead from world to new, one step after the other
abbrev pub Run : World → List Event → World → Type 0
Run world [] new = new ≡ world
Run world (event ∷ events) new = (mid : World) × Step world event mid × Run mid events new

-- the place of a follower that has a session
abbrev pub place_of : Follower → Option Seq
place_of Down = None
place_of (SourceStart session_id) = None
place_of (TargetStart session_id source) = None
place_of (Ready s) = Some s.place
place_of (Busy s phase) = Some s.place

-- c is the number of a sequence up to which all is said to be copied: a log records the sequence, or it is
-- the follower's place
abbrev pub IsCheckpointOf : World → ℕ → Type 0
IsCheckpointOf world c =
    IsRecordedIn world.source_log c
    ⊎ (IsRecordedIn world.target_log c ⊎ (option_map (λ place. place.n) (place_of world.follower) ≡ Some c))
