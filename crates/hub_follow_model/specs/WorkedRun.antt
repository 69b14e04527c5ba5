-- A worked run: one document is written at the source, copied by one round, and the copy recorded (own).
use Rattle.std.specs.Prelude.{List, [], ◌∷◌, false, Some, None}
use Rattle.hub_model.specs.Journal.{Edit}
use Rattle.hub_model.specs.Revision.{Revision}
use Rattle.hub_model.specs.Row.{ChangeRow}
use Rattle.hub_follow_model.specs.ChangesFeed.{items_of}
use Rattle.hub_follow_model.specs.Follower.{Session, Ready, checkpoint_log}
use Rattle.hub_follow_model.specs.Sequence.{beginning, seq_of}
use Rattle.hub_follow_model.specs.declared.seq.Seq.{Seq}
use Rattle.hub_follow_model.specs.World.{World, Event, Write, Start, Round, Checkpoint, Reply, ChangesReply}
use Rattle.hub_follow_model.specs.World.{Run, empty_world}

-- the revision 1-a
abbrev pub one_revision : Revision
one_revision = record { generation = 1; hash = 97 ∷ [] }

-- the document b at 1-a
abbrev pub one_edit : Edit
one_edit = record { id = 98 ∷ []; path = one_revision ∷ []; deleted = false; body = [] }

-- the row of that document
abbrev pub one_row : ChangeRow
one_row =
    record { seq = 1; id = 98 ∷ []; changes = one_revision ∷ []; deleted = false; doc = None; seen = 1 }

-- the events: the write of the document, the start of the session c, its round and its checkpoint
abbrev pub one_round : List Event
one_round =
    Write (one_edit ∷ []) ∷ Start (99 ∷ []) ∷ Reply ∷ Reply ∷ Round
    ∷ ChangesReply (items_of (one_row ∷ []) 1 0)
    ∷ Reply ∷ Reply ∷ Reply ∷ Checkpoint ∷ Reply ∷ Reply ∷ []

-- the session c at this place
abbrev pub one_session : Seq → Session
one_session place =
    record {
      session_id = 99 ∷ [];
      start = beginning;
      place = place;
      source_history = [];
      target_history = [];
    }

-- the world after the events: both databases have the document, and both logs record 1
abbrev pub one_end : World
one_end =
    record {
      limit = 10;
      life = 1;
      source = one_edit ∷ [];
      target = one_edit ∷ [];
      source_log = Some (checkpoint_log (one_session (seq_of 1 1)) []);
      target_log = Some (checkpoint_log (one_session (seq_of 1 1)) []);
      sessions = (99 ∷ []) ∷ [];
      follower = Ready (one_session (seq_of 1 1));
    }

-- the events lead from two empty databases to that world
abbrev pub OneIsCopied : Type 0
OneIsCopied = Run (empty_world 10) one_round one_end
