-- The effect of one call of the program: its event takes place. Of a batch that stops for lack of memory, the
-- write of a front of its documents takes place (own).
use Rattle.std.specs.Prelude.{◌≡◌, ◌<◌, List, length, take, Bool, true, false, IsTrue, ⊤}
use Rattle.std.specs.Prelude.{Option, Some, None}
use Rattle.hub_database.specs.Edits.{StopsAt}
use Rattle.hub_document.specs.declared.doc.Doc.{Doc}
use Rattle.hub_database.specs.declared.batch.Batch.{Batch}
use Rattle.hub_model.specs.RightlyHanded.{ChangeItem}
use Rattle.hub_world.specs.Core.{Core, Shows}
use Rattle.hub_world.specs.Step.{Step, whole_batch}
use Rattle.hub_world.specs.World.{World}
use Rattle.hub_world.specs.declared.event.Event.{Event}
use Rattle.hub_world.specs.declared.event.Event.TheVariants.{Write, Interactive}
use Rattle.hub_world.specs.declared.reply.Reply.{Reply}
use Rattle.hub_world.specs.declared.reply.Reply.TheVariants.{Outcomes, Pushed, Nothing}

-- whether the reply is that of a batch that stopped
abbrev pub is_stopped : Reply → Bool
is_stopped (Outcomes batch) = batch.stopped
is_stopped reply = false

-- the reply that tells the last item of a lane: `Pushed` row 6 of row 6, and `Nothing` of no item
abbrev pub last_reply : Option ChangeItem → Reply
last_reply (Some item) = Pushed item
last_reply None = Nothing

-- the event of a write: documents with their histories, or, as new edits, with revisions that are made here
abbrev pub write_of : (new_edits : Bool) → List Doc → Event
write_of false docs = Write docs
write_of true docs = Interactive docs

-- the event as it took place, by its reply. A batch that stopped is the write of the documents before the
-- stop. Example: a write of five documents whose batch stopped after three replies is the write of the first
-- three.
abbrev pub event_as_applied : Event → Reply → Event
event_as_applied (Write docs) (Outcomes batch) = Write (take (length batch.replies) docs)
event_as_applied (Interactive docs) (Outcomes batch) = Interactive (take (length batch.replies) docs)
event_as_applied event reply = event

-- the reply to the event as it took place: a batch that stopped becomes a whole batch with its outcomes
abbrev pub whole_reply : Reply → Reply
whole_reply (Outcomes batch) = Outcomes (whole_batch batch.replies)
whole_reply reply = reply

-- A batch that did not stop answers for each document. A batch that stopped answers for fewer, and the next
-- document needed room. Of five documents with a known one in the middle such a batch may answer for 0, 1, 3
-- or 4, and never for 2.
pub record IsAnsweredFor (new_edits : Bool) (old : Core) (docs : List Doc) (batch : Batch) (new : Core) :
    Type 0 where
  pub whole : batch.stopped ≡ false → length batch.replies ≡ length docs
  pub stopped : IsTrue batch.stopped → length batch.replies < length docs
  pub stops : IsTrue batch.stopped
      → StopsAt new_edits old.db.deleted new.db.journal (length batch.replies) docs

-- The batch of a write that led from the old core to the new one answers for the write's documents as above.
-- Of any other reply nothing is said.
abbrev pub Answers : Core → Event → Reply → Core → Type 0
Answers old (Write docs) (Outcomes batch) new = IsAnsweredFor false old docs batch new
Answers old (Interactive docs) (Outcomes batch) new = IsAnsweredFor true old docs batch new
Answers old event reply new = ⊤

-- with this reply the event leads from each world that the old core shows to a world that the new core shows
abbrev pub CoreStep : Core → Event → Reply → Core → Type 0
CoreStep old event reply new =
    (world : World) → Shows old world → (next : World) × Step world event reply next × Shows new next

-- the event as it took place, by its reply, leads from the old core to the new one
abbrev pub Applies : Core → Event → Reply → Core → Type 0
Applies old event reply new = CoreStep old (event_as_applied event reply) (whole_reply reply) new
