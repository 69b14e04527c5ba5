-- The events that take memory, and so may find none (own).
use Rattle.std.specs.Prelude.{◌≡◌, ◌<◌, length, false}
use Rattle.hub_feed.specs.Host.{due_if_any}
use Rattle.hub_feed.specs.Next.{IsRowDue}
use Rattle.hub_model.specs.Current.{current}
use Rattle.hub_world.specs.Core.{Core, Shows}
use Rattle.hub_world.specs.World.{World, has_no_room, subscription, feed_of}
use Rattle.hub_world.specs.declared.event.Event.{Event}
use Rattle.hub_world.specs.declared.event.Event.TheVariants.{Write, Interactive, Begin, Hand, Heartbeat}
use Rattle.hub_world.specs.declared.event.Event.TheVariants.{Expire, Take, Finish, Delete}

-- The event takes memory: a batch for its outcomes, a feed that is opened, a row that is made to be handed. A
-- row is made before its lane is looked at. So a Hand with a row due takes memory even where the lane is
-- full, and a Hand with an End due takes none. A heartbeat takes none. Nor does a Begin that is refused: the
-- database is deleted, or has no room for a feed.
abbrev pub NeedsMemory : World → Event → Type 0
NeedsMemory world (Write docs) = 0 < length docs
NeedsMemory world (Interactive docs) = 0 < length docs
NeedsMemory world (Begin params) = (world.deleted ≡ false) × (has_no_room world ≡ false)
NeedsMemory world (Hand feed) =
    IsRowDue (due_if_any (current world.journal) (feed_of (subscription world feed.number)))
NeedsMemory world (Heartbeat feed) = ⊥
NeedsMemory world (Expire feed) = ⊥
NeedsMemory world (Take feed) = ⊥
NeedsMemory world (Finish feed) = ⊥
NeedsMemory world Delete = ⊥

-- the event may find no memory in the program's core: the event takes memory in each world that the core
-- shows
abbrev pub MayFail : Core → Event → Type 0
MayFail core event = (world : World) → Shows core world → NeedsMemory world event
