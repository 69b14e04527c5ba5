use Rattle.std.proofs.Common.{◌≡◌, ◌+◌, ◌≤◌, ◌++◌, length}
use Rattle.std.specs.Prelude.{vec_capacity}
use Rattle.hub_world.specs.Core.{Shows, limits_of}
use Rattle.hub_world.specs.Step.{Run}
use Rattle.hub_world.specs.World.{World, empty}
use Rattle.hub_world.proofs.world.World.run.Given as goal

abbrev pub invariant-loop-event : goal.invariant-loop-event
invariant-loop-event l = record {
  run : (world : World) × Run (empty (limits_of l.fn.limits)) l.yielded l.replies.items world
      × Shows l.world world;
  events : l.yielded ++ l.event-iterator.rest.items ≡ l.fn.events.items;
  room : length l.replies.items + length l.event-iterator.rest.items ≤ vec_capacity l.replies;
}
