use Rattle.std.proofs.Common.{◌≡◌, ◌++◌, map}
use Rattle.hub_follow_model.specs.World as world
use Rattle.hub_follower.specs.Worlds.{event_of}
use Rattle.hub_follower.proofs.world.FollowWorld.run.Given as goal

-- the events so far lead to this world
abbrev pub invariant-loop-event : goal.invariant-loop-event
invariant-loop-event l = record {
  run : world.Run (world.empty_world 4294967295) (map event_of l.yielded) l.world;
  events : l.yielded ++ l.event-iterator.rest.items ≡ l.fn.events.items;
}
