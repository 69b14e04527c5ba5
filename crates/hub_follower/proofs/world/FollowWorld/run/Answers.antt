use Rattle.std.proofs.Common.{◌∙◌, ◌++◌, ◌∷◌, [], ap, sym, subst, List, map, append_assoc, append-nil}
use Rattle.hub_follow_model.specs.World as world
use Rattle.hub_follow_model.proofs.Theorem.{faithful}
use Rattle.hub_follower.specs.Worlds.{event_of}
use Rattle.hub_follower.proofs.Happening.{run_more, place_within}
use Rattle.hub_follower.proofs.Opening.{map_push, none_left}
use Rattle.hub_follower.proofs.world.FollowWorld.run.Goals as goal

pub step-requires : goal.step-requires
step-requires c =
    place_within 4294967295 (map event_of c.loop-event.yielded) c.loop-event.world c.loop-event.invariant.run

pub loop-event-preserved : goal.loop-event-preserved
loop-event-preserved c =
    let i = c.loop-event.invariant in
    let so_far = c.loop-event.yielded in
    let event = c.in-Some.event in
    let step = c.in-Some.ensures.steps in
    let rest = c.next.new.self.rest.items in
    let new = c.step.new.self in
    record {
      run =
          subst (λ (events : List world.Event). world.Run (world.empty_world 4294967295) events new)
          (sym (map_push event_of so_far event))
          (run_more (map event_of so_far) (event_of event)
          (world.empty_world 4294967295) c.loop-event.world new i.run c.in_ok-step.ensures);
      events =
          append_assoc so_far (event ∷ []) rest ∙ (ap (λ events. so_far ++ events) (sym step.0) ∙ i.events);
    }

pub returns-clause-run : goal.returns-clause-run
returns-clause-run c =
    let i = c.loop-event.invariant in
    let none =
    none_left c.loop-event.event-iterator.rest.items
    (sym c.loop-event.event-iterator.rest.ok.0 ∙ c.in-None.ensures.steps.0) in
    let all =
    sym (append-nil c.loop-event.yielded) ∙ (ap (λ z. c.loop-event.yielded ++ z) (sym none) ∙ i.events) in
    subst (λ z. world.Run (world.empty_world 4294967295) (map event_of z) c.loop-event.world) all i.run

pub returns-clause-faithful : goal.returns-clause-faithful
returns-clause-faithful c =
    faithful 4294967295 (map event_of c.loop-event.yielded) c.loop-event.world c.loop-event.invariant.run
