use Rattle.std.proofs.Common.{◌≡◌, ◌∙◌, ◌++◌, ◌∷◌, [], ◌+◌, suc, sym, ap}
use Rattle.std.proofs.Common.{length, arith, append_assoc, List, subst}
use Rattle.std.proofs.lemmas.List.{append-nil, length_push, nil_from_length}
use Rattle.hub_world.specs.Core.{Shows, limits_of}
use Rattle.hub_world.specs.Step.{Run}
use Rattle.hub_world.specs.World.{World, empty}
use Rattle.hub_world.specs.declared.event.Event.{Event}
use Rattle.hub_world.proofs.Faithful.{faithful, handed_right}
use Rattle.hub_world.proofs.Running.{run_more}
use Rattle.hub_world.proofs.world.World.run.Goals as goal
use Rattle.hub_world.proofs.world.World.run.Goals.{After-drop-event-iterator-2}

pub loop-event-preserved : goal.loop-event-preserved
loop-event-preserved c =
    let i = c.loop-event.invariant in
    let step = c.in-Some.ensures.steps in
    let start = empty (limits_of c.args.limits) in
    let one = c.in_ok-reply.ensures i.run.0 i.run.2 in
    let longer : length c.push_reserved.new.self.items ≡ length c.loop-event.replies.items + 1 =
    ap length c.push_reserved.ensures.items ∙ length_push c.loop-event.replies.items c.in_ok-reply.reply in
    let left : length c.loop-event.event-iterator.rest.items ≡ suc (length c.next.new.self.rest.items) =
    ap length step.0 in
    record {
      run = (
        one.0,
        rw c.push_reserved.ensures.items
            (run_more start c.loop-event.yielded c.loop-event.replies.items i.run.0 c.in-Some.event
            c.in_ok-reply.reply one.0 i.run.1 one.1),
        one.2,
      );
      events =
          append_assoc c.loop-event.yielded (c.in-Some.event ∷ []) c.next.new.self.rest.items
          ∙ (ap (λ es. c.loop-event.yielded ++ es) (sym step.0) ∙ i.events);
      room = omega (arith, longer, left, i.room, c.push_reserved.ensures.capacity);
    }

-- the run of all events
whole : (c : After-drop-event-iterator-2)
    → (world : World)
    × Run (empty (limits_of c.args.limits)) c.args.events.items c.loop-event.replies.items world
    × Shows c.loop-event.world world
whole c =
    let over : c.loop-event.event-iterator.rest.items ≡ [] =
    nil_from_length c.loop-event.event-iterator.rest.items
    (search (c.in-None.ensures.steps, c.loop-event.event-iterator.rest)) in
    let all : c.loop-event.yielded ≡ c.args.events.items =
    sym (append-nil c.loop-event.yielded)
    ∙ (ap (λ events. c.loop-event.yielded ++ events) (sym over) ∙ c.loop-event.invariant.events) in
    let run = c.loop-event.invariant.run in (
      run.0,
      subst (λ (events : List Event).
          Run (empty (limits_of c.args.limits)) events c.loop-event.replies.items run.0) all run.1,
      run.2,
    )

pub returns-clause-run : goal.returns-clause-run
returns-clause-run c = whole c

pub returns-clause-headline : goal.returns-clause-headline
returns-clause-headline c =
    let run = whole c in
    faithful (limits_of c.args.limits) c.args.events.items c.loop-event.replies.items run.0 run.1

pub returns-clause-right : goal.returns-clause-right
returns-clause-right c =
    let run = whole c in
    handed_right (limits_of c.args.limits) c.args.events.items c.loop-event.replies.items run.0 run.1
