use Rattle.std.proofs.Common.{subst, sym}
use Rattle.hub_world.specs.Applied.{Applies}
use Rattle.hub_world.specs.Core.{core_of}
use Rattle.hub_world.specs.declared.event.Event.{Event}
use Rattle.hub_world.specs.declared.event.Event.TheVariants as event
use Rattle.hub_world.specs.declared.reply.Reply.TheVariants as reply
use Rattle.hub_world.proofs.Programs.{leads_world, took_leads, took_lists}
use Rattle.hub_world.proofs.Stepping.{from_same}
use Rattle.hub_world.proofs.world.World.apply.Goals as goal

pub invariant_of-self : goal.invariant_of-self
invariant_of-self c =
    let old = c.self.inside.locked in
    leads_world old c.take.new.self (event.Take c.in-Take.feed) (reply.Took c.take.result) c.self.invariant
    (took_leads old c.take.new.self c.in-Take.feed c.self.invariant c.take.ensures.rest c.take.result
    c.take.ensures.item)
    (took_lists old c.take.new.self c.in-Take.feed c.self.invariant c.take.ensures.rest)

pub returns-in-Take-clause-step : goal.returns-in-Take-clause-step
returns-in-Take-clause-step c =
    let old = c.self.inside.locked in
    let new = c.take.new.self in
    subst (λ (happens : Event). Applies c.args.self.now happens (reply.Took c.take.result) (core_of new))
    (sym c.in-Take.is)
    (from_same (core_of old) c.args.self.now (core_of new)
    (event.Take c.in-Take.feed) (reply.Took c.take.result) c.self.view_is
    (took_leads old new c.in-Take.feed c.self.invariant c.take.ensures.rest c.take.result
    c.take.ensures.item))
