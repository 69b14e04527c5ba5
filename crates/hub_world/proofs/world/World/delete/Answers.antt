use Rattle.std.proofs.Common.{◌≡◌, ap, subst, sym, refl}
use Rattle.hub_world.specs.Core.{core_of}
use Rattle.hub_world.specs.declared.event.Event.TheVariants as event
use Rattle.hub_world.specs.declared.reply.Reply.TheVariants as reply
use Rattle.hub_world.proofs.Programs.{Program, kept_lists, leads_world}
use Rattle.hub_world.proofs.Stepping.{Leads, delete_leads, from_same}
use Rattle.hub_world.proofs.world.World.delete.Goals as goal

-- the step of the event
leads : (c : goal.In-Ok)
    → Leads (core_of c.self.inside.locked) event.Delete reply.Nothing (core_of c.delete.new.self)
leads c =
    let old = c.self.inside.locked in
    subst (λ (program : Program). Leads (core_of old) event.Delete reply.Nothing (core_of program))
    (sym c.in-Ok.ensures.ok.1) (delete_leads (core_of old) c.in-Ok.ensures.ok.0)

pub invariant_of-self-2 : goal.invariant_of-self-2
invariant_of-self-2 c =
    let old = c.self.inside.locked in
    let step = c.in-Ok.ensures.ok.1 in
    leads_world old c.delete.new.self event.Delete reply.Nothing c.self.invariant (leads c)
    (kept_lists old c.delete.new.self c.self.invariant
    (subst (λ (program : Program). program ≡ record old { state = program.state }) (sym step) refl)
    (ap (λ (program : Program). program.state.limits.lane) step))

pub returns : goal.returns
returns c =
    from_same (core_of c.self.inside.locked) c.args.self.now (core_of c.delete.new.self) event.Delete
    reply.Nothing c.self.view_is (leads c)
