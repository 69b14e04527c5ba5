use Rattle.std.proofs.Common.{◌≡◌, ap, subst, sym, refl}
use Rattle.hub_world.specs.Core.{core_of}
use Rattle.hub_world.specs.declared.event.Event.TheVariants as event
use Rattle.hub_world.specs.declared.reply.Reply.TheVariants as reply
use Rattle.hub_world.proofs.Programs.{Program, kept_lists, leads_world}
use Rattle.hub_world.proofs.Stepping.{Leads, expire_leads, from_same}
use Rattle.hub_world.proofs.world.World.expire.Goals as goal
use Rattle.hub_world.proofs.world.World.expire.Goals.{After-expire}

-- the step of the event
leads : (c : After-expire)
    → Leads (core_of c.self.inside.locked) (event.Expire c.args.feed) reply.Nothing
    (core_of c.expire.new.self)
leads c =
    let old = c.self.inside.locked in
    subst (λ (program : Program).
    Leads (core_of old) (event.Expire c.args.feed) reply.Nothing (core_of program))
    (sym c.expire.ensures) (expire_leads (core_of old) c.args.feed)

pub invariant_of-self : goal.invariant_of-self
invariant_of-self c =
    let old = c.self.inside.locked in
    let step = c.expire.ensures in
    leads_world old c.expire.new.self (event.Expire c.args.feed) reply.Nothing c.self.invariant (leads c)
    (kept_lists old c.expire.new.self c.self.invariant
    (subst (λ (program : Program). program ≡ record old { state = program.state }) (sym step) refl)
    (ap (λ (program : Program). program.state.limits.lane) step))

pub returns : goal.returns
returns c =
    from_same (core_of c.self.inside.locked) c.args.self.now (core_of c.expire.new.self)
    (event.Expire c.args.feed) reply.Nothing c.self.view_is (leads c)
