use Rattle.std.proofs.Common.{◌∙◌, sym, ap, subst}
use Rattle.hub_database.proofs.StoreLemmas.{on_err}
use Rattle.hub_model.specs.RightlyHanded.{ChangeItem}
use Rattle.hub_world.specs.Applied.{whole_reply}
use Rattle.hub_world.specs.Core.{core_of}
use Rattle.hub_world.specs.declared.event.Event.TheVariants as event
use Rattle.hub_world.specs.declared.reply.Reply.TheVariants as reply
use Rattle.hub_world.proofs.Growing.{row_grows, fails_as}
use Rattle.hub_world.proofs.Programs.{IsGiven, Program, full_leads, given, given_leads}
use Rattle.hub_world.proofs.Programs.{given_world}
use Rattle.hub_world.proofs.Programs.{gone_leads, has_handed, leads_world, nothing_leads, told_as}
use Rattle.hub_world.proofs.Stepping.{Leads, from_same}
use Rattle.hub_world.proofs.world.World.hand.Goals as goal

pub returns-in_err-hand-clause-err : goal.returns-in_err-hand-clause-err
returns-in_err-hand-clause-err c =
    let err = c.in_err-hand.ensures.err in
    on_err c.from_residual.result _ (
      ap core_of err.0 ∙ c.self.view_is,
      fails_as (core_of c.self.inside.locked) c.args.self.now (event.Hand c.args.feed) c.self.view_is
          (row_grows (core_of c.self.inside.locked) c.args.feed err.1),
    )

-- the item that was handed
item : (c : goal.In-Row)
    → (item : ChangeItem) × IsGiven c.self.inside.locked c.hand.new.self c.args.feed c.self.invariant item
item c =
    given c.self.inside.locked c.hand.new.self c.args.feed c.self.invariant c.in_ok-hand.field-0
    (has_handed c.in_ok-hand.field-0 c.in-Row.is) c.in_ok-hand.ensures.ok

pub invariant_of-self-in-Row : goal.invariant_of-self-in-Row
invariant_of-self-in-Row c =
    let gives = item c in
    given_world c.self.inside.locked c.hand.new.self c.args.feed c.self.invariant gives.0 gives.1

pub returns-in-Row-clause-ok : goal.returns-in-Row-clause-ok
returns-in-Row-clause-ok c =
    let gives =
    given c.self.inside.locked c.hand.new.self c.args.feed c.self.invariant c.in_ok-hand.field-0
    (has_handed c.in_ok-hand.field-0 c.in-Row.is) c.in_ok-hand.ensures.ok in
    from_same (core_of c.self.inside.locked) c.args.self.now (core_of c.hand.new.self)
    (event.Hand c.args.feed) (whole_reply c.last_reply.result) c.self.view_is
    (given_leads c.self.inside.locked c.hand.new.self c.args.feed c.self.invariant gives.0 gives.1
    c.last_reply.result c.last_reply.ensures.reply c.last_reply.ensures.within)

pub returns-in-Full-clause-ok : goal.returns-in-Full-clause-ok
returns-in-Full-clause-ok c =
    let full =
    full_leads c.self.inside.locked c.hand.new.self c.args.feed c.self.invariant
    (subst (λ answers. told_as c.self.inside.locked c.hand.new.self c.args.feed c.self.invariant answers)
    c.in-Full.is c.in_ok-hand.ensures.ok) in
    from_same (core_of c.self.inside.locked) c.args.self.now (core_of c.hand.new.self)
    (event.Hand c.args.feed) reply.Full c.self.view_is
    (subst (λ (program : Program). Leads (core_of c.self.inside.locked) (event.Hand c.args.feed) reply.Full
    (core_of program)) (sym full.0) full.1)

pub invariant_of-self-in-Nothing : goal.invariant_of-self-in-Nothing
invariant_of-self-in-Nothing c =
    let nothing =
    nothing_leads c.self.inside.locked c.hand.new.self c.args.feed c.self.invariant
    (subst (λ answers. told_as c.self.inside.locked c.hand.new.self c.args.feed c.self.invariant answers)
    c.in-Nothing.is c.in_ok-hand.ensures.ok) in
    leads_world c.self.inside.locked c.hand.new.self (event.Hand c.args.feed) reply.Nothing
    c.self.invariant nothing.1 nothing.0

pub returns-in-Nothing-clause-ok : goal.returns-in-Nothing-clause-ok
returns-in-Nothing-clause-ok c =
    let nothing =
    nothing_leads c.self.inside.locked c.hand.new.self c.args.feed c.self.invariant
    (subst (λ answers. told_as c.self.inside.locked c.hand.new.self c.args.feed c.self.invariant answers)
    c.in-Nothing.is c.in_ok-hand.ensures.ok) in
    from_same (core_of c.self.inside.locked) c.args.self.now (core_of c.hand.new.self)
    (event.Hand c.args.feed) reply.Nothing c.self.view_is nothing.1

pub returns-in-Gone-clause-ok : goal.returns-in-Gone-clause-ok
returns-in-Gone-clause-ok c =
    let gone =
    gone_leads c.self.inside.locked c.hand.new.self c.args.feed c.self.invariant
    (subst (λ answers. told_as c.self.inside.locked c.hand.new.self c.args.feed c.self.invariant answers)
    c.in-Gone.is c.in_ok-hand.ensures.ok) in
    from_same (core_of c.self.inside.locked) c.args.self.now (core_of c.hand.new.self)
    (event.Hand c.args.feed) reply.Gone c.self.view_is
    (subst (λ (program : Program). Leads (core_of c.self.inside.locked) (event.Hand c.args.feed) reply.Gone
    (core_of program)) (sym gone.0) gone.1)
