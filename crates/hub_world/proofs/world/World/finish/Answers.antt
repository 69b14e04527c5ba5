use Rattle.std.proofs.Common.{◌∙◌, ap}
use Rattle.hub_world.specs.Core.{core_of}
use Rattle.hub_world.specs.PlainList.{held_of}
use Rattle.hub_world.specs.declared.event.Event.TheVariants as event
use Rattle.hub_world.specs.declared.reply.Reply.TheVariants as reply
use Rattle.hub_world.proofs.Programs.{leads_world, left_leads, left_lists}
use Rattle.hub_world.proofs.Stepping.{Leads, from_same}
use Rattle.hub_world.proofs.world.World.finish.Goals as goal
use Rattle.hub_world.proofs.world.World.finish.Goals.{After-items_left}

-- the step of the event
leads : (c : After-items_left)
    → Leads (core_of c.self.inside.locked) (event.Finish c.args.feed) (reply.Left c.items_left.result.items)
    (core_of c.finish-list.new.self)
leads c =
    left_leads c.self.inside.locked c.finish-list.new.self c.args.feed c.self.invariant
    c.finish-list.ensures.step c.items_left.result.items
    (c.items_left.ensures ∙ ap held_of c.finish-list.ensures.sender)

pub invariant_of-self : goal.invariant_of-self
invariant_of-self c =
    leads_world c.self.inside.locked c.finish-list.new.self (event.Finish c.args.feed)
    (reply.Left c.items_left.result.items) c.self.invariant (leads c)
    (left_lists c.self.inside.locked c.finish-list.new.self c.args.feed c.self.invariant
    c.finish-list.ensures.step)

pub returns : goal.returns
returns c =
    from_same (core_of c.self.inside.locked) c.args.self.now (core_of c.finish-list.new.self)
    (event.Finish c.args.feed) (reply.Left c.items_left.result.items) c.self.view_is (leads c)
