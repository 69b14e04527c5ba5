use Rattle.std.proofs.Common.{◌∙◌, sym}
use Rattle.hub_world.proofs.Running.{applied_whole}
use Rattle.hub_world.proofs.world.World.apply_whole.Goals as goal

pub returns : goal.returns
returns c =
    applied_whole c.args.self.now c.apply.new.self c.args.event c.in_ok-reply.reply c.in_ok-reply.ensures.step
    c.in_ok-reply.ensures.batch (sym c.is_stopped.ensures ∙ c.if-is_stopped.false)
