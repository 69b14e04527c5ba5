use Rattle.std.proofs.Common.{length, arith}
use Rattle.hub_updates.proofs.host.UpdatesStateFeedHost.finish.Goals as goal

pub invariant_of-self : goal.invariant_of-self
invariant_of-self c =
    c.finish.ensures.behind (length c.self.inside.log.notes) (omega arith) c.self.invariant
