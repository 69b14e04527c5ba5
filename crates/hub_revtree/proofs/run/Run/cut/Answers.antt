use Rattle.std.proofs.Common.{arith}
use Rattle.hub_revtree.proofs.BringLemmas.{take_falls}
use Rattle.hub_revtree.proofs.run.Run.cut.Goals as goal

pub invariant_of-result : goal.invariant_of-result
invariant_of-result c =
    rw c.cut_kept.ensures
    (take_falls c.args.count _ (λ z. omega (arith, z, c.requires)) c.self.invariant)
