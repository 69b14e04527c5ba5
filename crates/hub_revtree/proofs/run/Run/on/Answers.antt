use Rattle.std.proofs.Common.{arith}
use Rattle.hub_revtree.proofs.RunLemmas.{shared_path}
use Rattle.hub_revtree.proofs.run.Run.on.Goals as goal

pub invariant_of-result : goal.invariant_of-result
invariant_of-result c =
    shared_path c.generation-newest.result c.digest.result c.args.line
    (omega (arith, c.requires, c.generation-newest.ensures.value))
