use Rattle.std.proofs.Common.{arith}
use Rattle.hub_http.proofs.ChunkLemmas.{no_digit, one_digit, last_digit}
use Rattle.hub_http.proofs.chunk.put_head.Goals as goal

pub loop-left-init : goal.loop-left-init
loop-left-init c = no_digit c.args.size c.args.bytes.now (omega arith) c.requires

pub loop-left-preserved : goal.loop-left-preserved
loop-left-preserved c =
    rw c.digit.ensures
    (one_digit c.loop-left.at c.loop-left.left _ _ c.loop-left-test.true c.loop-left.invariant)

pub returns-clause-written : goal.returns-clause-written
returns-clause-written c =
    rw c.digit-2.ensures
    (last_digit c.loop-left.at c.loop-left.left _ _ c.loop-left-test.false c.loop-left.invariant)
