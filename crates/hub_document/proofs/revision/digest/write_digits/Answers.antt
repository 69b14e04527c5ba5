use Rattle.std.proofs.Common.{arith}
use Rattle.hex.specs.Hex.{lower_digits}
use Rattle.hex.proofs.Pairs.{encode_done, encode_step}
use Rattle.hub_document.proofs.revision.digest.write_digits.Goals as goal

pub loop-at-preserved : goal.loop-at-preserved
loop-at-preserved c =
    encode_step lower_digits c.args.digest.now c.loop-at.letters c.loop-at.at _ _
    (omega (arith, c.told-digest, c.loop-at-test.true))
    (omega (arith, c.requires, c.loop-at.auto.letters, c.loop-at-test.true))
    (c.high_digits-high.ensures c.loop-at.at (omega (arith, c.loop-at-test.true)))
    (c.low_digits-low.ensures c.loop-at.at (omega (arith, c.loop-at-test.true)))
    c.loop-at.invariant

pub returns : goal.returns
returns c =
    encode_done lower_digits c.args.digest.now c.loop-at.letters c.loop-at.at
    (omega (arith, c.told-digest, c.loop-at-test.false))
    (omega (arith, c.requires, c.told-digest, c.loop-at.auto.letters)) c.loop-at.invariant
