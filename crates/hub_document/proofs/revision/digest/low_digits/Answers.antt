use Rattle.std.proofs.Common.{◌%◌, slice_index, ◌∙◌, arith}
use Rattle.std.proofs.lemmas.List.{length-set}
use Rattle.hex.specs.Hex.{lower_digits}
use Rattle.hub_document.proofs.DigestLemmas.{set_next}
use Rattle.hub_document.proofs.revision.digest.low_digits.Goals as goal

pub loop-at-preserved : goal.loop-at-preserved
loop-at-preserved c = record {
  long = length-set c.loop-at.digits c.loop-at.at c.digit.result ∙ c.loop-at.invariant.long;
  each =
      set_next (λ i. slice_index lower_digits (slice_index c.args.digest.now i % 16)) c.loop-at.digits
      c.loop-at.at c.digit.result (omega (arith, c.loop-at-test.true, c.loop-at.invariant.long))
      c.digit.ensures c.loop-at.invariant.each;
}
