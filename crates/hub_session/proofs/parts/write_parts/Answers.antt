use Rattle.std.proofs.Common.{refl, rules}
use Rattle.hub_http.proofs.CountLemmas.{counts_for, counts_since}
use Rattle.hub_session.proofs.PartsLemmas.{broken_sends, front_of_parts}
use Rattle.hub_session.proofs.parts.write_parts.Goals as goal

pub returns-in_err-write_all : goal.returns-in_err-write_all
returns-in_err-write_all g c = record {
  counts = counts_since c.loop-part.invariant.1 c.loop-part.invariant.2
      (counts_for (λ broken. refl) c.in_err-write_all.ensures.counts);
  sent = broken_sends _ _ _ _ (search rules)
      (front_of_parts _ _ _ c.args.parts.now c.loop-part.part-index _ c.loop-part-test.true
      c.loop-part.invariant.0 c.in_err-write_all.ensures.front);
}
