use Rattle.std.proofs.Common.{arith}
use Rattle.hub_http.proofs.CountLemmas.{counts_only}
use Rattle.hub_http.proofs.requests.Requests.fill.Goals as goal

pub returns : goal.returns
returns g c = record {
  kept = c.loop-self.invariant.0;
  grown = c.loop-self.invariant.1;
  full = λ yes. omega arith;
  cut = λ no. absurd (cc);
  err = tt;
  ended = c.loop-self.invariant.2;
  counts = counts_only c.loop-self.invariant.3 c.loop-self.invariant.4 (λ e. cc);
}
