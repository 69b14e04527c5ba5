use Rattle.std.proofs.Common.{arith, length, ◌≤◌, ◌∙◌, refl}
use Rattle.std.proofs.lemmas.Result.{err_from_is_err_and}
use Rattle.hub_http.proofs.CountLemmas.{counts_for, counts_only, counts_since}
use Rattle.hub_http.proofs.RequestLemmas.{goes_on_too_long, keeps_behind, looked_fault, looked_not_read, read_fault}
use Rattle.hub_http.proofs.requests.Requests.find_head.Goals as goal

pub returns-then-len-ge-HEAD_LIMIT : goal.returns-then-len-ge-HEAD_LIMIT
returns-then-len-ge-HEAD_LIMIT g c =
    let held = c.loop-head.self.held in
    let long : 16384 ≤ length held = omega (arith, c.len.ensures, c.if-len-ge-HEAD_LIMIT.true) in
    record {
      kept = c.loop-head.invariant.0;
      found = goes_on_too_long held long
          (rw (c.in_default.is, c.as_slice.ensures) at c.in_ok-head.ensures);
      ended = c.loop-head.invariant.1;
      counts = counts_only c.loop-head.invariant.2 c.loop-head.invariant.3 (λ e. cc);
    }

pub returns-in-Some : goal.returns-in-Some
returns-in-Some g c = record {
  kept = c.loop-head.invariant.0;
  found = rw (c.in-Some.is, c.as_slice.ensures) at c.in_ok-head.ensures;
  ended = c.loop-head.invariant.1;
  counts = counts_only c.loop-head.invariant.2 c.loop-head.invariant.3 (λ e. cc);
}

pub returns-in_err-head : goal.returns-in_err-head
returns-in_err-head g c =
    let p = err_from_is_err_and c.from_residual.result c.from_residual.ensures.1 in
    let faulty = rw c.as_slice.ensures at c.in_err-head.ensures in
    let held = c.loop-head.self.held in
    rw (p.1, p.2)
    (record {
      kept = c.loop-head.invariant.0;
      found = looked_fault held _ c.in_err-head.field-0.0 faulty;
      ended = c.loop-head.invariant.1;
      counts = counts_only c.loop-head.invariant.2 c.loop-head.invariant.3
          (looked_not_read held c.in_err-head.field-0.0 _ faulty refl);
    })

pub returns-in_err-read_more : goal.returns-in_err-read_more
returns-in_err-read_more g c =
    let p =
    err_from_is_err_and c.from_residual-in_err-read_more.result c.from_residual-in_err-read_more.ensures.1 in
    rw (p.1, p.2)
    (record {
      kept = keeps_behind _ _ _ c.loop-head.invariant.0 c.in_err-read_more.ensures.kept;
      found = read_fault c.read_more.new.self.held c.read_more.new.self.block _ c.in_err-read_more.field-0.0
          c.in_err-read_more.ensures.err.0 (λ e. c.in_err-read_more.ensures.memory (cc));
      ended = c.in_err-read_more.ensures.ended ∙ c.loop-head.invariant.1;
      counts = counts_since c.loop-head.invariant.2 c.loop-head.invariant.3
          (counts_for (λ e. cc) c.in_err-read_more.ensures.counts);
    })
