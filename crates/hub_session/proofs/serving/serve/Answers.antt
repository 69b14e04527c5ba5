use Rattle.std.proofs.Common.{Some, ap, arith, refl, sym, subst, ◌∙◌}
use Rattle.hub_http.specs.Words.{HasEnded}
use Rattle.hub_http.proofs.CountLemmas.{counts_for, counts_only, counts_since}
use Rattle.hub_session.proofs.SessionLemmas.{served_none, serves_more, serves_so, serves_all}
use Rattle.hub_session.proofs.serving.serve.Goals as goal

pub returns-in-Some-clause-session : goal.returns-in-Some-clause-session
returns-in-Some-clause-session g c = λ is_open.
    serves_so g.S.Service.rules _ _ _ c.loop.counter _ _ _ c.in-Some.closing
    (c.loop.invariant.served is_open) (c.in-Some.ensures.told (c.loop.invariant.is_open is_open))

pub returns-in-Some-clause-ended : goal.returns-in-Some-clause-ended
returns-in-Some-clause-ended g c = λ ended.
    let same = c.loop.invariant.ended ended in
    let at = c.in-Some.ensures.ended (subst HasEnded (sym same.0) ended) in
    let closing = at.0 in
    (cc, at.1 ∙ same.0, at.2 ∙ same.1, at.3 ∙ same.2)

pub returns-in-Some-clause-writes : goal.returns-in-Some-clause-writes
returns-in-Some-clause-writes g c =
    counts_since c.loop.invariant.writes c.loop.invariant.failed_writes
    (counts_for (ap Some) c.in-Some.ensures.writes)

pub returns-in-Some-clause-reads : goal.returns-in-Some-clause-reads
returns-in-Some-clause-reads g c =
    counts_since c.loop.invariant.reads c.loop.invariant.failed_reads
    (counts_for (ap Some) c.in-Some.ensures.reads)

pub returns-clause-writes : goal.returns-clause-writes
returns-clause-writes g c = counts_only c.loop.invariant.writes c.loop.invariant.failed_writes (λ is. cc)

pub returns-clause-reads : goal.returns-clause-reads
returns-clause-reads g c = counts_only c.loop.invariant.reads c.loop.invariant.failed_reads (λ is. cc)

pub returns-clause-session : goal.returns-clause-session
returns-clause-session g c = λ is_open.
    serves_all g.S.Service.rules _ _ c.loop.counter _ _ c.loop-test.false (c.loop.invariant.served is_open)

pub returns-clause-ended : goal.returns-clause-ended
returns-clause-ended g c = λ ended.
    let none = (c.loop.invariant.ended ended).3 in
    absurd (omega (arith, none, c.loop-test.false))

pub loop-init : goal.loop-init
loop-init g c = record {
  served = λ is_open. served_none g.S.Service.rules _ _;
  is_open = λ is_open. is_open;
  ended = λ ended. (refl, refl, refl, refl);
  writes = omega arith;
  failed_writes = omega arith;
  reads = omega arith;
  failed_reads = omega arith;
}

pub loop-preserved : goal.loop-preserved
loop-preserved g c = record {
  served = λ is_open. serves_more g.S.Service.rules _ _ _ c.loop.counter _ _ _
      (c.loop.invariant.served is_open) (c.in_default.ensures.told (c.loop.invariant.is_open is_open));
  is_open = λ is_open. c.in_default.ensures.stays (c.loop.invariant.is_open is_open) refl;
  ended = λ ended.
      let same = c.loop.invariant.ended ended in
      let closed = (c.in_default.ensures.ended (subst HasEnded (sym same.0) ended)).0 in
      cc;
  writes = omega (arith, c.loop.invariant.writes, c.serve_one.ensures.writes.faults);
  failed_writes = omega (arith, c.loop.invariant.failed_writes, c.serve_one.ensures.writes.failures);
  reads = omega (arith, c.loop.invariant.reads, c.serve_one.ensures.reads.faults);
  failed_reads = omega (arith, c.loop.invariant.failed_reads, c.serve_one.ensures.reads.failures);
}
