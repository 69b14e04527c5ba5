use Rattle.std.proofs.Common.{[], Err, ap, arith}
use Rattle.std.proofs.KnownBytes.{Appends-nil}
use Rattle.hub_session.specs.declared.closing.StreamEnd.TheVariants.{Exhausted}
use Rattle.hub_session.specs.Feeds.{Streams}
use Rattle.hub_http.proofs.CountLemmas.{counts_for, counts_only, counts_since}
use Rattle.hub_session.proofs.FeedLemmas.{went_none, went_more, went_ends}
use Rattle.hub_session.proofs.feed.send_items.Goals as goal

pub loop-init : goal.loop-init
loop-init g c = (rw c.requires (went_none _ _ _ _), omega arith, omega (arith, c.requires), omega arith)

pub returns-in-Err : goal.returns-in-Err
returns-in-Err g c =
    let sent = c.send_next-sent.ensures in
    record {
      fed = went_ends g.S.Service.rules _ _ _ c.loop.counter c.loop.rows _ _ c.in-Err.end c.loop.invariant.0
          (c.in-Err.ensures.sent c.loop.service c.loop.writer c.loop.counter sent);
      counts = counts_since c.loop.invariant.1 c.loop.invariant.3
          (counts_for (ap Err) (c.in-Err.ensures.counts c.loop.service c.loop.writer sent));
    }

pub returns : goal.returns
returns g c = record {
  fed = went_ends g.S.Service.rules _ _ _ c.loop.counter c.loop.rows _ _ Exhausted c.loop.invariant.0
      ([], Streams.gives_up c.drop_stream.ensures c.loop-test.false, Appends-nil _);
  counts = counts_only c.loop.invariant.1 c.loop.invariant.3 (λ is. cc);
}

pub loop-preserved : goal.loop-preserved
loop-preserved g c =
    let sent = c.send_next-sent.ensures in
    let counts = c.after_item.ensures.counts c.loop.service c.loop.writer sent in (
      went_more g.S.Service.rules _ _ _ c.loop.counter c.loop.rows _ _ _ c.loop.invariant.0
          (c.in-Ok.ensures.sent c.loop.service c.loop.writer c.loop.counter sent),
      omega (arith, c.loop.invariant.1, counts.faults),
      omega (arith, c.loop.invariant.2, c.in-Ok.ensures.bound),
      omega (arith, c.loop.invariant.3, counts.failures),
    )

pub after_item-requires : goal.after_item-requires
after_item-requires g c = omega (arith, c.loop.invariant.2, c.loop-test.true)
