-- A hand after the hands before it is one hand more.
use Rattle.std.proofs.Common.{arith}
use Rattle.hub_feed.specs.Hands.{none}
use Rattle.hub_feed.specs.declared.handed.Handed.TheVariants.{Row, End}
use Rattle.hub_feed.proofs.HandLemmas.{one_more, none_taken}
use Rattle.hub_feed.proofs.host.FeedHost.hand_items.Goals as goal

pub loop-sent-init : goal.loop-sent-init
loop-sent-init g c = none

pub returns-in-End-clause-ok : goal.returns-in-End-clause-ok
returns-in-End-clause-ok g c =
    one_more g.Self.HostView.hosted g.Self.FeedHost.with_hosted g.K.Sink.behind
    (g.H.Pushes.refuses c.args.handle.now) c.args.feed.number c.loop-sent.invariant c.in_ok-last.last End c.in-End.is
    c.in_ok-last.ensures.ok

pub returns-in_default : goal.returns-in_default
returns-in_default g c = record {
  ok =
      none_taken g.Self.HostView.hosted g.Self.FeedHost.with_hosted g.K.Sink.behind
      (g.H.Pushes.refuses c.args.handle.now) c.args.feed.number c.loop-sent.invariant c.in_ok-last.last
      c.in_default.not-Row c.in_default.not-End c.in_ok-last.ensures.ok;
  most = (omega arith, λ row. absurd (c.in_default.not-Row row));
  err = tt;
}

pub loop-sent-preserved : goal.loop-sent-preserved
loop-sent-preserved g c =
    one_more g.Self.HostView.hosted g.Self.FeedHost.with_hosted g.K.Sink.behind
    (g.H.Pushes.refuses c.args.handle.now) c.args.feed.number c.loop-sent.invariant c.in_ok-last.last Row c.in-Row.is
    c.in_ok-last.ensures.ok
