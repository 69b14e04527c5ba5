-- After so many rows the host and the sink are where so many hands lead, each of which answered Row.
use Rattle.hub_feed.specs.Hands.{HandsItems}
use Rattle.hub_feed.specs.declared.handed.Handed.TheVariants.{Row}
use Rattle.hub_feed.proofs.host.FeedHost.hand_items.Given as goal

abbrev pub invariant-loop-sent : goal.invariant-loop-sent
invariant-loop-sent g l =
    HandsItems g.Self.HostView.hosted g.Self.FeedHost.with_hosted g.K.Sink.behind
    (g.H.Pushes.refuses l.fn.handle) l.fn.feed.number l.fn.self l.fn.sink l.sent Row l.self l.sink
