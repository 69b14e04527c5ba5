-- After so many rows the database and the sink are where so many hands lead, each of which answered Row. The
-- feed stands where it stood.
use Rattle.std.specs.Prelude.{◌≡◌, Some, position}
use Rattle.hub_model.specs.Entries.{is_of}
use Rattle.hub_feed.specs.Hands.{HandsItems}
use Rattle.hub_feed.specs.declared.handed.Handed.TheVariants.{Row}
use Rattle.hub_database.specs.Hosting.{hosted_of, with_hosted}
use Rattle.hub_database.proofs.host.DbStateFeedHost.hand_items.Given as goal

abbrev pub invariant-loop-sent : goal.invariant-loop-sent
invariant-loop-sent g l =
    HandsItems hosted_of with_hosted g.K.Sink.behind (g.H.Pushes.refuses l.fn.handle) l.fn.feed.number l.fn.self
    l.fn.sink l.sent Row l.self l.sink
    × (Some l.at ≡ position (is_of l.fn.feed.number) l.self.feeds)
