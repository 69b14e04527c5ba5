-- The first row in reach of the place so far is the first row in reach of the feed's place.
use Rattle.std.proofs.Common.{◌≡◌, ◌≤◌, find}
use Rattle.hub_model.specs.Feed.{is_in_reach}
use Rattle.hub_feed.proofs.feed.FeedState.first_until.Given as goal

abbrev pub invariant-loop : goal.invariant-loop
invariant-loop g l = record {
  passed : l.counter ≤ l.place;
  kept : find (is_in_reach l.self) (g.S.Source.current l.source)
      ≡ find (is_in_reach (record l.self { place = l.place })) (g.S.Source.current l.source);
}
