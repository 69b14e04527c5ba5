use Rattle.std.proofs.Common.{◌≡◌, ◌++◌, map, drop, take}
use Rattle.hub_feed.specs.Feeds.{ended_entry}
use Rattle.hub_feed.proofs.feeds.end_each.Given as goal

abbrev pub invariant-loop-feed : goal.invariant-loop-feed
invariant-loop-feed l = record {
  now : l.feed-items ≡ map ended_entry (take l.feed-index l.fn.feeds.items) ++ drop l.feed-index l.fn.feeds.items;
}
