use Rattle.std.proofs.Common.{◌≡◌, ◌∙◌, ap, sym, arith, length, ◌<◌, slice_set}
use Rattle.std.proofs.lemmas.List.Edits.{map_over_more}
use Rattle.hub_model.specs.Feed.{Feed, end}
use Rattle.hub_feed.specs.Feeds.{ended_entry}
use Rattle.hub_feed.proofs.feeds.end_each.Goals as goal

pub loop-feed-preserved : goal.loop-feed-preserved
loop-feed-preserved c =
    let items = c.loop-feed.feed-items in
    let at = c.loop-feed.feed-index in
    let x = c.feed-item.result in
    let low : at < length c.args.feeds.now.items =
    omega (arith, c.loop-feed-test.true, ap length c.deref_mut-feed-items.ensures.value) in
    let now : c.end.new.self ≡ end x.1 = rw (sym c.feed-item.is) at c.end.ensures in
    record {
      now =
          rw (sym c.feed-item.is)
          (ap (λ (feed : Feed). slice_set items at (x.0, feed)) now
          ∙ map_over_more ended_entry c.args.feeds.now.items items
          at x low c.loop-feed.invariant.now c.feed-item.is);
    }
