use Rattle.std.proofs.Common.{length, sym, subst, arith}
use Rattle.hub_model.specs.Entries.{with_change}
use Rattle.hub_model.specs.Feed.{expired_feed}
use Rattle.hub_feed.specs.Feeds.{FeedList}
use Rattle.hub_database.specs.Listing.{IsListing}
use Rattle.hub_database.proofs.ListingLemmas.{expires_asking, kept_on, one_asks}
use Rattle.hub_database.proofs.host.DbStateFeedHost.expire.Goals as goal

pub invariant_of-self : goal.invariant_of-self
invariant_of-self c =
    let id = c.args.feed.number in
    let list = c.self.inside.feeds in
    let J = c.self.inside.contents.journal in (
      c.expire.ensures.behind (length J) (omega arith) c.self.invariant.0,
      subst (λ (z : FeedList). IsListing J z.feeds z.next c.self.inside.listing) (sym c.expire.ensures.new)
          (kept_on J list.feeds (with_change id expired_feed list.feeds) list.next list.next (omega arith)
          (one_asks id list.next expired_feed list.feeds expires_asking) c.self.inside.listing
          c.self.invariant.1),
    )
