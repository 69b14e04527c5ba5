use Rattle.std.proofs.Common.{length, sym, subst, arith}
use Rattle.hub_model.specs.Entries.{without}
use Rattle.hub_feed.specs.Feeds.{FeedList}
use Rattle.hub_database.specs.Listing.{IsListing}
use Rattle.hub_database.proofs.ListingLemmas.{kept_on, one_goes}
use Rattle.hub_database.proofs.host.DbStateFeedHost.finish.Goals as goal

pub invariant_of-self : goal.invariant_of-self
invariant_of-self c =
    let id = c.args.feed.number in
    let list = c.self.inside.feeds in
    let J = c.self.inside.contents.journal in (
      c.finish.ensures.behind (length J) (omega arith) c.self.invariant.0,
      subst (λ (z : FeedList). IsListing J z.feeds z.next c.self.inside.listing) (sym c.finish.ensures.new)
          (kept_on J list.feeds (without id list.feeds) list.next list.next (omega arith)
          (one_goes id list.next list.feeds) c.self.inside.listing c.self.invariant.1),
    )
