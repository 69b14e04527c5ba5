use Rattle.std.proofs.Common.{length, map, sym, subst, arith}
use Rattle.hub_feed.specs.Feeds.{FeedList, ended_entry}
use Rattle.hub_database.specs.Listing.{IsListing}
use Rattle.hub_database.proofs.ListingLemmas.{all_end, kept_on}
use Rattle.hub_database.proofs.database.DbState.delete.Goals as goal

pub invariant_of-self : goal.invariant_of-self
invariant_of-self c =
    let list = c.self.inside.feeds in
    let J = c.self.inside.contents.journal in (
      c.end_all.ensures.behind (length J) (omega arith) c.self.invariant.0,
      subst (λ (z : FeedList). IsListing J z.feeds z.next c.self.inside.listing) (sym c.end_all.ensures.new)
          (kept_on J list.feeds (map ended_entry list.feeds) list.next list.next (omega arith)
          (all_end list.next list.feeds) c.self.inside.listing c.self.invariant.1),
    )
