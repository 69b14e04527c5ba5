use Rattle.std.proofs.Common.{◌++◌, ◌∷◌, [], ◌+◌, sym, subst, arith}
use Rattle.hub_model.specs.Feed.{new_feed}
use Rattle.hub_params.specs.FeedModel.{params_of}
use Rattle.hub_feed.specs.Feeds.{AreBehind, FeedList}
use Rattle.hub_feed.proofs.FeedsLemmas.{ok_or_err}
use Rattle.hub_database.specs.Listing.{IsListing}
use Rattle.hub_database.proofs.ListingLemmas.{kept_on, one_comes}
use Rattle.hub_database.proofs.host.DbStateFeedHost.open_feed.Goals as goal

pub invariant_of-self : goal.invariant_of-self
invariant_of-self c =
    let old = c.self.inside.feeds in
    let new = c.open.new.self in
    let J = c.self.inside.contents.journal in
    let listing = c.self.inside.listing in
    let begun = new_feed (params_of c.args.params) c.length-length.result c.life-life.result in (
      subst (λ n. AreBehind n new.feeds) c.length-length.ensures
          (c.open.ensures.behind
          (subst (λ n. AreBehind n old.feeds)
          (sym c.length-length.ensures) c.self.invariant.0)),
      ok_or_err {P = IsListing J new.feeds new.next listing} c.open.result
          (λ id is. subst (λ (list : FeedList). IsListing J list.feeds list.next listing) (sym is)
          (kept_on J old.feeds (old.feeds ++ (old.next, begun) ∷ []) old.next (old.next + 1) (omega arith)
          (one_comes old.next begun old.feeds) listing c.self.invariant.1))
          (λ is. subst (λ (list : FeedList). IsListing J list.feeds list.next listing)
          (sym is) c.self.invariant.1)
          c.open.ensures.ok c.open.ensures.err,
    )
