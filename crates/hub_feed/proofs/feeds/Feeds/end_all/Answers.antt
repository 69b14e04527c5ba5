use Rattle.std.proofs.Common.{◌≡◌, sym, subst, ap, map, ℕ, List}
use Rattle.hub_model.specs.Feed.{Feed}
use Rattle.hub_feed.specs.Feeds.{AreBehind, AreNumbered, FeedList, ended_entry}
use Rattle.hub_feed.proofs.FeedsLemmas.{behind_ended, numbered_ended}
use Rattle.hub_feed.proofs.feeds.Feeds.end_all.Goals as goal

pub invariant_of-self : goal.invariant_of-self
invariant_of-self c =
    subst (AreNumbered c.self.inside.next) (sym c.end_each.ensures)
    (numbered_ended c.self.inside.next c.self.inside.list.items c.self.invariant)

pub returns : goal.returns
returns c = record {
  new =
      subst (λ (list : FeedList). record { feeds = c.end_each.new.feeds.items; next = c.self.inside.next }
      ≡ record list { feeds = map ended_entry list.feeds }) c.self.view_is
      (ap (λ (fs : List (ℕ × Feed)). record { feeds = fs; next = c.self.inside.next }) c.end_each.ensures);
  behind = λ len least behind.
      subst (AreBehind len) (sym c.end_each.ensures)
      (behind_ended len c.self.inside.list.items
      (subst (λ (list : FeedList). AreBehind len list.feeds) (sym c.self.view_is) behind));
}
