use Rattle.std.proofs.Common.{◌≡◌, sym, subst, ap, rules, ℕ, List}
use Rattle.std.proofs.lemmas.Fn.{filter_same}
use Rattle.hub_model.specs.Entries.{without}
use Rattle.hub_model.specs.Feed.{Feed}
use Rattle.hub_feed.specs.Feeds.{AreBehind, AreNumbered, FeedList}
use Rattle.hub_feed.proofs.FeedsLemmas.{behind_left, numbered_left}
use Rattle.hub_feed.proofs.feeds.Feeds.finish.Goals as goal

pub invariant_of-self : goal.invariant_of-self
invariant_of-self c =
    let left : c.retain.new.self.items ≡ without c.args.feed.number c.self.inside.list.items =
    filter_same _ _ _ (λ x b f' k. search rules) _ _ c.retain.ensures.filtered in
    subst (AreNumbered c.self.inside.next) (sym left)
    (numbered_left c.self.inside.next c.args.feed.number c.self.inside.list.items c.self.invariant)

pub returns : goal.returns
returns c =
    let left : c.retain.new.self.items ≡ without c.args.feed.number c.self.inside.list.items =
    filter_same _ _ _ (λ x b f' k. search rules) _ _ c.retain.ensures.filtered in
    record {
      new =
          subst (λ (list : FeedList). record { feeds = c.retain.new.self.items; next = c.self.inside.next }
          ≡ record list { feeds = without c.args.feed.number list.feeds }) c.self.view_is
          (ap (λ (fs : List (ℕ × Feed)). record { feeds = fs; next = c.self.inside.next }) left);
      behind = λ len least behind.
          subst (AreBehind len) (sym left)
          (behind_left len c.args.feed.number c.self.inside.list.items
          (subst (λ (list : FeedList). AreBehind len list.feeds) (sym c.self.view_is) behind));
    }
