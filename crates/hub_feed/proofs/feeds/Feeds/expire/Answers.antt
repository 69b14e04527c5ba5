use Rattle.std.proofs.Common.{◌≡◌, ◌∙◌, sym, subst, ap, ℕ, Some, None, nat_eq, List}
use Rattle.std.specs.Prelude.{position, slice_set}
use Rattle.hub_model.specs.Entries.{with_change}
use Rattle.hub_model.specs.Feed.{Feed, expired_feed}
use Rattle.hub_model.proofs.Entries.{changed_absent, changed_here, no_entry}
use Rattle.hub_feed.specs.Feeds.{AreBehind, AreNumbered, FeedList}
use Rattle.hub_feed.proofs.FeedsLemmas.{behind_changed, expired_behind, numbered_changed}
use Rattle.hub_feed.proofs.feeds.Feeds.expire.Goals as goal

pub returns-in_default : goal.returns-in_default
returns-in_default c =
    let none : position (λ (p : ℕ × Feed). nat_eq p.0 c.args.feed.number) c.self.inside.list.items ≡ None =
    rw c.as_slice.ensures.value at (sym c.place_of.ensures ∙ c.in_default.is) in
    record {
      new =
          subst (λ (list : FeedList).
          list ≡ record list { feeds = with_change c.args.feed.number expired_feed list.feeds }) c.self.view_is
          (ap (λ (fs : List (ℕ × Feed)). record { feeds = fs; next = c.self.inside.next })
          (sym (changed_absent c.args.feed.number expired_feed c.self.inside.list.items
          (no_entry c.args.feed.number c.self.inside.list.items none))));
      behind = λ len least behind. behind;
    }

pub invariant_of-self : goal.invariant_of-self
invariant_of-self c =
    let id = c.args.feed.number in
    let feeds = c.self.inside.list.items in
    let placed : Some c.in-Some.at ≡ position (λ (p : ℕ × Feed). nat_eq p.0 id) feeds =
    rw c.as_slice.ensures.value at c.in-Some.ensures in
    let now =
    changed_here id feeds c.in-Some.at placed c.index_mut-feed.result.now c.index_mut-feed.ensures.value
    expired_feed c.expire.new.self c.self.invariant.rising c.expire.ensures in
    subst (AreNumbered c.self.inside.next) (sym now)
    (numbered_changed id expired_feed c.self.inside.next feeds c.self.invariant)

pub returns : goal.returns
returns c =
    let id = c.args.feed.number in
    let feeds = c.self.inside.list.items in
    let placed : Some c.in-Some.at ≡ position (λ (p : ℕ × Feed). nat_eq p.0 id) feeds =
    rw c.as_slice.ensures.value at c.in-Some.ensures in
    let now =
    changed_here id feeds c.in-Some.at placed c.index_mut-feed.result.now c.index_mut-feed.ensures.value
    expired_feed c.expire.new.self c.self.invariant.rising c.expire.ensures in
    record {
      new =
          subst (λ (list : FeedList). ◌≡◌ {A = FeedList}
          (record {
            feeds = slice_set feeds c.in-Some.at (c.index_mut-feed.result.now.0, c.expire.new.self);
            next = c.self.inside.next;
          })
          (record list { feeds = with_change id expired_feed list.feeds })) c.self.view_is
          (ap (λ (fs : List (ℕ × Feed)). record { feeds = fs; next = c.self.inside.next }) now);
      behind = λ len least behind.
          subst (AreBehind len) (sym now)
          (behind_changed id expired_feed len feeds (expired_behind len)
          (subst (λ (list : FeedList). AreBehind len list.feeds) (sym c.self.view_is) behind));
    }
