use Rattle.std.proofs.Common.{◌≡◌, sym, subst, ap, ℕ, List, Some}
use Rattle.std.specs.Prelude.{position, slice_set}
use Rattle.hub_model.specs.Entries.{is_of}
use Rattle.hub_model.specs.Feed.{Feed, next_due, feed_after_due}
use Rattle.hub_model.proofs.Entries.{changed_here, entry_here}
use Rattle.hub_feed.specs.Feeds.{AreBehind, AreNumbered, FeedList, feeds_of, over}
use Rattle.hub_feed.specs.Host.{hosted_after_hand, item_of_number}
use Rattle.hub_feed.proofs.FeedsLemmas.{behind_changed, goes_behind, numbered_changed}
use Rattle.hub_feed.proofs.feeds.Feeds.accept_at.Goals as goal

pub accept_item-requires : goal.accept_item-requires
accept_item-requires g c =
    let id = c.args.feed.number in
    let feeds = c.self.inside.list.items in
    let len = g.S.Source.length c.args.source.now in
    let rows = g.S.Source.current c.args.source.now in
    let placed = subst (λ (list : FeedList). Some c.args.at ≡ position (is_of id) list.feeds)
    (sym c.self.view_is)
    c.requires.placed in
    let p = c.index_mut-state.result.now in
    let is = c.index_mut-state.ensures.value in
    let asked =
    subst (λ (list : FeedList). item_of_number (over len rows (g.S.Source.shown c.args.source.now) list) id
    ≡ Some c.args.item.now)
    (sym c.self.view_is) c.requires.due in
    record { due = rw (entry_here id feeds c.args.at placed p is) at asked }

pub invariant_of-self : goal.invariant_of-self
invariant_of-self g c =
    let id = c.args.feed.number in
    let feeds = c.self.inside.list.items in
    let len = g.S.Source.length c.args.source.now in
    let rows = g.S.Source.current c.args.source.now in
    let placed = subst (λ (list : FeedList). Some c.args.at ≡ position (is_of id) list.feeds)
    (sym c.self.view_is)
    c.requires.placed in
    let p = c.index_mut-state.result.now in
    let is = c.index_mut-state.ensures.value in
    let change : Feed → Feed = λ f. feed_after_due f (next_due rows f) len in
    subst (AreNumbered c.self.inside.next)
    (sym (changed_here id feeds c.args.at placed p is change c.accept_item.new.self
    c.self.invariant.rising c.accept_item.ensures))
    (numbered_changed id change c.self.inside.next feeds c.self.invariant)

pub returns : goal.returns
returns g c =
    let id = c.args.feed.number in
    let feeds = c.self.inside.list.items in
    let len = g.S.Source.length c.args.source.now in
    let rows = g.S.Source.current c.args.source.now in
    let placed = subst (λ (list : FeedList). Some c.args.at ≡ position (is_of id) list.feeds)
    (sym c.self.view_is)
    c.requires.placed in
    let p = c.index_mut-state.result.now in
    let is = c.index_mut-state.ensures.value in
    let change : Feed → Feed = λ f. feed_after_due f (next_due rows f) len in
    let now =
    changed_here id feeds c.args.at placed p is change c.accept_item.new.self
    c.self.invariant.rising c.accept_item.ensures in
    record {
      new =
          subst (λ (list : FeedList). ◌≡◌ {A = FeedList}
          (record {
            feeds = slice_set feeds c.args.at (p.0, c.accept_item.new.self);
            next = c.self.inside.next;
          })
          (feeds_of (hosted_after_hand (over len rows (g.S.Source.shown c.args.source.now) list) id))) c.self.view_is
          (ap (λ (fs : List (ℕ × Feed)). record { feeds = fs; next = c.self.inside.next }) now);
      behind = λ m least behind.
          subst (AreBehind m) (sym now)
          (behind_changed id change m feeds
          (goes_behind rows len m least (g.met.S.Source.within c.args.source.now))
          (subst (λ (list : FeedList). AreBehind m list.feeds) (sym c.self.view_is) behind));
    }
