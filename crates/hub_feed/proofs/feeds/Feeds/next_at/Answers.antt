use Rattle.std.proofs.Common.{◌≡◌, sym, subst, ap, ℕ, List, Some}
use Rattle.std.specs.Prelude.{position, slice_set}
use Rattle.hub_model.specs.Entries.{is_of}
use Rattle.hub_model.specs.Feed.{Feed, next_due}
use Rattle.hub_model.proofs.Entries.{changed_here, entry_here, stays_here}
use Rattle.hub_feed.specs.Feeds.{AreBehind, AreNumbered, FeedList, feeds_of, over}
use Rattle.hub_feed.specs.Host.{next_of_number, hosted_after_next, due_if_any, due_of_number}
use Rattle.hub_feed.specs.Next.{IsRowDue, feed_after_next}
use Rattle.hub_feed.proofs.FeedsLemmas.{behind_changed, behind_here, both_ok, err_then}
use Rattle.hub_feed.proofs.FeedsLemmas.{looks_behind, numbered_changed, ok_or_err}
use Rattle.hub_feed.proofs.feeds.Feeds.next_at.Goals as goal

pub invariant_of-self : goal.invariant_of-self
invariant_of-self g c =
    let id = c.args.feed.number in
    let feeds = c.self.inside.list.items in
    let len = g.S.Source.length c.args.source.now in
    let rows = g.S.Source.current c.args.source.now in
    let placed = subst (λ (list : FeedList). Some c.args.at ≡ position (is_of id) list.feeds)
    (sym c.self.view_is)
    c.requires.placed in
    let p = c.index_mut-state.result.now in
    let is = c.index_mut-state.ensures.value in
    let change : Feed → Feed = λ f. feed_after_next f (next_due rows f) len in
    ok_or_err {P = AreNumbered c.self.inside.next
    (slice_set feeds c.args.at (p.0, c.next_item.new.self))} c.next_item.result
    (λ next new. subst (AreNumbered c.self.inside.next)
    (sym (changed_here id feeds c.args.at placed p is change c.next_item.new.self
    c.self.invariant.rising new))
    (numbered_changed id change c.self.inside.next feeds c.self.invariant))
    (λ w. subst (AreNumbered c.self.inside.next)
    (sym (stays_here id feeds c.args.at placed p is c.next_item.new.self w.0)) c.self.invariant)
    c.next_item.ensures.new c.next_item.ensures.err

pub returns-clause-ok : goal.returns-clause-ok
returns-clause-ok g c =
    let id = c.args.feed.number in
    let feeds = c.self.inside.list.items in
    let len = g.S.Source.length c.args.source.now in
    let rows = g.S.Source.current c.args.source.now in
    let seen = over len rows (g.S.Source.shown c.args.source.now) in
    let placed = subst (λ (list : FeedList). Some c.args.at ≡ position (is_of id) list.feeds)
    (sym c.self.view_is)
    c.requires.placed in
    let p = c.index_mut-state.result.now in
    let is = c.index_mut-state.ensures.value in
    both_ok c.next_item.result
    (λ next same new. (
      subst (λ (list : FeedList). next ≡ next_of_number (seen list) id) c.self.view_is
          (rw (entry_here id feeds c.args.at placed p is) same),
      subst (λ (list : FeedList). ◌≡◌ {A = FeedList}
          (record {
            feeds = slice_set feeds c.args.at (p.0, c.next_item.new.self);
            next = c.self.inside.next;
          })
          (feeds_of (hosted_after_next (seen list) id next)))
          c.self.view_is
          (ap (λ (fs : List (ℕ × Feed)). record { feeds = fs; next = c.self.inside.next })
          (behind_here id feeds c.args.at placed p is _ rows len c.next_item.new.self
          c.self.invariant.rising (next_due rows p.1) next same new)),
    ))
    c.next_item.ensures.ok c.next_item.ensures.new

pub returns-clause-err : goal.returns-clause-err
returns-clause-err g c =
    let id = c.args.feed.number in
    let feeds = c.self.inside.list.items in
    let len = g.S.Source.length c.args.source.now in
    let rows = g.S.Source.current c.args.source.now in
    let placed = subst (λ (list : FeedList). Some c.args.at ≡ position (is_of id) list.feeds)
    (sym c.self.view_is)
    c.requires.placed in
    let p = c.index_mut-state.result.now in
    let is = c.index_mut-state.ensures.value in
    err_then c.next_item.result
    (λ w. (
      subst (λ (list : FeedList). ◌≡◌ {A = FeedList}
          (record {
            feeds = slice_set feeds c.args.at (p.0, c.next_item.new.self);
            next = c.self.inside.next;
          }) list) c.self.view_is
          (ap (λ (fs : List (ℕ × Feed)). record { feeds = fs; next = c.self.inside.next })
          (stays_here id feeds c.args.at placed p is c.next_item.new.self w.0)),
      subst (λ (list : FeedList).
          IsRowDue (due_of_number (over len rows (g.S.Source.shown c.args.source.now) list) id))
          c.self.view_is
          (subst IsRowDue (sym (ap (due_if_any rows) (entry_here id feeds c.args.at placed p is))) w.1),
    )) c.next_item.ensures.err

pub returns-clause-behind : goal.returns-clause-behind
returns-clause-behind g c =
    let id = c.args.feed.number in
    let feeds = c.self.inside.list.items in
    let len = g.S.Source.length c.args.source.now in
    let rows = g.S.Source.current c.args.source.now in
    let placed = subst (λ (list : FeedList). Some c.args.at ≡ position (is_of id) list.feeds)
    (sym c.self.view_is)
    c.requires.placed in
    let p = c.index_mut-state.result.now in
    let is = c.index_mut-state.ensures.value in
    let change : Feed → Feed = λ f. feed_after_next f (next_due rows f) len in
    let behind : AreBehind len feeds =
    subst (λ (list : FeedList). AreBehind len list.feeds) (sym c.self.view_is) c.requires.behind in
    ok_or_err {P = AreBehind len (slice_set feeds c.args.at (p.0, c.next_item.new.self))}
    c.next_item.result
    (λ next new. subst (AreBehind len)
    (sym (changed_here id feeds c.args.at placed p is change c.next_item.new.self
    c.self.invariant.rising new))
    (behind_changed id change len feeds (λ f. looks_behind len (next_due rows f) f) behind))
    (λ w. subst (AreBehind len)
    (sym (stays_here id feeds c.args.at placed p is c.next_item.new.self w.0)) behind)
    c.next_item.ensures.new c.next_item.ensures.err
