-- The feed at this place hands, and the other feeds stay.
use Rattle.std.proofs.Common.{◌≡◌, sym, subst, ap, refl, rules, arith, ℕ, List, Some}
use Rattle.std.specs.Prelude.{position, slice_set, option_and_then, IfSome}
use Rattle.hub_model.specs.Entries.{entry_in, is_of}
use Rattle.hub_model.specs.Feed.{Feed, DueNothing, next_due, feed_after_due, after_nothing}
use Rattle.hub_model.proofs.Entries.{changed_here, entry_here, stays_here}
use Rattle.hub_feed.specs.Feeds.{AreBehind, FeedList, feeds_of, over}
use Rattle.hub_feed.specs.Hand.{HandsTo, MayTake}
use Rattle.hub_feed.specs.Host.{next_if_any, next_of_number, hosted_after_next, due_if_any, due_of_number, hosted_after_hand, item_of_number}
use Rattle.hub_feed.specs.Host.{item_of_feed}
use Rattle.hub_feed.specs.Next.{IsRowDue}
use Rattle.hub_feed.specs.Reach.{IsFirst}
use Rattle.hub_feed.specs.declared.next.Next.TheVariants.{Nothing}
use Rattle.hub_feed.proofs.FeedsLemmas.{behind_changed, both_ok, err_then, goes_behind, looks_behind}
use Rattle.hub_feed.proofs.FeedsLemmas.{ok_or_err}
use Rattle.hub_feed.proofs.HandLemmas.{hands_keeps, hands_lifted}
use Rattle.hub_feed.proofs.feeds.Feeds.hand_at.Goals as goal

pub hand-requires-clause-ready : goal.hand-requires-clause-ready
hand-requires-clause-ready g c =
    let id = c.args.feed.number in
    let feeds = c.self.inside.list.items in
    let rows = g.S.Source.current c.args.source.now in
    let placed = subst (λ (list : FeedList). Some c.args.at ≡ position (is_of id) list.feeds)
    (sym c.self.view_is)
    c.requires.ready.placed in
    let asked = subst (λ (list : FeedList). IsFirst c.args.first rows (entry_in id list.feeds))
    (sym c.self.view_is) c.requires.ready.first in
    record {
      reached = search rules;
      first =
          subst (IsFirst c.args.first rows)
          (entry_here id feeds c.args.at placed c.index_mut-state.result.now c.index_mut-state.ensures.value)
          asked;
    }

pub hand-requires-clause-may : goal.hand-requires-clause-may
hand-requires-clause-may g c =
    let id = c.args.feed.number in
    let feeds = c.self.inside.list.items in
    let len = g.S.Source.length c.args.source.now in
    let rows = g.S.Source.current c.args.source.now in
    let shown = g.S.Source.shown c.args.source.now in
    let may = MayTake g.K.Sink.allows g.K.Sink.sent c.args.sink.now in
    let placed = subst (λ (z : FeedList). Some c.args.at ≡ position (is_of id) z.feeds) (sym c.self.view_is)
    c.requires.ready.placed in
    let asked = subst (λ (z : FeedList). IfSome (item_of_number (over len rows shown z) id) may)
    (sym c.self.view_is) c.requires.may in
    let list : FeedList = record { feeds = feeds; next = c.self.inside.next } in
    subst (λ o. IfSome (option_and_then (item_of_feed (over len rows shown list)) o) may)
    (entry_here id feeds c.args.at placed c.index_mut-state.result.now c.index_mut-state.ensures.value) asked

pub returns-clause-ok : goal.returns-clause-ok
returns-clause-ok g c =
    let id = c.args.feed.number in
    let feeds = c.self.inside.list.items in
    let len = g.S.Source.length c.args.source.now in
    let rows = g.S.Source.current c.args.source.now in
    let shown = g.S.Source.shown c.args.source.now in
    let at = c.args.at in
    let p = c.index_mut-state.result.now in
    let is = c.index_mut-state.ensures.value in
    let new = c.hand.new.self in
    let placed = subst (λ (z : FeedList). Some at ≡ position (is_of id) z.feeds) (sym c.self.view_is)
    c.requires.ready.placed in
    let list : List (ℕ × Feed) → FeedList = λ fs. record { feeds = fs; next = c.self.inside.next } in
    let behind = g.K.Sink.behind in
    let refuses = g.H.Pushes.refuses c.args.handle.now in
    let sink = c.args.sink.now in
    let taker = c.hand.new.sink in
    let goes : Feed → Feed = λ f. feed_after_due f (next_due rows f) len in
    let looks : Feed → Feed = λ f. after_nothing f len in
    let given : FeedList → FeedList = λ z. feeds_of (hosted_after_hand (over len rows shown z) id) in
    let looked : FeedList → FeedList = λ z. feeds_of (hosted_after_next (over len rows shown z) id Nothing) in
    let here = list feeds in
    let after = list (slice_set feeds at (p.0, new)) in
    both_ok c.hand.result
    (λ did hands _.
    subst (λ (z : FeedList). HandsTo behind refuses z (given z) (looked z) sink
    (next_of_number (over len rows shown z) id) did after taker) c.self.view_is
    (subst (λ o. HandsTo behind refuses here (given here) (looked here) sink
    (next_if_any (over len rows shown here) o) did after taker) (sym (entry_here id feeds at placed p is))
    (hands_lifted behind refuses sink p.1 (goes p.1) (looks p.1) new
    here (given here) (looked here) after
    (λ e. ap list (stays_here id feeds at placed p is new e))
    (λ e. ap list (changed_here id feeds at placed p is goes new c.self.invariant.rising e))
    (λ e. ap list (changed_here id feeds at placed p is looks new c.self.invariant.rising e))
    (next_if_any (over len rows shown here) (Some p.1)) did taker hands)))
    c.hand.ensures.ok c.hand.ensures.ok

pub returns-clause-err : goal.returns-clause-err
returns-clause-err g c =
    let id = c.args.feed.number in
    let feeds = c.self.inside.list.items in
    let len = g.S.Source.length c.args.source.now in
    let rows = g.S.Source.current c.args.source.now in
    let shown = g.S.Source.shown c.args.source.now in
    let at = c.args.at in
    let p = c.index_mut-state.result.now in
    let is = c.index_mut-state.ensures.value in
    let new = c.hand.new.self in
    let placed = subst (λ (z : FeedList). Some at ≡ position (is_of id) z.feeds) (sym c.self.view_is)
    c.requires.ready.placed in
    let list : List (ℕ × Feed) → FeedList = λ fs. record { feeds = fs; next = c.self.inside.next } in
    err_then c.hand.result
    (λ w. (
      subst (λ (z : FeedList). ◌≡◌ {A = FeedList} (list (slice_set feeds at (p.0, new))) z) c.self.view_is
          (ap list (stays_here id feeds at placed p is new w.0)),
      w.1,
      subst (λ (z : FeedList). IsRowDue (due_of_number (over len rows shown z) id)) c.self.view_is
          (subst IsRowDue (sym (ap (due_if_any rows) (entry_here id feeds at placed p is))) w.2),
    )) c.hand.ensures.err

pub returns-clause-behind : goal.returns-clause-behind
returns-clause-behind g c =
    let id = c.args.feed.number in
    let feeds = c.self.inside.list.items in
    let len = g.S.Source.length c.args.source.now in
    let rows = g.S.Source.current c.args.source.now in
    let shown = g.S.Source.shown c.args.source.now in
    let at = c.args.at in
    let p = c.index_mut-state.result.now in
    let is = c.index_mut-state.ensures.value in
    let new = c.hand.new.self in
    let placed = subst (λ (z : FeedList). Some at ≡ position (is_of id) z.feeds) (sym c.self.view_is)
    c.requires.ready.placed in
    let behind : AreBehind len feeds =
    subst (λ (z : FeedList). AreBehind len z.feeds) (sym c.self.view_is) c.requires.ready.behind in
    let goes : Feed → Feed = λ feed. feed_after_due feed (next_due rows feed) len in
    let looks : Feed → Feed = λ feed. after_nothing feed len in
    let list : FeedList = record { feeds = feeds; next = c.self.inside.next } in
    ok_or_err {P = AreBehind len (slice_set feeds at (p.0, new))} c.hand.result
    (λ did hands. hands_keeps g.K.Sink.behind (g.H.Pushes.refuses c.args.handle.now) c.args.sink.now
    (λ (feed : Feed). AreBehind len (slice_set feeds at (p.0, feed))) p.1 (goes p.1) (looks p.1) new
    (subst (AreBehind len) (sym (stays_here id feeds at placed p is p.1 refl)) behind)
    (subst (AreBehind len)
    (sym (changed_here id feeds at placed p is goes (goes p.1) c.self.invariant.rising refl))
    (behind_changed id goes len feeds
    (goes_behind rows len len (omega arith) (g.met.S.Source.within c.args.source.now)) behind))
    (subst (AreBehind len)
    (sym (changed_here id feeds at placed p is looks (looks p.1) c.self.invariant.rising refl))
    (behind_changed id looks len feeds (λ feed. looks_behind len DueNothing feed) behind))
    (next_if_any (over len rows shown list) (Some p.1)) did c.hand.new.sink hands)
    (λ w. subst (AreBehind len) (sym (stays_here id feeds at placed p is new w.0)) behind)
    c.hand.ensures.ok c.hand.ensures.err
