use Rattle.std.proofs.Common.{◌≡◌, ◌∙◌, ap, refl, sym, subst, Some, None, length}
use Rattle.std.specs.Prelude.{IfSome, IsSome, position, slice_set}
use Rattle.hub_model.specs.Entries.{with_change, entry_in, is_of}
use Rattle.hub_model.proofs.Entries.{changed_absent, changed_here, entry_here, no_entry}
use Rattle.hub_shared.specs.Blocks.{IsHeldUp, SubscriberState, handed_over, waiting_of, with_room}
use Rattle.hub_shared.specs.Locked.{AreSendersOf, LockedState}
use Rattle.hub_shared.proofs.Blocks.{by_option, none_then, some_then}
use Rattle.hub_shared.proofs.Serving.{senders_still}
use Rattle.hub_shared.proofs.locked.Locked+S+C.hand_over.Goals as goal

pub invariant_of-self : goal.invariant_of-self
invariant_of-self g c =
    let v = g.S.HostView in
    let s = c.self.inside.state in
    let id = c.args.feed.number in
    let senders = c.self.inside.subscribers.items in
    let at = c.in-Some.at in
    let p = c.index_mut-entry.result.now in
    let placed : Some at ≡ position (is_of id) senders = rw c.as_slice.ensures.value at c.in-Some.ensures in
    let serves = AreSendersOf (λ k. k.label) (λ k. k.sent) (v.fits s) (v.hosted s) in
    let changes =
    λ (change : SubscriberState g.row.S-Row.Denot → SubscriberState g.row.S-Row.Denot).
    changed_here id senders at placed p c.index_mut-entry.ensures.value change c.hand_over.new.self
    c.self.invariant.1.rising in
    let still =
    λ (change : SubscriberState g.row.S-Row.Denot → SubscriberState g.row.S-Row.Denot).
    senders_still (λ k. k.label) (λ k. k.sent) (v.fits s) (v.hosted s) id senders change in (
      c.self.invariant.0,
      by_option c.hand_over.result (some_then c.hand_over.result (λ _ is. is.1) c.hand_over.ensures.over)
          (none_then c.hand_over.result (λ is. is.0) c.hand_over.ensures.held_up)
          (λ is. subst serves (sym (changes handed_over is))
          (still handed_over (λ k. (refl, refl)) c.self.invariant.1))
          (λ is. subst serves (sym (changes (with_room 0) is))
          (still (with_room 0) (λ k. (refl, refl)) c.self.invariant.1)),
      c.self.invariant.2,
    )

pub returns-in_default-clause-count : goal.returns-in_default-clause-count
returns-in_default-clause-count g c =
    let id = c.args.feed.number in
    let senders = c.self.inside.subscribers.items in
    let none : position (is_of id) senders ≡ None =
    rw c.as_slice.ensures.value at (sym c.place_near.ensures ∙ c.in_default.is) in
    ap (λ s. length (waiting_of s)) (sym (no_entry id senders none))
    ∙ ap (λ (l : LockedState _ _). length (waiting_of (entry_in id l.senders))) c.self.view_is

pub returns-in_default-clause-over : goal.returns-in_default-clause-over
returns-in_default-clause-over g c =
    let id = c.args.feed.number in
    let senders = c.self.inside.subscribers.items in
    let none : position (is_of id) senders ≡ None =
    rw c.as_slice.ensures.value at (sym c.place_near.ensures ∙ c.in_default.is) in
    subst (λ (l : LockedState _ _). ◌≡◌ {A = LockedState _ _} l
    (record l { senders = with_change id handed_over l.senders })) c.self.view_is
    (λ k. record {
      state = c.self.inside.state;
      senders = sym (changed_absent id handed_over senders (no_entry id senders none)) k;
      lane = c.self.inside.lane;
    })

pub returns-clause-count : goal.returns-clause-count
returns-clause-count g c =
    let id = c.args.feed.number in
    let senders = c.self.inside.subscribers.items in
    let at = c.in-Some.at in
    let p = c.index_mut-entry.result.now in
    let placed : Some at ≡ position (is_of id) senders = rw c.as_slice.ensures.value at c.in-Some.ensures in
    some_then c.hand_over.result
    (λ count is. is.0 ∙ (ap (λ s. length (waiting_of s))
    (sym (entry_here id senders at placed p c.index_mut-entry.ensures.value))
    ∙ ap (λ (l : LockedState _ _). length (waiting_of (entry_in id l.senders))) c.self.view_is))
    c.hand_over.ensures.over

pub returns-clause-over : goal.returns-clause-over
returns-clause-over g c =
    let s = c.self.inside.state in
    let lane = c.self.inside.lane in
    let id = c.args.feed.number in
    let senders = c.self.inside.subscribers.items in
    let at = c.in-Some.at in
    let p = c.index_mut-entry.result.now in
    let placed : Some at ≡ position (is_of id) senders = rw c.as_slice.ensures.value at c.in-Some.ensures in
    let new = c.hand_over.new.self in
    some_then c.hand_over.result
    (λ count is. subst (λ (l : LockedState _ _). ◌≡◌ {A = LockedState _ _}
    (record { state = s; senders = slice_set senders at (p.0, new); lane = lane })
    (record l { senders = with_change id handed_over l.senders })) c.self.view_is
    (λ k. record {
      state = s;
      senders = changed_here id senders at placed p c.index_mut-entry.ensures.value handed_over new
          c.self.invariant.1.rising is.1 k;
      lane = lane;
    })) c.hand_over.ensures.over

pub returns-clause-held_up : goal.returns-clause-held_up
returns-clause-held_up g c =
    let s = c.self.inside.state in
    let lane = c.self.inside.lane in
    let id = c.args.feed.number in
    let senders = c.self.inside.subscribers.items in
    let at = c.in-Some.at in
    let p = c.index_mut-entry.result.now in
    let placed : Some at ≡ position (is_of id) senders = rw c.as_slice.ensures.value at c.in-Some.ensures in
    let new = c.hand_over.new.self in
    none_then c.hand_over.result
    (λ is. subst (λ (l : LockedState _ _). ◌≡◌ {A = LockedState _ _}
    (record { state = s; senders = slice_set senders at (p.0, new); lane = lane })
    (record l { senders = with_change id (with_room 0) l.senders })) c.self.view_is
    (λ k. record {
      state = s;
      senders = changed_here id senders at placed p c.index_mut-entry.ensures.value (with_room 0) new
          c.self.invariant.1.rising is.0 k;
      lane = lane;
    })) c.hand_over.ensures.held_up

pub returns-clause-full : goal.returns-clause-full
returns-clause-full g c =
    let id = c.args.feed.number in
    let senders = c.self.inside.subscribers.items in
    let at = c.in-Some.at in
    let p = c.index_mut-entry.result.now in
    let placed : Some at ≡ position (is_of id) senders = rw c.as_slice.ensures.value at c.in-Some.ensures in
    let here = entry_here id senders at placed p c.index_mut-entry.ensures.value in
    let refuses = g.R.Asks.refuses c.args.rt.now in
    none_then c.hand_over.result
    (λ is. subst (λ (l : LockedState _ _). IfSome (entry_in id l.senders) (IsHeldUp refuses)) c.self.view_is
    (subst (λ s. IfSome s (IsHeldUp refuses)) (sym here) is.1)) c.hand_over.ensures.held_up

pub returns-clause-feed : goal.returns-clause-feed
returns-clause-feed g c =
    let id = c.args.feed.number in
    let senders = c.self.inside.subscribers.items in
    let at = c.in-Some.at in
    let p = c.index_mut-entry.result.now in
    let placed : Some at ≡ position (is_of id) senders = rw c.as_slice.ensures.value at c.in-Some.ensures in
    let here = entry_here id senders at placed p c.index_mut-entry.ensures.value in
    none_then c.hand_over.result
    (λ is. subst (λ (l : LockedState _ _). IsSome (entry_in id l.senders)) c.self.view_is
    (subst (λ s. IsSome s) (sym here) refl)) c.hand_over.ensures.held_up
