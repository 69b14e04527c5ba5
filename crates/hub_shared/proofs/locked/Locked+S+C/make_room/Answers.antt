use Rattle.std.proofs.Common.{◌≡◌, ◌∙◌, refl, sym, subst, Some, None}
use Rattle.std.specs.Prelude.{position, slice_set}
use Rattle.std.proofs.lemmas.Result.{on_ok_weaker}
use Rattle.hub_feed.proofs.FeedsLemmas.{err_then}
use Rattle.hub_model.specs.Entries.{with_change, is_of}
use Rattle.hub_model.proofs.Entries.{changed_absent, changed_here, no_entry, stays_here}
use Rattle.hub_shared.specs.Blocks.{SubscriberState, with_room}
use Rattle.hub_shared.specs.Locked.{AreSendersOf, LockedState}
use Rattle.hub_shared.proofs.Blocks.{by_result}
use Rattle.hub_shared.proofs.Serving.{senders_still}
use Rattle.hub_shared.proofs.locked.Locked+S+C.make_room.Goals as goal

pub invariant_of-self : goal.invariant_of-self
invariant_of-self g c =
    let v = g.S.HostView in
    let s = c.self.inside.state in
    let id = c.args.feed.number in
    let senders = c.self.inside.subscribers.items in
    let at = c.in-Some.at in
    let p = c.index_mut-entry.result.now in
    let is = c.index_mut-entry.ensures.value in
    let placed : Some at ≡ position (is_of id) senders = rw c.as_slice.ensures.value at c.in-Some.ensures in
    let new = c.make_room.new.self in
    let serves = AreSendersOf (λ k. k.label) (λ k. k.sent) (v.fits s) (v.hosted s) in
    let still =
    λ (change : SubscriberState g.row.S-Row.Denot → SubscriberState g.row.S-Row.Denot).
    senders_still (λ k. k.label) (λ k. k.sent) (v.fits s) (v.hosted s) id senders change in (
      c.self.invariant.0,
      by_result c.make_room.result c.make_room.ensures.ok c.make_room.ensures.err
          (λ made. subst serves
          (sym (changed_here id senders at placed p is (with_room c.args.room) new
          c.self.invariant.1.rising made))
          (still (with_room c.args.room) (λ k. (refl, refl)) c.self.invariant.1))
          (λ same. subst serves (sym (stays_here id senders at placed p is new same)) c.self.invariant.1),
      c.self.invariant.2,
    )

pub returns-in_default-clause-ok : goal.returns-in_default-clause-ok
returns-in_default-clause-ok g c =
    let lane = c.self.inside.lane in
    let id = c.args.feed.number in
    let senders = c.self.inside.subscribers.items in
    let none : position (is_of id) senders ≡ None =
    rw c.as_slice.ensures.value at (sym c.place_near.ensures ∙ c.in_default.is) in
    subst (λ (l : LockedState _ _). ◌≡◌ {A = LockedState _ _} l
    (record l { senders = with_change id (with_room c.args.room) l.senders })) c.self.view_is
    (λ k. record {
      state = c.self.inside.state;
      senders = sym (changed_absent id (with_room c.args.room) senders (no_entry id senders none)) k;
      lane = lane;
    })

pub returns-clause-ok : goal.returns-clause-ok
returns-clause-ok g c =
    let s = c.self.inside.state in
    let lane = c.self.inside.lane in
    let id = c.args.feed.number in
    let senders = c.self.inside.subscribers.items in
    let at = c.in-Some.at in
    let p = c.index_mut-entry.result.now in
    let placed : Some at ≡ position (is_of id) senders = rw c.as_slice.ensures.value at c.in-Some.ensures in
    let new = c.make_room.new.self in
    on_ok_weaker c.make_room.result
    (λ made. subst (λ (l : LockedState _ _). ◌≡◌ {A = LockedState _ _}
    (record { state = s; senders = slice_set senders at (p.0, new); lane = lane })
    (record l { senders = with_change id (with_room c.args.room) l.senders })) c.self.view_is
    (λ k. record {
      state = s;
      senders = changed_here id senders at placed p c.index_mut-entry.ensures.value (with_room c.args.room) new
          c.self.invariant.1.rising made k;
      lane = lane;
    })) c.make_room.ensures.ok

pub returns-clause-err : goal.returns-clause-err
returns-clause-err g c =
    let s = c.self.inside.state in
    let lane = c.self.inside.lane in
    let id = c.args.feed.number in
    let senders = c.self.inside.subscribers.items in
    let at = c.in-Some.at in
    let p = c.index_mut-entry.result.now in
    let placed : Some at ≡ position (is_of id) senders = rw c.as_slice.ensures.value at c.in-Some.ensures in
    let new = c.make_room.new.self in
    err_then c.make_room.result
    (λ same. subst (λ (l : LockedState _ _). ◌≡◌ {A = LockedState _ _}
    (record { state = s; senders = slice_set senders at (p.0, new); lane = lane }) l) c.self.view_is
    (λ k. record {
      state = s;
      senders = stays_here id senders at placed p c.index_mut-entry.ensures.value new same k;
      lane = lane;
    })) c.make_room.ensures.err
