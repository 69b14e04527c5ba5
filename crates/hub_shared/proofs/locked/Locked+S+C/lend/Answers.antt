-- The subscriber keeps its view, and so the list of subscribers stays as it was.
use Rattle.std.proofs.Common.{◌≡◌, sym, subst, Some}
use Rattle.std.specs.Prelude.{position, slice_set}
use Rattle.hub_model.specs.Entries.{is_of}
use Rattle.hub_model.proofs.Entries.{stays_here}
use Rattle.hub_shared.specs.Locked.{AreSendersOf, LockedState}
use Rattle.hub_shared.proofs.locked.Locked+S+C.lend.Goals as goal

pub invariant_of-self : goal.invariant_of-self
invariant_of-self g c =
    let v = g.S.HostView in
    let s = c.self.inside.state in
    let id = c.args.feed.number in
    let senders = c.self.inside.subscribers.items in
    let placed : Some c.in-Some.at ≡ position (is_of id) senders =
    rw c.as_slice.ensures.value at c.in-Some.ensures in (
      c.self.invariant.0,
      subst (AreSendersOf (λ k. k.label) (λ k. k.sent) (v.fits s) (v.hosted s))
          (sym (stays_here id senders c.in-Some.at placed c.index_mut-entry.result.now
          c.index_mut-entry.ensures.value c.lend.new.self c.lend.ensures)) c.self.invariant.1,
      c.self.invariant.2,
    )

pub returns : goal.returns
returns g c =
    let id = c.args.feed.number in
    let senders = c.self.inside.subscribers.items in
    let p = c.index_mut-entry.result.now in
    let placed : Some c.in-Some.at ≡ position (is_of id) senders =
    rw c.as_slice.ensures.value at c.in-Some.ensures in
    subst (λ (l : LockedState _ _). ◌≡◌ {A = LockedState _ _}
    (record {
      state = c.self.inside.state;
      senders = slice_set senders c.in-Some.at (p.0, c.lend.new.self);
      lane = c.self.inside.lane;
    })
    l) c.self.view_is
    (λ k. record {
      state = c.self.inside.state;
      senders = stays_here id senders c.in-Some.at placed p c.index_mut-entry.ensures.value c.lend.new.self
          c.lend.ensures k;
      lane = c.self.inside.lane;
    })
