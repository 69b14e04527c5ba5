use Rattle.std.proofs.Common.{◌≡◌, ◌∙◌, ap, sym, subst, Some, None}
use Rattle.std.specs.Prelude.{position, option_and_then, slice_set}
use Rattle.hub_model.specs.Entries.{entry_in, with_change, is_of}
use Rattle.hub_model.proofs.Entries.{changed_absent, changed_here, entry_here, no_entry}
use Rattle.hub_shared.specs.Locked.{AreSendersOf, LockedState}
use Rattle.hub_shared.proofs.Sending.{still}
use Rattle.hub_shared.proofs.locked.Locked.take.Goals as goal

pub invariant_of-self : goal.invariant_of-self
invariant_of-self g c =
    let v = g.S.HostView in
    let h = g.S.FeedHost in
    let laws = g.met.S.FeedHost in
    let s = c.self.inside.state in
    let id = c.args.feed.number in
    let senders = c.self.inside.subscribers.items in
    let at = c.in_ok-at.at in
    let p = c.index_mut-entry.result.now in
    let placed : Some at ≡ position (is_of id) senders = rw c.as_slice.ensures.value at c.in_ok-at.ensures in
    let rest =
    changed_here id senders at placed p c.index_mut-entry.ensures.value g.K.Shelf.without_front
    c.take.new.self c.self.invariant.1.rising c.take.ensures.rest in (
      c.self.invariant.0,
      subst (λ xs. AreSendersOf g.K.Outbox.label g.K.Outbox.items (v.fits s) (v.hosted s) xs) (sym rest)
          (still g.K.Outbox.label g.K.Outbox.items v.hosted h.with_hosted v.fits v.right laws.hosts
          laws.rightly laws.stays s id senders g.K.Shelf.without_front g.met.K.Shelf.keeps
          c.self.invariant.1),
      c.self.invariant.2,
    )

pub returns-in_err-at-clause-item : goal.returns-in_err-at-clause-item
returns-in_err-at-clause-item g c =
    let id = c.args.feed.number in
    let senders = c.self.inside.subscribers.items in
    let none : position (is_of id) senders ≡ None =
    rw c.as_slice.ensures.value at (sym c.place_of.ensures ∙ c.in_err-at.was) in
    c.from_residual.ensures
    ∙ (ap (option_and_then g.K.Shelf.front) (sym (no_entry id senders none))
    ∙ ap (λ (l : LockedState _ _). option_and_then g.K.Shelf.front (entry_in id l.senders)) c.self.view_is)

pub returns-in_err-at-clause-rest : goal.returns-in_err-at-clause-rest
returns-in_err-at-clause-rest g c =
    let id = c.args.feed.number in
    let senders = c.self.inside.subscribers.items in
    let none : position (is_of id) senders ≡ None =
    rw c.as_slice.ensures.value at (sym c.place_of.ensures ∙ c.in_err-at.was) in
    subst (λ (l : LockedState _ _). ◌≡◌ {A = LockedState _ _} l
    (record l { senders = with_change id g.K.Shelf.without_front l.senders })) c.self.view_is
    (λ k. record {
      state = c.self.inside.state;
      senders = sym (changed_absent id g.K.Shelf.without_front senders (no_entry id senders none)) k;
      lane = c.self.inside.lane;
    })

pub returns-clause-item : goal.returns-clause-item
returns-clause-item g c =
    let id = c.args.feed.number in
    let senders = c.self.inside.subscribers.items in
    let at = c.in_ok-at.at in
    let p = c.index_mut-entry.result.now in
    let placed : Some at ≡ position (is_of id) senders = rw c.as_slice.ensures.value at c.in_ok-at.ensures in
    c.take.ensures.item
    ∙ (ap (option_and_then g.K.Shelf.front)
    (sym (entry_here id senders at placed p c.index_mut-entry.ensures.value))
    ∙ ap (λ (l : LockedState _ _). option_and_then g.K.Shelf.front (entry_in id l.senders)) c.self.view_is)

pub returns-clause-rest : goal.returns-clause-rest
returns-clause-rest g c =
    let s = c.self.inside.state in
    let lane = c.self.inside.lane in
    let id = c.args.feed.number in
    let senders = c.self.inside.subscribers.items in
    let at = c.in_ok-at.at in
    let p = c.index_mut-entry.result.now in
    let placed : Some at ≡ position (is_of id) senders = rw c.as_slice.ensures.value at c.in_ok-at.ensures in
    let rest =
    changed_here id senders at placed p c.index_mut-entry.ensures.value g.K.Shelf.without_front
    c.take.new.self c.self.invariant.1.rising c.take.ensures.rest in
    subst (λ (l : LockedState _ _). ◌≡◌ {A = LockedState _ _}
    (record { state = s; senders = slice_set senders at (p.0, c.take.new.self); lane = lane })
    (record l { senders = with_change id g.K.Shelf.without_front l.senders })) c.self.view_is
    (λ k. record { state = s; senders = rest k; lane = lane })
