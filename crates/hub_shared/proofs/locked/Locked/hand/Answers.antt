-- A hand of the host to an outbox that stands in the list is a hand of the host with its outboxes.
use Rattle.std.proofs.Common.{◌≡◌, ◌∙◌, sym, subst, refl, Some, None}
use Rattle.std.specs.Prelude.{position, slice_set}
use Rattle.hub_model.specs.Entries.{is_of}
use Rattle.hub_model.proofs.Entries.{entry_here, no_entry, stays_here}
use Rattle.hub_feed.specs.Hand.{MayTake}
use Rattle.hub_feed.specs.Host.{next_of_number, hosted_after_next, due_of_number, hosted_after_hand}
use Rattle.hub_feed.specs.Next.{IsRowDue}
use Rattle.hub_feed.specs.declared.handed.Handed.TheVariants.{Gone}
use Rattle.hub_feed.specs.declared.next.Next.TheVariants.{Nothing}
use Rattle.hub_feed.proofs.FeedsLemmas.{both_ok, err_then, ok_or_err}
use Rattle.hub_feed.proofs.HandLemmas.{hands_keeps}
use Rattle.hub_params.specs.FeedModel.{params_in}
use Rattle.hub_shared.specs.Locked.{LockedState, AreSendersOf, Hands, IsBookOf}
use Rattle.hub_shared.proofs.Booking.{book_kept}
use Rattle.hub_shared.proofs.Handing.{may_take, no_feed, serves_hand, hand_in}
use Rattle.hub_shared.proofs.Sending.{adds_item, takes_item}
use Rattle.hub_shared.proofs.locked.Locked.hand.Goals as goal

pub returns-in_default-clause-ok : goal.returns-in_default-clause-ok
returns-in_default-clause-ok g c =
    let v = g.S.HostView in
    let h = g.S.FeedHost in
    let laws = g.met.S.FeedHost in
    let s = c.self.inside.state in
    let id = c.args.feed.number in
    let senders = c.self.inside.subscribers.items in
    let whole : LockedState _ _ = record { state = s; senders = senders; lane = c.self.inside.lane } in
    let refuses = g.P.Pushes.refuses c.args.handle.now in
    let none : position (is_of id) senders ≡ None =
    rw c.as_slice.ensures.value at (sym c.place_near.ensures ∙ c.in_default.is) in
    let gone =
    no_feed g.K.Outbox.label g.K.Outbox.items v.hosted h.with_hosted v.fits v.right laws.hosts laws.rightly
    laws.stays laws.handed_fits s id
    senders c.self.invariant.1 (no_entry id senders none) in
    subst (λ (l : LockedState _ _).
    Hands v.hosted h.with_hosted g.K.Sink.behind refuses (next_of_number (v.hosted l.state) id) l id Gone l)
    c.self.view_is
    (subst (λ a. Hands v.hosted h.with_hosted g.K.Sink.behind refuses a whole id Gone whole) gone
    (refl, refl))

pub hand-requires : goal.hand-requires
hand-requires g c =
    let v = g.S.HostView in
    let h = g.S.FeedHost in
    let laws = g.met.S.FeedHost in
    let s = c.self.inside.state in
    let id = c.args.feed.number in
    let senders = c.self.inside.subscribers.items in
    let at = c.in-Some.at in
    let placed : Some at ≡ position (is_of id) senders = rw c.as_slice.ensures.value at c.in-Some.ensures in
    let p = c.index_mut-entry.result.now in
    record {
      may =
          may_take g.K.Outbox.label g.K.Outbox.items v.hosted h.with_hosted v.fits v.right laws.hosts
          laws.rightly
          laws.stays laws.handed_fits s id senders c.self.invariant.1
          (MayTake g.K.Sink.allows g.K.Sink.sent)
          (takes_item g.K.Sink.sent g.K.Outbox.items g.K.Sink.allows
          (λ k list. v.right (params_in (g.K.Outbox.label k).asked) (g.K.Outbox.label k).since list)
          g.met.K.Receives.same g.met.K.Receives.permits) p.1
          (entry_here id senders at placed p c.index_mut-entry.ensures.value);
    }

pub invariant_of-self : goal.invariant_of-self
invariant_of-self g c =
    let v = g.S.HostView in
    let h = g.S.FeedHost in
    let laws = g.met.S.FeedHost in
    let s = c.self.inside.state in
    let id = c.args.feed.number in
    let senders = c.self.inside.subscribers.items in
    let at = c.in-Some.at in
    let placed : Some at ≡ position (is_of id) senders = rw c.as_slice.ensures.value at c.in-Some.ensures in
    let p = c.index_mut-entry.result.now in
    let is = c.index_mut-entry.ensures.value in
    let new = c.hand.new.self in
    let sender = c.hand.new.sink in
    let refuses = g.P.Pushes.refuses c.args.handle.now in
    let given = h.with_hosted s (hosted_after_hand (v.hosted s) id) in
    let looked = h.with_hosted s (hosted_after_next (v.hosted s) id Nothing) in
    let book = c.self.invariant.2 in
    let counts = g.C.Count.counts in
    let total = g.C.Count.total c.self.inside.book in (
      c.self.invariant.0,
      ok_or_err {P = AreSendersOf g.K.Outbox.label g.K.Outbox.items (v.fits new) (v.hosted new)
          (slice_set senders at (p.0, sender))}
          c.hand.result
          (λ answer hands. serves_hand g.K.Outbox.label g.K.Outbox.items v.hosted h.with_hosted v.fits v.right
          laws.hosts laws.rightly
          laws.stays laws.handed_fits s id senders c.self.invariant.1 laws.waiting_fits g.K.Sink.behind
          g.met.K.Receives.stays
          (adds_item g.K.Sink.sent g.K.Outbox.items g.K.Sink.behind g.met.K.Receives.same
          g.met.P.Pushes.sends)
          refuses at p placed
          is new sender (next_of_number (v.hosted s) id) refl answer hands)
          (λ err. subst (λ z. AreSendersOf g.K.Outbox.label g.K.Outbox.items (v.fits z) (v.hosted z)
          (slice_set senders at (p.0, sender)))
          (sym err.0) (subst (AreSendersOf g.K.Outbox.label g.K.Outbox.items (v.fits s) (v.hosted s))
          (sym (stays_here id senders at placed p is sender err.1)) c.self.invariant.1))
          c.hand.ensures.ok c.hand.ensures.err,
      ok_or_err {P = IsBookOf counts total (v.hosted new).length} c.hand.result
          (λ answer hands. hands_keeps g.K.Sink.behind refuses p.1
          (λ z. IsBookOf counts total (v.hosted z).length) s given looked new book
          (book_kept v.hosted h.with_hosted laws.hosts counts total s given (hosted_after_hand (v.hosted s) id) refl
          book)
          (book_kept v.hosted h.with_hosted laws.hosts counts total s looked
          (hosted_after_next (v.hosted s) id Nothing) refl book)
          (next_of_number (v.hosted s) id) answer sender hands)
          (λ err. subst (λ z. IsBookOf counts total (v.hosted z).length) (sym err.0) book)
          c.hand.ensures.ok c.hand.ensures.err,
    )

pub returns-clause-ok : goal.returns-clause-ok
returns-clause-ok g c =
    let v = g.S.HostView in
    let h = g.S.FeedHost in
    let laws = g.met.S.FeedHost in
    let s = c.self.inside.state in
    let id = c.args.feed.number in
    let senders = c.self.inside.subscribers.items in
    let at = c.in-Some.at in
    let placed : Some at ≡ position (is_of id) senders = rw c.as_slice.ensures.value at c.in-Some.ensures in
    let p = c.index_mut-entry.result.now in
    let new = c.hand.new.self in
    let sender = c.hand.new.sink in
    let lane = c.self.inside.lane in
    let refuses = g.P.Pushes.refuses c.args.handle.now in
    both_ok c.hand.result
    (λ answer hands _. subst (λ (l : LockedState _ _).
    Hands v.hosted h.with_hosted g.K.Sink.behind refuses (next_of_number (v.hosted l.state) id) l id answer
    (record { state = new; senders = slice_set senders at (p.0, sender); lane = lane })) c.self.view_is
    (hand_in g.K.Outbox.label g.K.Outbox.items v.hosted h.with_hosted v.fits v.right laws.hosts laws.rightly
    laws.stays laws.handed_fits s id
    senders c.self.invariant.1 laws.waiting_fits g.K.Sink.behind g.met.K.Receives.stays
    (adds_item g.K.Sink.sent g.K.Outbox.items g.K.Sink.behind g.met.K.Receives.same g.met.P.Pushes.sends)
    refuses at p placed c.index_mut-entry.ensures.value new
    sender lane (next_of_number (v.hosted s) id) answer hands))
    c.hand.ensures.ok c.hand.ensures.ok

pub returns-clause-err : goal.returns-clause-err
returns-clause-err g c =
    let v = g.S.HostView in
    let id = c.args.feed.number in
    let senders = c.self.inside.subscribers.items in
    let at = c.in-Some.at in
    let placed : Some at ≡ position (is_of id) senders = rw c.as_slice.ensures.value at c.in-Some.ensures in
    let p = c.index_mut-entry.result.now in
    let is = c.index_mut-entry.ensures.value in
    let lane = c.self.inside.lane in
    let sender = c.hand.new.sink in
    err_then c.hand.result
    (λ err. subst (λ (l : LockedState _ _). ◌≡◌ {A = LockedState _ _}
    (record { state = c.hand.new.self; senders = slice_set senders at (p.0, sender); lane = lane }) l
    × IsRowDue (due_of_number (v.hosted l.state) id)) c.self.view_is (
      (λ k. record {
        state = err.0 k;
        senders = stays_here id senders at placed p is sender err.1 k;
        lane = lane;
      }),
      err.2,
    ))
    c.hand.ensures.err
