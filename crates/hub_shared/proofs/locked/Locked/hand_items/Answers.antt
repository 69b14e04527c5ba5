-- Hands of the host to an outbox that stands in the list leave each feed with its outbox.
use Rattle.std.proofs.Common.{◌≡◌, ◌∙◌, sym, subst, refl, Some, None}
use Rattle.std.specs.Prelude.{position, slice_set}
use Rattle.hub_model.specs.Entries.{is_of}
use Rattle.hub_feed.specs.Hand.{MayTake}
use Rattle.hub_feed.specs.declared.handed.Handed.TheVariants.{Gone, Row}
use Rattle.hub_feed.proofs.FeedsLemmas.{both_ok, err_then, ok_or_err}
use Rattle.hub_model.proofs.Entries.{no_entry}
use Rattle.hub_params.specs.FeedModel.{params_in}
use Rattle.hub_shared.specs.Locked.{AreSendersOf, Hands, HandsEach, IsBookOf, LockedState, no_hand, one_hand}
use Rattle.hub_shared.proofs.Handing.{no_feed}
use Rattle.hub_shared.proofs.Holding.{book_by_hands, hands_in, may_take_next, serves_items}
use Rattle.hub_shared.proofs.Sending.{adds_item, takes_item}
use Rattle.hub_shared.proofs.locked.Locked.hand_items.Goals as goal

pub hand_items-requires : goal.hand_items-requires
hand_items-requires g c =
    let v = g.S.HostView in
    let h = g.S.FeedHost in
    let laws = g.met.S.FeedHost in
    let s = c.self.inside.state in
    let id = c.args.feed.number in
    let senders = c.self.inside.subscribers.items in
    let at = c.in-Some.at in
    let placed : Some at ≡ position (is_of id) senders = rw c.as_slice.ensures.value at c.in-Some.ensures in
    let p = c.index_mut-entry.result.now in
    record {
      may = λ count state k hands.
          may_take_next g.K.Outbox.label g.K.Outbox.items v.hosted h.with_hosted v.fits v.right laws.hosts
          laws.rightly laws.stays laws.handed_fits laws.waiting_fits g.K.Sink.behind g.met.K.Receives.stays
          (adds_item g.K.Sink.sent g.K.Outbox.items g.K.Sink.behind g.met.K.Receives.same g.met.P.Pushes.sends)
          (g.P.Pushes.refuses c.args.handle.now) s id senders c.self.invariant.1 at p placed
          c.index_mut-entry.ensures.value (MayTake g.K.Sink.allows g.K.Sink.sent)
          (takes_item g.K.Sink.sent g.K.Outbox.items g.K.Sink.allows
          (λ k list. v.right (params_in (g.K.Outbox.label k).asked) (g.K.Outbox.label k).since list)
          g.met.K.Receives.same g.met.K.Receives.permits) hands;
    }

pub invariant_of-self : goal.invariant_of-self
invariant_of-self g c =
    let v = g.S.HostView in
    let h = g.S.FeedHost in
    let laws = g.met.S.FeedHost in
    let s = c.self.inside.state in
    let id = c.args.feed.number in
    let senders = c.self.inside.subscribers.items in
    let at = c.in-Some.at in
    let placed : Some at ≡ position (is_of id) senders = rw c.as_slice.ensures.value at c.in-Some.ensures in
    let p = c.index_mut-entry.result.now in
    let is = c.index_mut-entry.ensures.value in
    let new = c.hand_items.new.self in
    let sender = c.hand_items.new.sink in
    let refuses = g.P.Pushes.refuses c.args.handle.now in
    let adds =
    adds_item g.K.Sink.sent g.K.Outbox.items g.K.Sink.behind g.met.K.Receives.same g.met.P.Pushes.sends in
    let counts = g.C.Count.counts in
    let total = g.C.Count.total c.self.inside.book in (
      c.self.invariant.0,
      ok_or_err {P = AreSendersOf g.K.Outbox.label g.K.Outbox.items (v.fits new) (v.hosted new)
          (slice_set senders at (p.0, sender))}
          c.hand_items.result
          (λ did hands. serves_items g.K.Outbox.label g.K.Outbox.items v.hosted h.with_hosted v.fits v.right laws.hosts
          laws.rightly laws.stays laws.handed_fits laws.waiting_fits g.K.Sink.behind g.met.K.Receives.stays adds refuses
          s id senders c.self.invariant.1 at p placed is hands)
          (λ err. serves_items g.K.Outbox.label g.K.Outbox.items v.hosted h.with_hosted v.fits v.right laws.hosts
          laws.rightly laws.stays laws.handed_fits laws.waiting_fits g.K.Sink.behind g.met.K.Receives.stays adds refuses
          s id senders c.self.invariant.1 at p placed is err.1)
          c.hand_items.ensures.ok c.hand_items.ensures.err,
      ok_or_err {P = IsBookOf counts total (v.hosted new).length} c.hand_items.result
          (λ did hands. book_by_hands v.hosted h.with_hosted laws.hosts g.K.Sink.behind refuses id counts total
          c.self.invariant.2 hands)
          (λ err. book_by_hands v.hosted h.with_hosted laws.hosts g.K.Sink.behind refuses id counts total
          c.self.invariant.2 err.1)
          c.hand_items.ensures.ok c.hand_items.ensures.err,
    )

pub returns-in_default-clause-ok : goal.returns-in_default-clause-ok
returns-in_default-clause-ok g c =
    let v = g.S.HostView in
    let h = g.S.FeedHost in
    let laws = g.met.S.FeedHost in
    let s = c.self.inside.state in
    let id = c.args.feed.number in
    let senders = c.self.inside.subscribers.items in
    let whole : LockedState _ _ = record { state = s; senders = senders; lane = c.self.inside.lane } in
    let refuses = g.P.Pushes.refuses c.args.handle.now in
    let none : position (is_of id) senders ≡ None =
    rw c.as_slice.ensures.value at (sym c.place_near.ensures ∙ c.in_default.is) in
    let gone =
    no_feed g.K.Outbox.label g.K.Outbox.items v.hosted h.with_hosted v.fits v.right laws.hosts laws.rightly
    laws.stays laws.handed_fits s id senders c.self.invariant.1 (no_entry id senders none) in
    subst (λ (l : LockedState _ _).
    HandsEach v.hosted h.with_hosted g.K.Sink.behind refuses id l 0 Gone l) c.self.view_is
    (one_hand no_hand
    (subst (λ a. Hands v.hosted h.with_hosted g.K.Sink.behind refuses a whole id Gone whole) gone (refl, refl)))

pub returns-clause-ok : goal.returns-clause-ok
returns-clause-ok g c =
    let v = g.S.HostView in
    let h = g.S.FeedHost in
    let laws = g.met.S.FeedHost in
    let s = c.self.inside.state in
    let id = c.args.feed.number in
    let senders = c.self.inside.subscribers.items in
    let at = c.in-Some.at in
    let placed : Some at ≡ position (is_of id) senders = rw c.as_slice.ensures.value at c.in-Some.ensures in
    let p = c.index_mut-entry.result.now in
    let lane = c.self.inside.lane in
    let refuses = g.P.Pushes.refuses c.args.handle.now in
    both_ok c.hand_items.result
    (λ did hands _. subst (λ (l : LockedState _ _).
    HandsEach v.hosted h.with_hosted g.K.Sink.behind refuses id l did.1 did.0
    (record {
      state = c.hand_items.new.self;
      senders = slice_set senders at (p.0, c.hand_items.new.sink);
      lane = lane;
    })) c.self.view_is
    (hands_in g.K.Outbox.label g.K.Outbox.items v.hosted h.with_hosted v.fits v.right laws.hosts laws.rightly
    laws.stays laws.handed_fits laws.waiting_fits g.K.Sink.behind g.met.K.Receives.stays
    (adds_item g.K.Sink.sent g.K.Outbox.items g.K.Sink.behind g.met.K.Receives.same g.met.P.Pushes.sends)
    refuses s id senders c.self.invariant.1 at p placed c.index_mut-entry.ensures.value lane hands))
    c.hand_items.ensures.ok c.hand_items.ensures.ok

pub returns-clause-err : goal.returns-clause-err
returns-clause-err g c =
    let v = g.S.HostView in
    let h = g.S.FeedHost in
    let laws = g.met.S.FeedHost in
    let s = c.self.inside.state in
    let id = c.args.feed.number in
    let senders = c.self.inside.subscribers.items in
    let at = c.in-Some.at in
    let placed : Some at ≡ position (is_of id) senders = rw c.as_slice.ensures.value at c.in-Some.ensures in
    let p = c.index_mut-entry.result.now in
    let lane = c.self.inside.lane in
    let refuses = g.P.Pushes.refuses c.args.handle.now in
    err_then c.hand_items.result
    (λ err. (
      err.0,
      subst (λ (l : LockedState _ _).
          HandsEach v.hosted h.with_hosted g.K.Sink.behind refuses id l err.0 Row
          (record {
            state = c.hand_items.new.self;
            senders = slice_set senders at (p.0, c.hand_items.new.sink);
            lane = lane;
          })) c.self.view_is
          (hands_in g.K.Outbox.label g.K.Outbox.items v.hosted h.with_hosted v.fits v.right laws.hosts laws.rightly
          laws.stays laws.handed_fits laws.waiting_fits g.K.Sink.behind g.met.K.Receives.stays
          (adds_item g.K.Sink.sent g.K.Outbox.items g.K.Sink.behind g.met.K.Receives.same g.met.P.Pushes.sends)
          refuses s id senders c.self.invariant.1 at p placed c.index_mut-entry.ensures.value lane err.1),
      err.2,
    )) c.hand_items.ensures.err
