-- A heartbeat for an outbox that stands in the list, pushed or given back.
use Rattle.std.proofs.Common.{◌≡◌, ◌∙◌, sym, subst, refl, Some, None, true}
use Rattle.std.specs.Prelude.{position, slice_set}
use Rattle.std.proofs.lemmas.Option.{same_Some}
use Rattle.hub_feed.specs.Hand.{MayTake}
use Rattle.hub_feed.specs.Host.{is_beat_allowed_if_any}
use Rattle.hub_feed.specs.declared.handed.Handed.TheVariants.{Nothing}
use Rattle.hub_model.specs.declared.feeds.Item.TheVariants.{Beat}
use Rattle.hub_model.specs.Entries.{entry_in, is_of}
use Rattle.hub_model.proofs.Entries.{changed_here, entry_here, no_entry, stays_here}
use Rattle.hub_params.specs.FeedModel.{params_in}
use Rattle.hub_shared.specs.Locked.{AreSendersOf, Beats, LockedState}
use Rattle.hub_shared.proofs.Handing.{no_beat}
use Rattle.hub_shared.proofs.Outcomes.{either_way}
use Rattle.hub_shared.proofs.Sending.{adds_item, takes_item, may_beat, beats}
use Rattle.hub_shared.proofs.locked.Locked.beat.Goals as goal
use Rattle.hub_shared.proofs.locked.Locked.beat.Goals.{in-Ok, in-Err}

pub returns-in_default : goal.returns-in_default
returns-in_default g c =
    let v = g.S.HostView in
    let h = g.S.FeedHost in
    let laws = g.met.S.FeedHost in
    let s = c.self.inside.state in
    let id = c.args.feed.number in
    let senders = c.self.inside.subscribers.items in
    let whole : LockedState _ _ = record { state = s; senders = senders; lane = c.self.inside.lane } in
    let refuses = g.P.Pushes.refuses c.args.handle.now in
    let none : position (is_of id) senders ≡ None =
    rw c.as_slice.ensures.value at (sym c.place_near.ensures ∙ c.in_default.is) in
    let no =
    no_beat g.K.Outbox.label g.K.Outbox.items v.hosted h.with_hosted v.fits v.right laws.hosts laws.rightly
    laws.stays laws.handed_fits s id senders c.self.invariant.1 (no_entry id senders none) in
    subst (λ (l : LockedState _ _).
    Beats g.K.Sink.behind refuses (is_beat_allowed_if_any (entry_in id (v.hosted l.state).feeds)) l id Nothing l)
    c.self.view_is
    (subst (λ due. Beats g.K.Sink.behind refuses due whole id Nothing whole) (sym no) (refl, refl))

pub push-requires : goal.push-requires
push-requires g c =
    let v = g.S.HostView in
    let h = g.S.FeedHost in
    let laws = g.met.S.FeedHost in
    let id = c.args.feed.number in
    let senders = c.self.inside.subscribers.items in
    let at = c.in-Some.at in
    let placed : Some at ≡ position (is_of id) senders = rw c.as_slice.ensures.value at c.in-Some.ensures in
    let p = c.index_mut-entry.result.now in
    let due = sym c.beat_due.ensures ∙ c.if-not-beat_due.false in
    let may =
    may_beat g.K.Outbox.label g.K.Outbox.items v.hosted h.with_hosted v.fits v.right laws.hosts laws.rightly
    laws.stays laws.beat_fits c.self.inside.state id senders c.self.invariant.1 due in
    let mine : may.0 ≡ p.1 =
    same_Some may.0 p.1 (sym may.1 ∙ entry_here id senders at placed p c.index_mut-entry.ensures.value) in
    record {
      may =
          subst (λ k. MayTake g.K.Sink.allows g.K.Sink.sent k Beat) mine
          (takes_item g.K.Sink.sent g.K.Outbox.items g.K.Sink.allows
          (λ k list. v.right (params_in (g.K.Outbox.label k).asked) (g.K.Outbox.label k).since list)
          g.met.K.Receives.same g.met.K.Receives.permits may.0 Beat may.2);
    }

pub invariant_of-self : goal.invariant_of-self
invariant_of-self g c =
    let v = g.S.HostView in
    let h = g.S.FeedHost in
    let laws = g.met.S.FeedHost in
    let s = c.self.inside.state in
    let id = c.args.feed.number in
    let senders = c.self.inside.subscribers.items in
    let at = c.in-Some.at in
    let placed : Some at ≡ position (is_of id) senders = rw c.as_slice.ensures.value at c.in-Some.ensures in
    let p = c.index_mut-entry.result.now in
    let is = c.index_mut-entry.ensures.value in
    let sender = c.push.new.sink in
    let due = sym c.beat_due.ensures ∙ c.if-not-beat_due.false in (
      c.self.invariant.0,
      either_way c.push.result c.push.ensures.taken c.push.ensures.same
          (λ taken. subst (λ xs. AreSendersOf g.K.Outbox.label g.K.Outbox.items (v.fits s) (v.hosted s) xs)
          (sym (changed_here id senders at placed p is (λ k. g.K.Sink.behind k Beat) sender
          c.self.invariant.1.rising taken))
          (beats g.K.Outbox.label g.K.Outbox.items v.hosted h.with_hosted v.fits v.right laws.hosts
          laws.rightly
          laws.stays laws.beat_fits s id senders c.self.invariant.1 due g.K.Sink.behind
          g.met.K.Receives.stays (adds_item g.K.Sink.sent g.K.Outbox.items g.K.Sink.behind
          g.met.K.Receives.same g.met.P.Pushes.sends)))
          (λ e same. subst (λ xs. AreSendersOf g.K.Outbox.label g.K.Outbox.items (v.fits s) (v.hosted s) xs)
          (sym (stays_here id senders at placed p is sender same.1)) c.self.invariant.1),
      c.self.invariant.2,
    )

pub returns : goal.returns
returns g c =
    let v = g.S.HostView in
    let s = c.self.inside.state in
    let id = c.args.feed.number in
    let senders = c.self.inside.subscribers.items in
    let lane = c.self.inside.lane in
    let at = c.in-Some.at in
    let placed : Some at ≡ position (is_of id) senders = rw c.as_slice.ensures.value at c.in-Some.ensures in
    let p = c.index_mut-entry.result.now in
    let is = c.index_mut-entry.ensures.value in
    let sender = c.push.new.sink in
    let refuses = g.P.Pushes.refuses c.args.handle.now in
    let whole : LockedState _ _ = record { state = s; senders = senders; lane = lane } in
    let new : LockedState _ _ =
    record { state = s; senders = slice_set senders at (p.0, sender); lane = lane } in
    let due = sym c.beat_due.ensures ∙ c.if-not-beat_due.false in
    let told : Beats g.K.Sink.behind refuses true whole id c.match-push.result new =
    elim c.match-push.branch [
      | in-Ok w ↦
          rw w.result-is (λ k. record {
            state = s;
            senders =
                changed_here id senders at placed p is (λ k. g.K.Sink.behind k Beat) sender
                c.self.invariant.1.rising w.in-Ok.ensures.taken k;
            lane = lane;
          })
      | in-Err w ↦
          rw w.result-is (
            (p.1, entry_here id senders at placed p is, w.in-Err.ensures.full),
            λ k. record {
              state = s;
              senders = stays_here id senders at placed p is sender w.in-Err.ensures.same.1 k;
              lane = lane;
            },
          )
    ] in
    subst (λ (l : LockedState _ _).
    Beats g.K.Sink.behind refuses (is_beat_allowed_if_any (entry_in id (v.hosted l.state).feeds)) l id
    c.match-push.result new) c.self.view_is
    (subst (λ b. Beats g.K.Sink.behind refuses b whole id c.match-push.result new) (sym due) told)
