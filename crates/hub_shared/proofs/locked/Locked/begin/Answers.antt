use Rattle.std.proofs.Common.{◌≡◌, ◌∙◌, sym, subst, ◌∷◌, [], ◌++◌, None}
use Rattle.hub_model.specs.Entries.{entry_in}
use Rattle.hub_feed.specs.Host.{hosted_after_opening}
use Rattle.hub_model.specs.Feed.{Params, new_feed}
use Rattle.hub_params.specs.FeedModel.{params_of}
use Rattle.hub_params.specs.FeedShown.{params_asked}
use Rattle.hub_shared.specs.Label.{label_of}
use Rattle.hub_shared.specs.Locked.{AreSendersOf}
use Rattle.hub_shared.specs.Opening.{Begins}
use Rattle.hub_shared.proofs.Booking.{book_kept}
use Rattle.hub_shared.proofs.Sending.{comes}
use Rattle.hub_shared.proofs.locked.Locked.begin.Goals as goal

pub invariant_of-self-in-Ok-open_feed : goal.invariant_of-self-in-Ok-open_feed
invariant_of-self-in-Ok-open_feed g c =
    let v = g.S.HostView in
    let h = g.S.FeedHost in
    let laws = g.met.S.FeedHost in
    let s = c.self.inside.state in
    let new = c.open_feed.new.self in
    let old = c.self.inside.subscribers.items in
    let own = c.in-Ok-open_feed.ensures in
    let next = (v.hosted s).next_feed in
    let label = label_of (params_asked c.args.params) (v.hosted s) in
    let outbox = g.K.TwoEnded.made c.in-Ok.taker label c.self.inside.lane in
    let senders = old ++ (next, outbox) ∷ [] in
    let made : c.in-Ok.outbox ≡ outbox =
    subst (λ l. c.in-Ok.outbox
    ≡ g.K.TwoEnded.made c.in-Ok.taker (label_of (params_asked c.args.params) (v.hosted l.state)) l.lane)
    (sym c.self.view_is) c.in-Ok.ensures.outbox in
    let items : c.push_reserved.new.self.items ≡ senders =
    c.push_reserved.ensures.items
    ∙ (λ k. c.try_reserve.ensures.items k ++ (own.number k, made k) ∷ []) in
    let begins =
    subst (λ l. (params : Params)
    → v.fits l.state (new_feed params (v.hosted l.state).length (v.hosted l.state).life) [])
    (sym c.self.view_is) c.open_outbox.ensures.begins in
    let fresh : entry_in next (v.hosted s).feeds ≡ None =
    subst (λ n. entry_in n (v.hosted s).feeds ≡ None) own.number own.new in (
      c.self.invariant.0,
      subst (λ xs. AreSendersOf g.K.Outbox.label g.K.Outbox.items (v.fits new) (v.hosted new) xs) (sym items)
          (subst (λ z. AreSendersOf g.K.Outbox.label g.K.Outbox.items (v.fits z) (v.hosted z) senders)
          (sym own.ok)
          (comes g.K.Outbox.label g.K.Outbox.items v.hosted h.with_hosted v.fits v.right laws.hosts
          laws.rightly
          laws.stays s c.args.params outbox old
          (g.met.K.TwoEnded.labelled c.in-Ok.taker label c.self.inside.lane)
          (g.met.K.TwoEnded.begins c.in-Ok.taker label c.self.inside.lane) begins fresh c.self.invariant.1)),
      book_kept v.hosted h.with_hosted laws.hosts g.C.Count.counts (g.C.Count.total c.self.inside.book)
          s new (hosted_after_opening (v.hosted s) (params_of c.args.params)) own.ok c.self.invariant.2,
    )

pub returns-in-Ok-open_feed-clause-ok : goal.returns-in-Ok-open_feed-clause-ok
returns-in-Ok-open_feed-clause-ok g c =
    let v = g.S.HostView in
    let h = g.S.FeedHost in
    let s = c.self.inside.state in
    let own = c.in-Ok-open_feed.ensures in
    let outbox =
    g.K.TwoEnded.made c.in-Ok.taker (label_of (params_asked c.args.params) (v.hosted s)) c.self.inside.lane in
    let senders = c.self.inside.subscribers.items ++ ((v.hosted s).next_feed, outbox) ∷ [] in
    let made : c.in-Ok.outbox ≡ outbox =
    subst (λ l. c.in-Ok.outbox
    ≡ g.K.TwoEnded.made c.in-Ok.taker (label_of (params_asked c.args.params) (v.hosted l.state)) l.lane)
    (sym c.self.view_is) c.in-Ok.ensures.outbox in
    let items : c.push_reserved.new.self.items ≡ senders =
    c.push_reserved.ensures.items
    ∙ (λ k. c.try_reserve.ensures.items k ++ (own.number k, made k) ∷ []) in
    let taker : g.K.TwoEnded.takes c.in-Ok.taker (label_of (params_asked c.args.params) (v.hosted s)) =
    subst (λ l. g.K.TwoEnded.takes c.in-Ok.taker (label_of (params_asked c.args.params) (v.hosted l.state)))
    (sym c.self.view_is) c.in-Ok.ensures.taker in
    subst (λ l. Begins v.hosted h.with_hosted g.K.TwoEnded.made g.K.TwoEnded.takes c.args.params l
    c.in-Ok-open_feed.id.number c.in-Ok.taker
    (record {
      state = c.open_feed.new.self;
      senders = c.push_reserved.new.self.items;
      lane = c.self.inside.lane;
    })) c.self.view_is
    (record {
      free = own.free;
      fresh = own.new;
      next = own.number;
      taker = taker;
      step = λ k. record { state = own.ok k; senders = items k; lane = c.self.inside.lane };
    })
