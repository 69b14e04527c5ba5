use Rattle.std.proofs.Common.{sym, subst}
use Rattle.hub_feed.specs.Host.{hosted_after_finish}
use Rattle.hub_model.specs.Entries.{without}
use Rattle.hub_shared.specs.Locked.{AreSendersOf}
use Rattle.hub_shared.proofs.Booking.{book_kept}
use Rattle.hub_shared.proofs.Sending.{finishes}
use Rattle.hub_shared.proofs.locked.Locked.finish.Goals as goal

pub invariant_of-self : goal.invariant_of-self
invariant_of-self g c =
    let v = g.S.HostView in
    let h = g.S.FeedHost in
    let laws = g.met.S.FeedHost in
    let s = c.self.inside.state in
    let new = c.finish.new.self in
    let senders = c.self.inside.subscribers.items in
    let id = c.args.feed.number in (
      c.self.invariant.0,
      subst (λ xs. AreSendersOf g.K.Outbox.label g.K.Outbox.items (v.fits new) (v.hosted new) xs)
          (sym c.remove.ensures.others)
          (subst (λ s. AreSendersOf g.K.Outbox.label g.K.Outbox.items (v.fits s) (v.hosted s)
          (without id senders)) (sym c.finish.ensures)
          (finishes g.K.Outbox.label g.K.Outbox.items v.hosted h.with_hosted v.fits v.right laws.hosts
          laws.rightly laws.stays
          s id senders c.self.invariant.1)),
      book_kept v.hosted h.with_hosted laws.hosts g.C.Count.counts (g.C.Count.total c.self.inside.book)
          s new (hosted_after_finish (v.hosted s) id) c.finish.ensures c.self.invariant.2,
    )
