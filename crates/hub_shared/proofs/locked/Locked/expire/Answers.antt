use Rattle.std.proofs.Common.{sym, subst}
use Rattle.hub_feed.specs.Host.{hosted_after_expiry}
use Rattle.hub_shared.specs.Locked.{AreSendersOf}
use Rattle.hub_shared.proofs.Booking.{book_kept}
use Rattle.hub_shared.proofs.Sending.{expires}
use Rattle.hub_shared.proofs.locked.Locked.expire.Goals as goal

pub invariant_of-self : goal.invariant_of-self
invariant_of-self g c =
    let v = g.S.HostView in
    let h = g.S.FeedHost in
    let laws = g.met.S.FeedHost in
    let s = c.self.inside.state in
    let id = c.args.feed.number in
    let senders = c.self.inside.subscribers.items in (
      c.self.invariant.0,
      subst (λ s. AreSendersOf g.K.Outbox.label g.K.Outbox.items (v.fits s) (v.hosted s) senders)
          (sym c.expire.ensures)
          (expires g.K.Outbox.label g.K.Outbox.items v.hosted h.with_hosted v.fits v.right laws.hosts
          laws.rightly laws.stays
          s id senders c.self.invariant.1 laws.expired_fits),
      book_kept v.hosted h.with_hosted laws.hosts g.C.Count.counts (g.C.Count.total c.self.inside.book)
          s c.expire.new.self (hosted_after_expiry (v.hosted s) id) c.expire.ensures c.self.invariant.2,
    )
