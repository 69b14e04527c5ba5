use Rattle.std.proofs.Common.{◌≡◌, sym, subst, Some}
use Rattle.std.specs.Prelude.{position}
use Rattle.hub_model.specs.Entries.{is_of}
use Rattle.hub_model.proofs.Entries.{stays_here}
use Rattle.hub_shared.specs.Locked.{AreSendersOf}
use Rattle.hub_shared.proofs.feed.HostFeed.watch.Goals as goal

-- a new watch of a feed does not change the items that were sent for the feed
pub invariant_of-locked : goal.invariant_of-locked
invariant_of-locked g c =
    let v = g.S.HostView in
    let s = c.locked-2.inside.state in
    let id = c.self.inside.id.number in
    let senders = c.locked-2.inside.subscribers.items in
    let at = c.in-Some.at in
    let placed : Some at ≡ position (is_of id) senders = rw c.as_slice.ensures.value at c.in-Some.ensures in
    let same =
    stays_here id senders at placed c.index_mut-entry.result.now c.index_mut-entry.ensures.value
    c.watch.new.self c.watch.ensures in (
      c.locked-2.invariant.0,
      subst (AreSendersOf (λ k. k.label) (λ k. k.sent) (v.fits s) (v.hosted s)) (sym same)
          c.locked-2.invariant.1,
      c.locked-2.invariant.2,
    )
