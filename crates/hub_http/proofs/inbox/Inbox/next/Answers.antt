use Rattle.std.proofs.Common.{length, refl, ◌≤◌, arith}
use Rattle.hub_http.specs.Boxes.{arrived_bytes}
use Rattle.hub_http.proofs.RequestLemmas.{goes_on_too_long}
use Rattle.hub_http.proofs.inbox.Inbox.next.Goals as goal

pub returns-then-len-ge-HEAD_LIMIT-clause-told : goal.returns-then-len-ge-HEAD_LIMIT-clause-told
returns-then-len-ge-HEAD_LIMIT-clause-told c =
    let bytes = arrived_bytes c.args.self.now in
    let long : 16384 ≤ length bytes = omega (arith, c.len.ensures, c.if-len-ge-HEAD_LIMIT.true) in (
      refl,
      goes_on_too_long bytes long (rw (c.in_default.is, c.as_slice.ensures) at c.in_ok-head.ensures),
    )
