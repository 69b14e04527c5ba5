use Rattle.std.proofs.Common.{rules}
use Rattle.hub_shared.specs.Handles.{IsFoundBy}
use Rattle.hub_shared.proofs.Booking.{of_share}
use Rattle.hub_shared.proofs.handle.Handle.look.Goals as goal

pub returns-clause-asked : goal.returns-clause-asked
returns-clause-asked g c = (
  c.deref_mut.result.now.state,
  of_share (λ state. IsFoundBy g.C.Count.counts g.C.Count.all_parts state c.deref_mut.result.now.state)
      c.self.invariant.1 c.self.view_is c.audit_share.ensures.found,
  (_, c.ask.ensures, search rules),
)
