use Rattle.std.proofs.Common.{rules}
use Rattle.hub_shared.specs.Handles.{IsFoundBy}
use Rattle.hub_shared.proofs.Booking.{of_share}
use Rattle.hub_shared.proofs.handle.Handle.audit.Goals as goal

pub returns : goal.returns
returns g c = record {
  db = c.deref_mut.result.now.state;
  found =
      of_share (λ state. IsFoundBy g.C.Count.counts g.C.Count.all_parts state c.deref_mut.result.now.state)
      c.self.invariant.1 c.self.view_is c.audit_share.ensures.found;
  held = search rules;
  same = search rules;
}
