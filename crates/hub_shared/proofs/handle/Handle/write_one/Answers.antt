use Rattle.std.proofs.Common.{◌≡◌, subst, sym, rules}
use Rattle.std.specs.Prelude.{Ok, Err}
use Rattle.hub_shared.specs.Handles.{IsEditedBy}
use Rattle.hub_shared.proofs.Booking.{of_share}
use Rattle.hub_shared.proofs.handle.Handle.write_one.Goals as goal

pub returns-clause-edited : goal.returns-clause-edited
returns-clause-edited g c =
    of_share
    (λ state. IsEditedBy g.C.Count.counts g.C.Count.all_parts state c.args.doc (Ok c.in_ok-rev.rev))
    c.self.invariant.1 c.self.view_is c.in_ok-rev.ensures.edited

pub returns-in_err-rev-clause-edited : goal.returns-in_err-rev-clause-edited
returns-in_err-rev-clause-edited g c =
    let e = c.in_err-rev.field-0.0 in
    let same : c.from_residual.result ≡ Err e = search rules in
    subst (λ r. IsEditedBy g.C.Count.counts g.C.Count.all_parts c.args.self.now c.args.doc r) (sym same)
    (of_share (λ state. IsEditedBy g.C.Count.counts g.C.Count.all_parts state c.args.doc (Err e))
    c.self.invariant.1 c.self.view_is c.in_err-rev.ensures.refused)
