use Rattle.std.proofs.Common.{sym, subst}
use Rattle.hub_service.specs.Moments.{IsKept}
use Rattle.hub_service.proofs.Looks.{kept_or_not}
use Rattle.hub_service.proofs.context.Context.local_put.Goals as goal

pub returns : goal.returns
returns g c =
    subst (IsKept c.args.doc) (sym c.with_refusal.ensures)
    (kept_or_not c.args.doc c.local_put.result c.local_put.ensures.ok c.local_put.ensures.err)
