use Rattle.hub_routes.specs.Paths.{HasOtherBytes}
use Rattle.hub_routes.proofs.RouteLemmas.{at_any_error}
use Rattle.hub_routes.proofs.routes.Routes.kind_by_table.Goals as goal

pub returns-in_err-text-clause-memory : goal.returns-in_err-text-clause-memory
returns-in_err-text-clause-memory c =
    at_any_error _ (HasOtherBytes c.args.path.now)
    (λ all. c.in_err-text.ensures.borrows (c.percent_encode.ensures.clean all))
