use Rattle.std.proofs.Common.{◌≡◌, drop}
use Rattle.std.specs.List.{fold}
use Rattle.hub_routes.specs.Table.{with_route, table}
use Rattle.hub_routes.proofs.kind.table.Given as goal

abbrev pub invariant-loop-route : goal.invariant-loop-route
invariant-loop-route l =
    fold (λ rows r. with_route r.0.now r.1 rows) l.router (drop l.route-index l.route-items) ≡ table
