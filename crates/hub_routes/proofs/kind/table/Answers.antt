use Rattle.std.proofs.Common.{refl, sym, ◌∙◌}
use Rattle.std.proofs.lemmas.List.{at_drop_more}
use Rattle.std.specs.List.{fold}
use Rattle.hub_routes.specs.Table.{with_route, table}
use Rattle.hub_routes.proofs.kind.table.Goals as goal

pub loop-route-init : goal.loop-route-init
unfolding table
loop-route-init c = rw c.new-router.ensures refl

pub loop-route-preserved : goal.loop-route-preserved
loop-route-preserved c =
    rw c.in_ok-add.ensures
    (sym (at_drop_more (fold (λ rows r. with_route r.0.now r.1 rows) c.loop-route.router) _ _ _
    c.loop-route-test.true) ∙ c.loop-route.invariant)
