use Rattle.matchit.specs.Route.{parse_route}
use Rattle.hub_routes.specs.Table.{with_route}
use Rattle.hub_routes.proofs.Inserts.{inserts_scan}
use Rattle.hub_routes.proofs.kind.add.Goals.{in-Ok, in-Err}
use Rattle.hub_routes.proofs.kind.add.Goals as goal

pub returns : goal.returns
unfolding with_route
returns c =
    elim c.match-insert.branch [
      | in-Ok w ↦
          rw w.result-is
          (inserts_scan (parse_route c.args.route.now) c.args.kind c.args.router.now
          c.insert.new.self _ w.in-Ok.ensures)
      | in-Err w ↦ rw w.result-is tt
    ]
