use Rattle.std.proofs.Common.{◌≡◌, Err, rules}
use Rattle.hub_http.specs.Stream.{asked_by}
use Rattle.hub_http.specs.declared.refusal.Refusal.TheVariants.{NoMemory}
use Rattle.hub_routes.specs.Routes.{IsServed}
use Rattle.hub_routes.proofs.RouteLemmas.{path_has_no_room, name_refuses, id_refuses}
use Rattle.hub_routes.proofs.routes.Routes.route.Goals as goal

pub returns-in_err-kind : goal.returns-in_err-kind
returns-in_err-kind c =
    let none : c.from_residual.result ≡ Err NoMemory = search rules in
    path_has_no_room (asked_by c.args.request.now) _ none
    (rw c.target_of.ensures.path at c.in_err-kind.ensures.memory)

pub returns-in_err-db : goal.returns-in_err-db
returns-in_err-db c =
    let asked : IsServed (asked_by c.args.request.now) c.in-Some.kind = search rules in
    let same : c.from_residual-in_err-db.result ≡ Err c.in_err-db.field-0.0 = search rules in
    rw same (name_refuses (asked_by c.args.request.now) c.in-Some.kind c.in_err-db.field-0.0 asked
    (rw (c.parts.ensures.name, c.target_of.ensures.path) at c.in_err-db.ensures.none))

pub returns-in_err-id : goal.returns-in_err-id
returns-in_err-id c =
    let asked : IsServed (asked_by c.args.request.now) c.in-Some.field-0.kind = search rules in
    let same : c.from_residual-in_err-id.result ≡ Err c.in_err-id.field-0.0 = search rules in
    rw same (id_refuses (asked_by c.args.request.now) c.in-Some.field-0.kind c.in_err-id.field-0.0 asked
    (rw (c.parts.ensures.name, c.target_of.ensures.path) at c.in_ok-db.ensures.text)
    (rw (c.parts.ensures.id, c.target_of.ensures.path) at c.in_err-id.ensures.none))
