-- The table of routes (CouchDB API reference, the paths of the server, databases and documents).
use Rattle.std.specs.Prelude.{ℕ, List, [], ◌∷◌, Option, Some, None, Result, Ok, Err, codes}
use Rattle.std.specs.List.{fold}
use Rattle.matchit.specs.declared.error.InsertError.{InsertError}
use Rattle.matchit.specs.Rows.{RowsOf}
use Rattle.matchit.specs.Order.{placed}
use Rattle.matchit.specs.Route.{Scan, parse_route}
use Rattle.matchit.specs.Router.{RouteOf, route_from}
use Rattle.matchit.specs.Seek.{first}
use Rattle.hub_routes.specs.declared.kind.Kind.{Kind}
use Rattle.hub_routes.specs.declared.kind.Kind.TheVariants.{Welcome, AllDbs, DbUpdates, Database, BulkDocs}
use Rattle.hub_routes.specs.declared.kind.Kind.TheVariants.{Changes, RevsDiff, FullCommit, Document, Local}

-- routes, each with its kind
abbrev pub Routes : Type 0
Routes = RowsOf (RouteOf Kind)

-- the rows, with one more where its route reads well
abbrev pub with_scan : Result Scan InsertError → Kind → Routes → Routes
with_scan (Ok s) kind rows = placed (s.pattern, route_from s kind) rows
with_scan (Err e) kind rows = rows

-- the rows, with the route of this text
unfoldable pub with_route : List ℕ → Kind → Routes → Routes
with_route text kind rows = with_scan (parse_route text) kind rows

-- the routes that the hub serves, each with its kind, in the order in which they are added
abbrev pub served_routes : List (List ℕ × Kind)
served_routes =
    (codes "/", Welcome)
    ∷ (codes "/_all_dbs", AllDbs)
    ∷ (codes "/_db_updates", DbUpdates)
    ∷ (codes "/{db}", Database)
    ∷ (codes "/{db}/", Database)
    ∷ (codes "/{db}/_bulk_docs", BulkDocs)
    ∷ (codes "/{db}/_changes", Changes)
    ∷ (codes "/{db}/_revs_diff", RevsDiff)
    ∷ (codes "/{db}/_ensure_full_commit", FullCommit)
    ∷ (codes "/{db}/{id}", Document)
    ∷ (codes "/{db}/_design/{name}", Document)
    ∷ (codes "/{db}/_local/{name}", Local)
    ∷ []

-- the table: each route is added in its turn
unfoldable pub table : Routes
table = fold (λ rows route. with_route route.0 route.1 rows) [] served_routes

-- the kind of a route
abbrev pub kind_of : Option (RouteOf Kind) → Option Kind
kind_of None = None
kind_of (Some r) = Some r.value

-- the kind of a path by the table
abbrev pub kind_at : List ℕ → Option Kind
kind_at path = kind_of (first table path)
