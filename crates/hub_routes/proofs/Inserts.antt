-- The rows after an insert.
use Rattle.std.proofs.Common.{◌≡◌, Result, Ok, Err}
use Rattle.matchit.specs.declared.error.InsertError.{InsertError}
use Rattle.matchit.specs.Route.{Scan}
use Rattle.matchit.specs.Router.{InsertsRead}
use Rattle.hub_routes.specs.declared.kind.Kind.{Kind}
use Rattle.hub_routes.specs.Table.{Routes, with_scan}

pub inserts_scan : (x : Result Scan InsertError) (kind : Kind) (old new : Routes) (u : Unit {0})
    → InsertsRead x kind old new (Ok u) → new ≡ with_scan x kind old
inserts_scan (Ok s) kind old new u h = h.1
inserts_scan (Err e) kind old new u h = h.0
