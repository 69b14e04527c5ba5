use Rattle.std.proofs.Common.{◌≡◌, Some, inl, inr, rules}
use Rattle.hub_routes.specs.Table.{kind_at}
use Rattle.hub_routes.specs.Paths.{ascii_path, NeedsRoomForKind}
use Rattle.hub_routes.specs.declared.kind.Kind.TheVariants.{Document}
use Rattle.hub_routes.proofs.RouteLemmas.{at_any_error}
use Rattle.hub_routes.proofs.routes.Routes.named.Goals as goal

pub returns-in_err-kind_by_table-clause-memory : goal.returns-in_err-kind_by_table-clause-memory
returns-in_err-kind_by_table-clause-memory c =
    at_any_error _ (NeedsRoomForKind c.args.path.now) (inl c.in_err-kind_by_table.ensures.memory)

pub returns-in_err-id-in-Some-Document-clause-memory : goal.returns-in_err-id-in-Some-Document-clause-memory
returns-in_err-id-in-Some-Document-clause-memory c =
    let document : kind_at (ascii_path c.args.path.now) ≡ Some Document = search rules in
    at_any_error _ (NeedsRoomForKind c.args.path.now)
    (inr (document, rw c.requires at c.in_err-id-in-Some-Document.ensures.memory))
