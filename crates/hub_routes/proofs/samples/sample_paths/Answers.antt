use Rattle.std.proofs.Common.{refl}
use Rattle.matchit.proofs.OnLiterals.{matchit_on_literals}
use Rattle.hub_routes.specs.Table.{table, with_route}
use Rattle.hub_routes.proofs.samples.sample_paths.Goals as goal

pub returns : goal.returns
unfolding matchit_on_literals table with_route
returns c = record {
  welcome = refl;
  all_dbs = refl;
  all_dbs_slash = refl;
  all_dbs_escaped = refl;
  db_updates = refl;
  database = refl;
  slash = refl;
  bulk_docs = refl;
  changes = refl;
  revs_diff = refl;
  full_commit = refl;
  document = refl;
  longer = refl;
  design = refl;
  local = refl;
  deep = refl;
  empty = refl;
  no_design = refl;
  no_local = refl;
}
