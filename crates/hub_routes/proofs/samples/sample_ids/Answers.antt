use Rattle.std.proofs.Common.{refl}
use Rattle.matchit.proofs.OnLiterals.{matchit_on_literals}
use Rattle.percent_encoding.specs.AsciiSet.{should_percent_encode}
use Rattle.percent_encoding.specs.Percent.{percent_encode, percent_decode}
use Rattle.hub_routes.specs.Table.{table, with_route}
use Rattle.hub_routes.specs.Paths.{ascii_path}
use Rattle.hub_routes.proofs.samples.sample_ids.Goals as goal

pub returns : goal.returns
unfolding matchit_on_literals table with_route ascii_path percent_encode should_percent_encode percent_decode
returns c = record {
  plain = refl;
  plain_kind = refl;
  design = refl;
  design_kind = refl;
  escaped_design = refl;
  escaped_design_kind = refl;
  no_design = refl;
  no_design_kind = refl;
  local = refl;
  local_kind = refl;
  escaped_local = refl;
  escaped_local_kind = refl;
  no_local = refl;
  no_local_kind = refl;
  no_document = refl;
}
