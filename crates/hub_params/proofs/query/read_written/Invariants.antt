use Rattle.form_urlencoded.specs.Parse.{raw_pairs_left}
use Rattle.hub_params.proofs.QueryLemmas.{HasRead, IsPlainFrom}
use Rattle.hub_params.proofs.query.read_written.Given as goal

abbrev pub invariant-loop-name : goal.invariant-loop-name
invariant-loop-name l = record {
  plain : IsPlainFrom l.query (raw_pairs_left l.name-iterator);
  read : HasRead l.kept l.names l.query (raw_pairs_left l.name-iterator);
}
