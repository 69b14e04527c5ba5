use Rattle.form_urlencoded.specs.Form.{raw_pairs}
use Rattle.hub_params.proofs.ParsedLemmas.{value_parsed}
use Rattle.hub_params.proofs.query.values_are_parsed.Goals as goal

pub returns : goal.returns
returns c = λ name query. value_parsed name (raw_pairs query)
