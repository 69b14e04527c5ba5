use Rattle.std.proofs.Common.{◌≡◌, Err, codes, inr, option_map, true, rules}
use Rattle.std.specs.Option.{option_copied}
use Rattle.hub_params.specs.DocParams.{is_value}
use Rattle.hub_params.specs.Encoded.{decoded_text}
use Rattle.hub_params.proofs.RoomLemmas.{given_or_body}
use Rattle.hub_params.proofs.feed_params.read_filter.Goals as goal

pub returns-in_err-listed-in-Some-clause-memory : goal.returns-in_err-listed-in-Some-clause-memory
returns-in_err-listed-in-Some-clause-memory c =
    let ids = option_copied c.args.doc_ids in
    let same : c.from_residual-in_err-listed-in-Some.result ≡ Err c.in_err-listed-in-Some.field-0.0 =
    search rules in
    let listed : is_value (codes "_doc_ids") (option_map decoded_text (option_copied c.args.filter)) ≡ true =
    search rules in
    let text : option_map (λ s. s.now) c.lent-in-Some.result ≡ option_map decoded_text ids =
    cc (c.lent-in-Some.ensures, c.in_ok-ids-in-Some.ensures.text) in
    rw same (λ none. inr (
      listed,
      given_or_body ids c.args.body.now _ text (c.in_err-listed-in-Some.ensures.memory none),
    ))
