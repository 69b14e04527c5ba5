use Rattle.std.proofs.Common.{◌<◌, length, rules}
use Rattle.hub_params.proofs.RoomLemmas.{at_any_error, json_has_bytes}
use Rattle.hub_params.proofs.listed_ids.ids_of_query.Goals as goal

pub returns-clause-memory : goal.returns-clause-memory
returns-clause-memory c =
    let long : 0 < length c.as_bytes.result.now =
    json_has_bytes c.as_bytes.result.now _ c.in_ok-list.ensures.ok in
    at_any_error c.listed_texts.result _ (λ e none. search (rules, long))
