use Rattle.hub_http.proofs.UniqueLemmas.{spells_unique}
use Rattle.hub_http.proofs.requests.one_reading.Goals as goal

pub returns : goal.returns
returns c = spells_unique
