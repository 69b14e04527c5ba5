use Rattle.std.proofs.Common.{ap, reverse, List, ℕ}
use Rattle.httparse.specs.Grammar.{skip_ows, trim_ows}
use Rattle.hub_http.proofs.connection.trimmed.Goals as goal

pub loop-rest-init : goal.loop-rest-init
unfolding trim_ows
loop-rest-init c = ap (λ (text : List ℕ). reverse (skip_ows (reverse text))) c.trimmed_start-rest.ensures
