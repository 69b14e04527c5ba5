use Rattle.std.proofs.Common.{sym, ◌∙◌}
use Rattle.hub_http.proofs.LengthLemmas.{keeps_one, differs}
use Rattle.hub_http.proofs.length.and_value.Goals as goal

pub returns-then-eq : goal.returns-then-eq
returns-then-eq c all rest h =
    keeps_one c.in-Some.first.now c.args.value.now all rest
    (sym c.eq.ensures ∙ c.if-eq.true) (rw c.in-Some.is at h)

pub returns-else-eq : goal.returns-else-eq
returns-else-eq c all rest h =
    differs c.in-Some.first.now c.args.value.now all rest
    (sym c.eq.ensures ∙ c.if-eq.false) (rw c.in-Some.is at h)
