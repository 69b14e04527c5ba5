use Rattle.std.proofs.Common.{ap, ◌∙◌}
use Rattle.std.proofs.lemmas.Result.{err_from_is_err_and}
use Rattle.hub_http.proofs.LengthLemmas.{no_value, one_length, in_some}
use Rattle.hub_http.proofs.length.length_of.Goals as goal

pub returns-in-None : goal.returns-in-None
returns-in-None c = no_value _ (rw c.in-None.is at c.in_ok-one_value.ensures)

pub returns-in_ok-length_in-in-Some : goal.returns-in_ok-length_in-in-Some
returns-in_ok-length_in-in-Some c =
    ap in_some c.in_ok-length_in-in-Some.ensures
    ∙ one_length c.in-Some.value.now _ (rw c.in-Some.is at c.in_ok-one_value.ensures)

pub returns-in_err-length_in-in-Some : goal.returns-in_err-length_in-in-Some
returns-in_err-length_in-in-Some c =
    let p = err_from_is_err_and c.from_residual-in_err-length_in-in-Some.result
    c.from_residual-in_err-length_in-in-Some.ensures.1 in
    rw (p.1, p.2)
    (ap in_some c.in_err-length_in-in-Some.ensures
    ∙ one_length c.in-Some.value.now _ (rw c.in-Some.is at c.in_ok-one_value.ensures))
