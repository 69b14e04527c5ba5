use Rattle.std.proofs.Common.{◌≡◌, Err, rules, refl, sym, subst}
use Rattle.hub_http.specs.Refusals.{of_doc_fault}
use Rattle.hub_service.specs.Calls.{asked_by, says_diffs}
use Rattle.hub_service.specs.Moments.{IsRead}
use Rattle.hub_service.proofs.Looks.{read_as, read_refused}
use Rattle.hub_service.proofs.context.Context.revs_diff.Goals as goal

pub returns-in_err-asked : goal.returns-in_err-asked
returns-in_err-asked g c =
    let asked = asked_by c.args.body.now in
    let fault = c.in_err-asked.field-0.0 in
    let same : c.from_residual.result ≡ Err (of_doc_fault fault) = search rules in
    subst (IsRead (λ db. says_diffs db.journal asked)) (sym same)
    (read_refused (λ db asked. says_diffs db.journal asked) asked fault (of_doc_fault fault) (λ db. refl)
    c.in_err-asked.ensures.err refl)

pub returns : goal.returns
returns g c =
    read_as (λ db asked. says_diffs db.journal asked) _ c.in_ok-asked.asked.items c.diff.result
    c.in_ok-asked.ensures.ok c.diff.ensures
