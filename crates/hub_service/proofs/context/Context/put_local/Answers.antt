use Rattle.std.proofs.Common.{◌≡◌, Err, rules, refl, sym, subst}
use Rattle.hub_document.specs.Local.{local_in}
use Rattle.hub_http.specs.Refusals.{of_doc_fault}
use Rattle.hub_service.specs.Calls.{puts_local}
use Rattle.hub_service.specs.Moments.{IsRead}
use Rattle.hub_service.proofs.Looks.{read_as, read_refused}
use Rattle.hub_service.proofs.context.Context.put_local.Goals as goal

pub returns-in_err-doc : goal.returns-in_err-doc
returns-in_err-doc g c =
    let local = local_in c.args.id.now c.args.body.now in
    let fault = c.in_err-doc.field-0.0 in
    let same : c.from_residual.result ≡ Err (of_doc_fault fault) = search rules in
    subst (IsRead (λ db. puts_local db local)) (sym same)
    (read_refused puts_local local fault (of_doc_fault fault) (λ db. refl) c.in_err-doc.ensures.err refl)

pub returns : goal.returns
returns g c = read_as puts_local _ c.in_ok-doc.doc c.keep.result c.in_ok-doc.ensures.ok c.keep.ensures
