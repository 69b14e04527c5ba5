use Rattle.std.proofs.Common.{◌≡◌, Err, rules, refl, sym, subst}
use Rattle.hub_document.specs.Put.{put_in}
use Rattle.hub_http.specs.Refusals.{of_doc_fault}
use Rattle.hub_params.specs.DocParams.{doc_asked}
use Rattle.hub_service.specs.Calls.{puts_doc}
use Rattle.hub_service.specs.Moments.{IsWritten}
use Rattle.hub_service.proofs.Looks.{put_as, put_refused}
use Rattle.hub_service.proofs.context.Context.put.Goals as goal

pub returns-in_err-doc : goal.returns-in_err-doc
returns-in_err-doc g c =
    let asked = doc_asked c.args.query.now in
    let put = put_in c.args.id.now asked.rev asked.new_edits c.args.body.now in
    let fault = c.in_err-doc.field-0.0 in
    let same : c.from_residual.result ≡ Err (of_doc_fault fault) = search rules in
    subst (IsWritten (λ db. puts_doc db put)) (sym same)
    (put_refused put fault (of_doc_fault fault) c.in_err-doc.ensures.err refl)

pub returns : goal.returns
returns g c = put_as _ c.in_ok-doc.doc c.edit.result c.in_ok-doc.ensures.ok c.edit.ensures
