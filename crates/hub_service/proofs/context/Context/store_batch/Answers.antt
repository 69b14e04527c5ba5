use Rattle.std.proofs.Common.{◌≡◌, Ok, Err, rules, refl, sym, subst}
use Rattle.serde_json.specs.View.{view, items_view}
use Rattle.hub_http.specs.Refusals.{of_doc_fault}
use Rattle.hub_service.specs.Bulk.{batch_in, batch_of}
use Rattle.hub_service.specs.Calls.{batch_reply}
use Rattle.hub_service.specs.Moments.{IsWritten}
use Rattle.hub_service.proofs.Looks.{store_refused, store_unread, stored_as, stored_of_body}
use Rattle.hub_service.proofs.context.Context.store_batch.Goals as goal

pub returns-in_err-request : goal.returns-in_err-request
returns-in_err-request g c =
    let fault = c.in_err-request.field-0.0 in
    let same : c.from_residual.result ≡ Err (of_doc_fault fault) = search rules in
    subst (IsWritten (λ db. batch_reply db (batch_in c.args.body.now))) (sym same)
    (store_unread c.args.body.now fault (of_doc_fault fault) c.in_err-request.ensures.err refl)

pub returns-in_err-docs : goal.returns-in_err-docs
returns-in_err-docs g c =
    let content = view c.in_ok-request.request in
    let refusal = c.in_err-docs.field-0.0 in
    let same : c.from_residual-in_err-docs.result ≡ Err refusal = search rules in
    subst (IsWritten (λ db. batch_reply db (batch_in c.args.body.now))) (sym same)
    (stored_of_body c.args.body.now (Err refusal) content c.in_ok-request.ensures.ok
    (store_refused (batch_of content) refusal c.in_err-docs.ensures.err))

pub returns : goal.returns
returns g c =
    let content = view c.in_ok-request.request in
    let new_edits = c.in_ok-docs.new_edits in
    stored_of_body c.args.body.now c.store_elements.result content c.in_ok-request.ensures.ok
    (stored_as (batch_of content)
    (record { docs = items_view c.in_ok-docs.docs.now.items; new_edits = new_edits })
    c.store_elements.result c.in_ok-docs.ensures.ok
    (subst (λ es. IsWritten (λ db.
    batch_reply db (Ok (record { docs = items_view es; new_edits = new_edits }))) c.store_elements.result)
    c.as_slice.ensures.value c.store_elements.ensures))
