use Rattle.std.proofs.Common.{◌≡◌, List, Ok, rules, sym, subst, ◌∙◌}
use Rattle.std.specs.Prelude.{IfOk}
use Rattle.serde_json.specs.View.{items_view}
use Rattle.hub_document.specs.declared.doc.Doc.{Doc}
use Rattle.hub_service.specs.Calls.{says_batch, says_noted}
use Rattle.hub_service.specs.Moments.{IsStored}
use Rattle.hub_service.specs.Said.{IsSaid}
use Rattle.hub_service.proofs.Looks.{batch_said, stored_whole}
use Rattle.hub_service.proofs.context.Context.store_elements.Goals as goal

pub returns : goal.returns
returns g c =
    let w = c.in_ok-written.written in
    let items = items_view c.args.elements.now in
    let docs = c.in_ok-docs.field-0.docs.items in
    let told : c.with_refusal.result ≡ Ok w = search rules in
    let stored =
    subst (λ (docs : List Doc). IsStored c.args.new_edits docs w) c.in_ok-docs.ensures.docs
    (subst (λ r. IfOk r (IsStored c.args.new_edits docs)) (sym c.with_refusal.ensures ∙ told)
    (stored_whole c.args.new_edits docs c.write.result c.write.ensures.stored c.write.ensures.lapsed)) in
    batch_said c.args.new_edits items w c.say_batch.result stored
    (subst (λ f. IsSaid (says_noted w.lapsed
    (says_batch (record { docs = items; new_edits = c.args.new_edits })
    f w.batch.stopped w.batch.replies)) c.say_batch.result)
    (c.as_slice.ensures.value ∙ c.in_ok-docs.ensures.faults) c.say_batch.ensures)
