use Rattle.std.proofs.Common.{◌≡◌, ℕ, List, Err, Ok, rules, sym, subst, ◌∙◌}
use Rattle.hub_replies.specs.Bodies.{edit_front}
use Rattle.hub_service.specs.Calls.{edits}
use Rattle.hub_service.specs.Moments.{IsEdited, IsWritten}
use Rattle.hub_service.proofs.Looks.{edit_refused, edit_said, edited_or_not}
use Rattle.hub_service.proofs.context.Context.edit.Goals as goal

pub returns-in_err-edited : goal.returns-in_err-edited
returns-in_err-edited g c =
    let refusal = c.in_err-edited.field-0.0 in
    let same : c.from_residual-in_err-edited.result ≡ Err refusal = search rules in
    let told : c.with_refusal.result ≡ Err refusal = search rules in
    subst (IsWritten (λ db. edits c.args.status db c.args.doc)) (sym same)
    (edit_refused c.args.status c.args.doc refusal
    (subst (IsEdited c.args.doc) (sym c.with_refusal.ensures ∙ told)
    (edited_or_not c.args.doc c.write_one.result c.write_one.ensures.edited c.write_one.ensures.err)))

pub returns : goal.returns
returns g c =
    let edited = c.in_ok-edited.edited in
    let told : c.with_refusal.result ≡ Ok edited = search rules in
    edit_said c.args.status c.args.doc edited c.say_edited.result
    (subst (IsEdited c.args.doc) (sym c.with_refusal.ensures ∙ told)
    (edited_or_not c.args.doc c.write_one.result c.write_one.ensures.edited c.write_one.ensures.err))
    (c.say_edited.ensures c.args.doc.id
    (subst (λ (id : List ℕ). c.in_ok-front.front.items ≡ edit_front id)
    c.as_str.ensures.value c.in_ok-front.ensures))
