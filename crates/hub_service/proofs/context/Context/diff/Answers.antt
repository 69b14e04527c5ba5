use Rattle.std.proofs.Common.{◌≡◌, ℕ, [], Ok, Err, rules, sym, subst, ap, ◌∙◌}
use Rattle.std.specs.Prelude.{Vec}
use Rattle.std.specs.declared.alloc.Global.{Global}
use Rattle.hub_database.specs.Database.{Database}
use Rattle.hub_model.specs.Missing.{RevisionsOfDoc, Diff, diffs}
use Rattle.hub_replies.specs.Bodies.{diffs_body}
use Rattle.hub_service.specs.Calls.{says_diffs}
use Rattle.hub_service.specs.Moments.{IsRead}
use Rattle.hub_service.specs.Said.{Body}
use Rattle.hub_service.proofs.Looks.{found_read, look_found, look_unfound, said_text, unfound_read}
use Rattle.hub_service.proofs.context.Context.diff.Goals as goal

-- the result of a look for missing revisions
abbrev are_diffs : Vec RevisionsOfDoc Global → Database → Vec Diff Global → Type 0
are_diffs asked db found = found.items ≡ diffs db.journal asked.items

pub returns-in_err-found : goal.returns-in_err-found
returns-in_err-found g c =
    let same : c.from_residual.result ≡ Err c.in_err-found.field-0.0 = search rules in
    subst (IsRead (λ db. says_diffs db.journal (Ok c.args.asked.items))) (sym same)
    (unfound_read (are_diffs c.args.asked)
    (λ db. says_diffs db.journal (Ok c.args.asked.items)) c.in_err-found.field-0.0
    (look_unfound _ (are_diffs c.args.asked) (λ db. ¬ (diffs db.journal c.args.asked.items ≡ []))
    c.in_err-found.field-0.0 c.in_err-found.ensures (λ lent given is. search rules)))

pub returns : goal.returns
returns g c =
    let said =
    said_text (λ (b : Vec ℕ Global). b.items) 200 (diffs_body c.as_slice.result.now) c.diffs_body.result
    c.answer.result c.diffs_body.ensures c.answer.ensures.said c.answer.ensures.memory in
    found_read (are_diffs c.args.asked)
    (λ db. says_diffs db.journal (Ok c.args.asked.items)) c.in_ok-found.found
    (Body 200 (diffs_body c.as_slice.result.now)) c.answer.result
    (look_found _ (are_diffs c.args.asked) c.in_ok-found.found c.in_ok-found.ensures
    (λ lent given is. search rules)) said
    (λ db is. ap (λ ds. Body 200 (diffs_body ds)) (c.as_slice.ensures.value ∙ is))
