use Rattle.std.proofs.Common.{◌≡◌, ℕ, List, Err, ◌<◌, ◌^◌, rules, sym, subst, arith}
use Rattle.std.specs.Prelude.{Vec}
use Rattle.std.specs.declared.alloc.Global.{Global}
use Rattle.hub_database.specs.Locals.{local_after_write}
use Rattle.hub_replies.specs.Bodies.{edit_front, local_edit_body}
use Rattle.hub_service.specs.Calls.{local_reply}
use Rattle.hub_service.specs.Moments.{IsRead}
use Rattle.hub_service.proofs.Looks.{kept_read, kept_said, said_text, told_of, unkept_read}
use Rattle.hub_service.proofs.context.Context.keep.Goals as goal

pub returns-in_err-count : goal.returns-in_err-count
returns-in_err-count g c =
    let same : c.from_residual-in_err-count.result ≡ Err c.in_err-count.field-0.0 = search rules in
    subst (IsRead (λ db. local_reply (local_after_write db.locals c.args.doc))) (sym same)
    (unkept_read c.args.doc c.in_err-count.field-0.0 c.in_err-count.ensures)

pub returns : goal.returns
returns g c =
    let n = c.in_ok-count.count in
    let few : n < 2 ^ 64 = omega arith in
    let front : c.in_ok-front.front.items ≡ edit_front c.args.doc.id =
    subst (λ (id : List ℕ). c.in_ok-front.front.items ≡ edit_front id) c.as_str.ensures
    c.in_ok-front.ensures in
    let said =
    said_text (λ (b : Vec ℕ Global). b.items) 201
    (local_edit_body c.args.doc.id n) c.local_edit_body.result c.answer.result
    (told_of (λ (id : List ℕ). c.in_ok-front.front.items ≡ edit_front id)
    (λ (t : Vec ℕ Global) id. t.items ≡ local_edit_body id n) c.local_edit_body.result c.args.doc.id
    front c.local_edit_body.ensures)
    c.answer.ensures.said c.answer.ensures.memory in
    kept_read c.args.doc n c.answer.result c.in_ok-count.ensures
    (λ db is. kept_said db c.args.doc n c.answer.result few said is)
