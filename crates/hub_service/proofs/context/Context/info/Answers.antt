use Rattle.std.proofs.Common.{◌≡◌, ℕ, List, Err, rules, sym, subst, ap}
use Rattle.std.specs.Prelude.{Vec}
use Rattle.std.specs.declared.alloc.Global.{Global}
use Rattle.hub_database.specs.Database.{Database}
use Rattle.hub_database.specs.Reads.{info_of}
use Rattle.hub_database.specs.declared.answers.Info.{Info}
use Rattle.hub_replies.specs.Bodies.{info_body}
use Rattle.hub_service.specs.Calls.{says_info}
use Rattle.hub_service.specs.Moments.{IsRead}
use Rattle.hub_service.specs.Said.{Body}
use Rattle.hub_service.proofs.Looks.{found_read, look_found, look_unfound, said_text, unfound_read}
use Rattle.hub_service.proofs.context.Context.info.Goals as goal

-- the result of a look for the information of a database
abbrev is_info : Database → Info → Type 0
is_info db info = info ≡ info_of db.journal db.life

pub returns-in_err-info : goal.returns-in_err-info
returns-in_err-info g c =
    let same : c.from_residual.result ≡ Err c.in_err-info.field-0.0 = search rules in
    subst (IsRead (λ db. says_info c.args.db.now db)) (sym same)
    (unfound_read is_info (λ db. says_info c.args.db.now db) c.in_err-info.field-0.0
    (look_unfound _ is_info (λ db. ⊥) c.in_err-info.field-0.0 c.in_err-info.ensures
    (λ lent given is. search rules)))

pub returns : goal.returns
returns g c =
    let name = c.name.result.now in
    let said =
    said_text (λ (b : Vec ℕ Global). b.items) 200 (info_body name c.in_ok-info.info)
    c.info_body.result c.answer.result c.info_body.ensures c.answer.ensures.said c.answer.ensures.memory in
    subst (λ (n : List ℕ). IsRead (λ db. says_info n db) c.answer.result) c.name.ensures
    (found_read is_info (λ db. says_info name db) c.in_ok-info.info
    (Body 200 (info_body name c.in_ok-info.info)) c.answer.result
    (look_found _ is_info c.in_ok-info.info c.in_ok-info.ensures (λ lent given is. search rules)) said
    (λ db is. ap (λ info. Body 200 (info_body name info)) is))
