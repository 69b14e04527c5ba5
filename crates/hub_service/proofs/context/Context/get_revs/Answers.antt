use Rattle.std.proofs.Common.{◌≡◌, ℕ, List, [], Bool, Err, rules, refl, sym, subst, ap, ◌∙◌}
use Rattle.std.specs.Prelude.{Vec}
use Rattle.std.specs.declared.alloc.Global.{Global}
use Rattle.hub_database.specs.Database.{Database}
use Rattle.hub_database.specs.Reads.{open_revs}
use Rattle.hub_database.specs.declared.answers.OpenRev.{OpenRev}
use Rattle.hub_document.specs.declared.open_revs.OpenRevs.{OpenRevs}
use Rattle.hub_http.specs.declared.refusal.Refusal.TheVariants.{BadRev}
use Rattle.hub_service.specs.Calls.{gets_revs, is_all, says_revs}
use Rattle.hub_service.specs.Moments.{IsRead}
use Rattle.hub_service.specs.Said.{Refusing}
use Rattle.hub_service.proofs.Looks.{found_read, look_found, look_unfound, read_anyway, unfound_read}
use Rattle.hub_service.proofs.context.Context.get_revs.Goals as goal

-- the result of a look for revisions of an id
abbrev are_revs : List ℕ → OpenRevs → Bool → Database → Vec OpenRev Global → Type 0
are_revs id which revs db found = found.items ≡ open_revs db.journal id which revs

pub returns-in_default : goal.returns-in_default
returns-in_default g c =
    read_anyway (λ db. gets_revs db.journal c.args.id.now c.args.revs c.args.asked)
    (Refusing BadRev) (Err BadRev) refl
    (λ db. sym (ap (gets_revs db.journal c.args.id.now c.args.revs) c.in_default.is))

pub returns-in_err-found : goal.returns-in_err-found
returns-in_err-found g c =
    let same : c.from_residual.result ≡ Err c.in_err-found.field-0.0 = search rules in
    subst (IsRead (λ db. gets_revs db.journal c.args.id.now c.args.revs c.args.asked)) (sym same)
    (unfound_read (are_revs c.args.id.now c.in-Some.which c.args.revs)
    (λ db. gets_revs db.journal c.args.id.now c.args.revs c.args.asked)
    c.in_err-found.field-0.0
    (look_unfound _ (are_revs c.args.id.now c.in-Some.which c.args.revs)
    (λ db. ¬ (open_revs db.journal c.args.id.now c.in-Some.which c.args.revs ≡ []))
    c.in_err-found.field-0.0 c.in_err-found.ensures (λ lent given is. search rules)))

pub returns : goal.returns
returns g c =
    let id = c.args.id.now in
    let which = c.in-Some.which in
    let revs = c.as_slice.result.now in
    found_read (are_revs id which c.args.revs)
    (λ db. gets_revs db.journal id c.args.revs c.args.asked) c.in_ok-found.found
    (says_revs (is_all which) revs) c.say_revs.result
    (look_found _ (are_revs id which c.args.revs) c.in_ok-found.found c.in_ok-found.ensures
    (λ lent given is. search rules))
    c.say_revs.ensures
    (λ db is. ap (says_revs (is_all which)) (c.as_slice.ensures.value ∙ is)
    ∙ sym (ap (gets_revs db.journal id c.args.revs) c.in-Some.is))
