use Rattle.std.proofs.Common.{◌≡◌, ℕ, List, Bool, true, false, Option, Some, None, Result}
use Rattle.std.proofs.Common.{Err, option_map, rules, string_bytes, refl, sym, subst, ap, ◌∙◌}
use Rattle.std.specs.Prelude.{T, is_some}
use Rattle.hub_database.specs.Database.{Database}
use Rattle.hub_database.specs.Reads.{HasDocument, lookup}
use Rattle.hub_database.specs.declared.answers.Lookup.{Lookup}
use Rattle.hub_document.specs.Asking.{open_revs_in}
use Rattle.hub_document.specs.declared.open_revs.OpenRevs.{OpenRevs}
use Rattle.hub_params.specs.DocParams.{DocAsked}
use Rattle.hub_http.specs.declared.refusal.Refusal.{Refusal}
use Rattle.hub_http.specs.declared.refusal.Refusal.TheVariants.{BadRev}
use Rattle.hub_service.specs.Calls.{gets_by, gets_doc, gets_revs, says_found}
use Rattle.hub_service.specs.Moments.{IsRead}
use Rattle.hub_service.specs.Said.{Refusing}
use Rattle.hub_service.specs.declared.response.Response.{Response}
use Rattle.hub_service.proofs.Looks.{found_read, look_found, look_unfound, read_anyway, unfound_read}
use Rattle.hub_service.proofs.context.Context.get.Goals as goal

-- the result of a look for a document of an id
abbrev is_lookup : List ℕ → Bool → Database → Lookup → Type 0
is_lookup id revs db found = found ≡ lookup db.journal id revs

-- where `open_revs` is asked for, the answer is the revisions
revs_asked : (id : List ℕ) (revs : Bool) (rev : Option (List ℕ)) (leaves : Option (List ℕ)) (text : List ℕ)
    (asked : Option OpenRevs) (r : Result Response Refusal) → leaves ≡ Some text → asked ≡ open_revs_in text
    → IsRead (λ db. gets_revs db.journal id revs asked) r
    → IsRead (λ db. gets_by db.journal id revs rev leaves) r
revs_asked id revs rev leaves text asked r some is read =
    subst (λ o. IsRead (λ db. gets_by db.journal id revs rev o) r) (sym some)
    (subst (λ a. IsRead (λ db. gets_revs db.journal id revs a) r) is read)

-- where `rev` is asked for without `open_revs`, the answer is a refusal
rev_asked : {A : Type 0} (id : List ℕ) (revs : Bool) (f : A → List ℕ) (rev : Option A)
    (leaves : Option (List ℕ))
    → leaves ≡ None → is_some rev ≡ true
    → IsRead (λ db. gets_by db.journal id revs (option_map f rev) leaves) (Err BadRev)
rev_asked id revs f None leaves none some = absurd (subst T (sym some) tt)
rev_asked id revs f (Some rev) leaves none some =
    read_anyway (λ db. gets_by db.journal id revs (Some (f rev)) leaves) (Refusing BadRev) (Err BadRev) refl
    (λ db. sym (ap (gets_by db.journal id revs (Some (f rev))) none))

-- where neither is asked for, the answer is the document
none_asked : {A : Type 0} (id : List ℕ) (revs : Bool) (f : A → List ℕ) (rev : Option A)
    (leaves : Option (List ℕ))
    (r : Result Response Refusal) → leaves ≡ None → is_some rev ≡ false
    → IsRead (λ db. says_found (lookup db.journal id revs)) r
    → IsRead (λ db. gets_by db.journal id revs (option_map f rev) leaves) r
none_asked id revs f None leaves r none without read =
    subst (λ o. IsRead (λ db. gets_by db.journal id revs None o) r) (sym none) read
none_asked id revs f (Some rev) leaves r none without read = absurd (subst T without tt)

pub returns-in-Some : goal.returns-in-Some
returns-in-Some g c =
    let id = c.args.id.now in
    let asks : DocAsked → Type 0 = λ a. IsRead (λ db. gets_doc db.journal id a) c.get_revs.result in
    let p = c.rev.inside in
    subst asks (c.rev.view_is ∙ c.in_ok-rev.ensures.asked)
    (revs_asked id p.revs (option_map string_bytes p.rev)
    (option_map string_bytes p.open_revs) (string_bytes c.in-Some.text) c.in_ok-asked.asked c.get_revs.result
    (ap (option_map string_bytes) c.in-Some.is)
    (c.in_ok-asked.ensures.value ∙ ap open_revs_in c.as_str.ensures.value) c.get_revs.ensures)

pub returns-then-is_some : goal.returns-then-is_some
returns-then-is_some g c =
    let id = c.args.id.now in
    let asks : DocAsked → Type 0 = λ a. IsRead (λ db. gets_doc db.journal id a) (Err BadRev) in
    let p = c.rev.inside in
    subst asks (c.rev.view_is ∙ c.in_ok-rev.ensures.asked)
    (rev_asked id p.revs string_bytes p.rev (option_map string_bytes p.open_revs)
    (ap (option_map string_bytes) c.in_default.is) (sym c.is_some.ensures ∙ c.if-is_some.true))

pub returns-in_err-found : goal.returns-in_err-found
returns-in_err-found g c =
    let id = c.args.id.now in
    let p = c.rev.inside in
    let same : c.from_residual-in_err-found.result ≡ Err c.in_err-found.field-0.0 = search rules in
    let asks : DocAsked → Type 0 =
    λ a. IsRead (λ db. gets_doc db.journal id a) c.from_residual-in_err-found.result in
    subst asks (c.rev.view_is ∙ c.in_ok-rev.ensures.asked)
    (none_asked id p.revs string_bytes p.rev (option_map string_bytes p.open_revs)
    c.from_residual-in_err-found.result
    (ap (option_map string_bytes) c.in_default.is)
    (sym c.is_some.ensures ∙ c.if-is_some.false)
    (subst (IsRead (λ db. says_found (lookup db.journal id p.revs))) (sym same)
    (unfound_read (is_lookup id p.revs) (λ db. says_found (lookup db.journal id p.revs))
    c.in_err-found.field-0.0
    (look_unfound _ (is_lookup id p.revs) (λ db. HasDocument db.journal id p.revs)
    c.in_err-found.field-0.0 c.in_err-found.ensures (λ lent given is. search rules)))))

pub returns : goal.returns
returns g c =
    let id = c.args.id.now in
    let asks : DocAsked → Type 0 = λ a. IsRead (λ db. gets_doc db.journal id a) c.say_found.result in
    let p = c.rev.inside in
    subst asks (c.rev.view_is ∙ c.in_ok-rev.ensures.asked)
    (none_asked id p.revs string_bytes p.rev (option_map string_bytes p.open_revs) c.say_found.result
    (ap (option_map string_bytes) c.in_default.is)
    (sym c.is_some.ensures ∙ c.if-is_some.false)
    (found_read (is_lookup id p.revs) (λ db. says_found (lookup db.journal id p.revs))
    c.in_ok-found.found (says_found c.in_ok-found.found) c.say_found.result
    (look_found _ (is_lookup id p.revs) c.in_ok-found.found c.in_ok-found.ensures
    (λ lent given is. search rules))
    c.say_found.ensures (λ db is. ap says_found is)))
