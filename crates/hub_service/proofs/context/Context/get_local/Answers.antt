use Rattle.std.proofs.Common.{◌≡◌, ℕ, List, Option, Err, option_map, rules, sym, subst, ap}
use Rattle.std.specs.Prelude.{IsSome}
use Rattle.hub_database.specs.Database.{Database}
use Rattle.hub_database.specs.Locals.{local_of}
use Rattle.hub_database.specs.declared.local.Local as kept
use Rattle.hub_database.specs.Answers.{local_named}
use Rattle.hub_service.specs.Calls.{says_local}
use Rattle.hub_service.specs.Moments.{IsRead}
use Rattle.hub_service.proofs.Looks.{found_read, look_found, look_unfound, unfound_read}
use Rattle.hub_service.proofs.context.Context.get_local.Goals as goal

-- the result of a look for a local document of an id
abbrev is_local : List ℕ → Database → Option kept.Local → Type 0
is_local id db found = option_map (local_named id) found ≡ local_of db.locals id

pub returns-in_err-found : goal.returns-in_err-found
returns-in_err-found g c =
    let same : c.from_residual.result ≡ Err c.in_err-found.field-0.0 = search rules in
    subst (IsRead (λ db. says_local (local_of db.locals c.args.id.now))) (sym same)
    (unfound_read (is_local c.args.id.now) (λ db. says_local (local_of db.locals c.args.id.now))
    c.in_err-found.field-0.0
    (look_unfound _ (is_local c.args.id.now) (λ db. IsSome (local_of db.locals c.args.id.now))
    c.in_err-found.field-0.0 c.in_err-found.ensures (λ lent given is. search rules)))

pub returns : goal.returns
returns g c =
    found_read (is_local c.args.id.now) (λ db. says_local (local_of db.locals c.args.id.now))
    c.in_ok-found.found (says_local (option_map (local_named c.args.id.now) c.in_ok-found.found))
    c.say_local.result
    (look_found _ (is_local c.args.id.now) c.in_ok-found.found c.in_ok-found.ensures
    (λ lent given is. search rules))
    c.say_local.ensures (λ db is. ap says_local is)
