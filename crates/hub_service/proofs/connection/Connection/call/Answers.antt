use Rattle.std.proofs.Common.{List, ℕ, inl, inr, subst, sym}
use Rattle.hub_service.specs.Calls.{says_info}
use Rattle.hub_service.specs.Moments.{IsRead}
use Rattle.hub_service.specs.Requests.{AnswersCall}
use Rattle.hub_service.proofs.connection.Connection.call.Goals as goal

-- the database of the name was found, and its information has this name
pub returns-in_ok-database-in-Info : goal.returns-in_ok-database-in-Info
returns-in_ok-database-in-Info g c =
    let own = c.in_ok-database-in-Info.ensures.own in
    subst
    (λ call. AnswersCall call c.args.name.now c.args.id.now c.args.query.now c.args.body.now c.info.result)
    (sym c.in-Info.is)
    (inr (
      own.1,
      inl (subst (λ (name : List ℕ). IsRead (λ db. says_info name db) c.info.result) own.0
          c.info.ensures),
    ))
