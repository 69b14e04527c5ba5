use Rattle.std.proofs.Common.{◌≡◌, rules}
use Rattle.hub_database.specs.Database.{Database}
use Rattle.hub_service.specs.Calls.{winner_in}
use Rattle.hub_service.proofs.Looks.{looked_found}
use Rattle.hub_service.proofs.context.Context.winner.Goals as goal

pub returns : goal.returns
returns g c =
    looked_found _ (λ (db : Database) found. found ≡ winner_in db c.args.id.now)
    (λ db. ⊥)
    c.look.result c.look.ensures (λ lent given is. search rules) (λ lent given is. search rules)
