use Rattle.std.proofs.Common.{◌≡◌, Err, rules, sym, subst, ap}
use Rattle.std.specs.Prelude.{Option}
use Rattle.hub_database.specs.Database.{Database}
use Rattle.hub_revtree.specs.declared.leaf.Winner.{Winner}
use Rattle.hub_service.specs.Calls.{winner_in}
use Rattle.hub_service.specs.Deletions.{refuses_unnamed}
use Rattle.hub_service.specs.Moments.{IsRead}
use Rattle.hub_service.specs.Said.{Refusing}
use Rattle.hub_service.proofs.Looks.{found_read, unfound_read}
use Rattle.hub_service.proofs.context.Context.delete_unnamed.Goals as goal

pub returns-in_err-winner : goal.returns-in_err-winner
returns-in_err-winner g c =
    let same : c.from_residual.result ≡ Err c.in_err-winner.field-0.0 = search rules in
    let says = λ (db : Database). Refusing (refuses_unnamed (winner_in db c.args.id.now)) in
    subst (IsRead says) (sym same)
    (unfound_read (λ (db : Database) (maybe_winner : Option Winner).
    maybe_winner ≡ winner_in db c.args.id.now)
    says c.in_err-winner.field-0.0 c.in_err-winner.ensures)

pub returns : goal.returns
returns g c =
    found_read (λ (db : Database) (maybe_winner : Option Winner). maybe_winner ≡ winner_in db c.args.id.now)
    (λ db. Refusing (refuses_unnamed (winner_in db c.args.id.now))) c.in_ok-winner.winner
    (Refusing (refuses_unnamed c.in_ok-winner.winner)) (Err c.refuse_unnamed.result) c.in_ok-winner.ensures
    c.refuse_unnamed.ensures (λ db is. ap (λ maybe_winner. Refusing (refuses_unnamed maybe_winner)) is)
