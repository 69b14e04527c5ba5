use Rattle.std.proofs.Common.{◌≡◌, ◌∙◌, subst, sym}
use Rattle.hub_model.specs.Leaves.{leaves_of}
use Rattle.hub_revtree.specs.Winner.{winner_of}
use Rattle.hub_database.specs.Database.{Database}
use Rattle.hub_database.proofs.ShownLemmas.{winner_found}
use Rattle.hub_database.proofs.database.DbState.winner.Goals as goal

pub returns : goal.returns
returns c =
    subst (λ (db : Database). c.best.result ≡ winner_of (leaves_of db.journal c.args.id.now)) c.self.view_is
    (c.best.ensures.best
    ∙ sym (winner_found c.self.inside.contents.journal c.args.id.now c.in_ok-document.document.now
    c.in_ok-document.ensures.found))
