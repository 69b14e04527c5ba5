use Rattle.std.proofs.Common.{◌∙◌, ap, sym, arith}
use Rattle.hub_database.specs.Database.{Database}
use Rattle.hub_database.proofs.FeedLemmas.{refused_batch}
use Rattle.hub_database.proofs.database.DbState.write_edits.Goals as goal

pub returns-then-self-clause-batch : goal.returns-then-self-clause-batch
returns-then-self-clause-batch c =
    let db = c.args.self.now in
    refused_batch c.args.new_edits db.deleted db.limits.journal db.journal c.args.docs.items
    c.len.result c.in_ok-refuse_all.field-0
    (sym (ap (λ (database : Database). database.deleted) c.self.view_is) ∙ c.if-self.true)
    (omega (arith, c.len.ensures, c.args.docs.ok.0)) c.in_ok-refuse_all.ensures
