use Rattle.hub_database.proofs.ShownLemmas.{doc_found}
use Rattle.hub_database.proofs.document.Document.shown.Goals as goal

pub returns : goal.returns
returns c =
    rw (c.in_ok-copy.ensures, c.in_ok-copy-2.ensures)
    (doc_found c.args.self.now c.args.rev.now c.in-Some.edit.rev c.in-Some.edit.deleted
    c.in-Some.edit.body.now c.in-Some.ensures.tip c.in-Some.edit.count c.in-Some.ensures.path c.args.revs
    c.in_ok-history.field-0 c.in_ok-history.ensures)
