use Rattle.hub_database.proofs.ShownLemmas.{winner_copied}
use Rattle.hub_database.proofs.document.Document.winner_doc.Goals as goal

pub returns : goal.returns
returns c =
    rw (c.in_ok-copy.ensures, c.in_ok-copy-2.ensures)
    (winner_copied c.args.self.now c.requires.tree.legal c.args.winner.now c.requires.winner
    c.in-Some.body.now c.in-Some.ensures c.args.revs
    c.in_ok-history.field-0 c.in_ok-history.ensures)
