use Rattle.std.proofs.Common.{sym, ◌∙◌}
use Rattle.hub_database.proofs.ShownLemmas.{unknown_found, deleted_found, is_there, live_found, never_none}
use Rattle.hub_revtree.proofs.BranchLemmas.{on_err}
use Rattle.hub_database.proofs.contents.Contents.get.Goals as goal

pub returns-in_default-best-clause-found : goal.returns-in_default-best-clause-found
returns-in_default-best-clause-found c =
    (unknown_found c.args.self.now.journal c.args.id.now
    c.document.ensures.legal c.in-Some.document.now c.in-Some.ensures.found c.args.revs
    (sym c.best.ensures.best ∙ c.in_default-best.is))

pub returns-then-winner-clause-found : goal.returns-then-winner-clause-found
returns-then-winner-clause-found c =
    (deleted_found c.args.self.now.journal c.args.id.now c.document.ensures.legal
    c.in-Some.document.now c.in-Some.ensures.found c.args.revs c.in-Some-best.winner
    c.in-Some-best.ensures.best c.if-winner.true)

pub returns-in-Some-2-clause-found : goal.returns-in-Some-2-clause-found
returns-in-Some-2-clause-found c =
    let shown = rw c.in-Some-2.is at c.in_ok-doc.ensures in
    (live_found c.args.self.now.journal c.args.id.now c.document.ensures.legal
    c.in-Some.document.now c.in-Some.ensures.found c.args.revs c.in-Some-best.winner
    c.in-Some-best.ensures.best c.in-Some-2.doc shown c.if-winner.false)

pub returns-in-None-clause-found : goal.returns-in-None-clause-found
returns-in-None-clause-found c =
    let shown = rw c.in-None.is at c.in_ok-doc.ensures in
    absurd (never_none c.args.self.now.journal c.args.id.now c.document.ensures.legal
    c.in-Some.document.now c.in-Some.ensures.found c.args.revs c.in-Some-best.winner
    c.in-Some-best.ensures.best shown c.if-winner.false)

pub returns-in_err-doc-clause-memory : goal.returns-in_err-doc-clause-memory
returns-in_err-doc-clause-memory c =
    (on_err c.from_residual.result _
    (is_there c.args.self.now.journal c.args.id.now c.document.ensures.legal
    c.in-Some.document.now c.in-Some.ensures.found c.args.revs c.in-Some-best.winner
    c.in-Some-best.ensures.best c.if-winner.false))
