use Rattle.std.proofs.Common.{◌∙◌, sym}
use Rattle.std.proofs.lemmas.Bool.{not-false}
use Rattle.hub_revtree.proofs.EditLemmas.{dead_extends, dead_known, known_first, known_path, leaf_known}
use Rattle.hub_revtree.proofs.EditLemmas.{leaf_taken, no_leaf}
use Rattle.hub_revtree.proofs.tree.RevTree.extended.Goals as goal

pub returns-then-not-is_leaf-clause-line : goal.returns-then-not-is_leaf-clause-line
returns-then-not-is_leaf-clause-line c =
    rw c.in-Some.is
    (sym (no_leaf c.branches.result.now.list c.args.self.now.edits c.branches.ensures.edits c.in-Some.rev
    c.is_leaf.result c.is_leaf.ensures c.if-not-is_leaf.true))

pub returns-in-Some-clause-line : goal.returns-in-Some-clause-line
returns-in-Some-clause-line c =
    let known =
    leaf_known c.branches.result.now.list c.args.self.now.edits c.branches.ensures.edits c.in-Some.rev
    c.is_leaf.result c.is_leaf.ensures c.if-not-is_leaf.false in
    rw c.in-Some.is
    (sym (known_path c.args.self.now.edits c.in-Some.rev known)
    ∙ leaf_taken c.branches.result.now.list c.args.self.now.edits c.branches.ensures.edits c.in-Some.rev
    c.is_leaf.result c.is_leaf.ensures c.if-not-is_leaf.false)

pub returns-in-Some-clause-first : goal.returns-in-Some-clause-first
returns-in-Some-clause-first c =
    known_first c.args.self.now.edits c.in-Some.rev c.branches.ensures.tree
    (leaf_known c.branches.result.now.list c.args.self.now.edits c.branches.ensures.edits c.in-Some.rev
    c.is_leaf.result c.is_leaf.ensures c.if-not-is_leaf.false)

pub returns-clause-line : goal.returns-clause-line
returns-clause-line c =
    rw c.in_default.is
    (sym (known_path c.args.self.now.edits c.in-Some-best.winner.rev
    (dead_known c.args.self.now.edits c.in-Some-best.winner c.in-Some-best.ensures.tree
    c.in-Some-best.ensures.best))
    ∙ dead_extends c.args.self.now.edits c.in-Some-best.winner c.in-Some-best.ensures.best
    (not-false c.in-Some-best.winner.deleted c.if-not-winner.false))

pub returns-clause-first : goal.returns-clause-first
returns-clause-first c =
    known_first c.args.self.now.edits c.in-Some-best.winner.rev c.in-Some-best.ensures.tree
    (dead_known c.args.self.now.edits c.in-Some-best.winner c.in-Some-best.ensures.tree
    c.in-Some-best.ensures.best)
