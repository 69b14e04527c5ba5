use Rattle.std.proofs.Common.{Some, [], sym, subst}
use Rattle.hub_model.specs.Path.{IsHistory}
use Rattle.hub_model.proofs.Tests.{known_is}
use Rattle.hub_revtree.specs.Extend.{line_to}
use Rattle.hub_revtree.proofs.BranchLemmas.{on_err}
use Rattle.hub_revtree.proofs.EditLemmas.{known_path, unknown_path}
use Rattle.hub_revtree.proofs.LineLemmas.{line_known, no_line_unknown, path_history}
use Rattle.hub_revtree.proofs.tree.RevTree.path.Goals as goal

pub returns-then-count-eq0-clause-ok : goal.returns-then-count-eq0-clause-ok
returns-then-count-eq0-clause-ok c =
    sym (unknown_path c.args.self.now.edits c.args.rev.now
    (no_line_unknown c.args.self.now.edits c.args.rev.now
    c.line_length-count.result c.branches-branches.ensures.tree.legal
    (rw c.branches-branches.ensures.edits at c.line_length-count.ensures) c.if-count-eq0.true))

pub new-requires : goal.new-requires
new-requires c =
    let known =
    line_known c.args.self.now.edits c.args.rev.now c.line_length-count.result
    (rw c.branches-branches.ensures.edits at c.line_length-count.ensures) c.if-count-eq0.false in
    let items =
    rw (c.in_ok-revisions.ensures.items, c.branches-branches.ensures.edits) at c.in_ok-append_line.ensures in
    subst IsHistory (sym items)
    (path_history c.args.self.now.edits c.args.rev.now (line_to c.args.self.now.edits (Some c.args.rev.now))
    c.branches-branches.ensures.tree (known_path c.args.self.now.edits c.args.rev.now known))

pub returns-in_err-revisions-clause-memory : goal.returns-in_err-revisions-clause-memory
returns-in_err-revisions-clause-memory c =
    on_err c.from_residual.result _
    (known_is c.args.self.now.edits [] c.args.rev.now
    (line_known c.args.self.now.edits c.args.rev.now c.line_length-count.result
    (rw c.branches-branches.ensures.edits at c.line_length-count.ensures) c.if-count-eq0.false))

pub returns-in_err-append_line-clause-memory : goal.returns-in_err-append_line-clause-memory
returns-in_err-append_line-clause-memory c =
    on_err c.from_residual-in_err-append_line.result _
    (known_is c.args.self.now.edits [] c.args.rev.now
    (line_known c.args.self.now.edits c.args.rev.now c.line_length-count.result
    (rw c.branches-branches.ensures.edits at c.line_length-count.ensures) c.if-count-eq0.false))
