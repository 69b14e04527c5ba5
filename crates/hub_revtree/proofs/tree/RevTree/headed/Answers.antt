use Rattle.std.proofs.Common.{◌∙◌}
use Rattle.std.specs.Prelude.{None, Some}
use Rattle.hub_revtree.specs.declared.heads.StoredEdit.{StoredEdit}
use Rattle.hub_revtree.proofs.HeadLemmas.{headed_by, headed_long, headed_path}
use Rattle.hub_revtree.proofs.tree.RevTree.headed.Goals as goal

pub returns-in_err-stem-clause-tip : goal.returns-in_err-stem-clause-tip
returns-in_err-stem-clause-tip c =
    rw c.from_residual.ensures
    (c.in_err-stem.ensures.tip
    ∙ headed_by c.branches.result.now.list c.args.self.now.edits c.args.rev.now c.branches.ensures.edits)

pub returns-in_err-stem-clause-path : goal.returns-in_err-stem-clause-path
returns-in_err-stem-clause-path c =
    rw c.from_residual.ensures
    (headed_path {A = StoredEdit} c.args.self.now.edits c.branches.ensures.tree (λ e. e.rev) (λ e. e.deleted)
    (λ e. e.body.now) (λ e. e.count) None c.args.rev.now
    (c.in_err-stem.ensures.tip
    ∙ headed_by c.branches.result.now.list c.args.self.now.edits c.args.rev.now c.branches.ensures.edits)
    (c.in_err-stem.ensures.count
    ∙ headed_long c.branches.result.now.list c.args.self.now.edits c.args.rev.now c.branches.ensures.edits))

pub returns-clause-tip : goal.returns-clause-tip
returns-clause-tip c =
    rw (c.stored.ensures.rev, c.stored.ensures.deleted, c.stored.ensures.body)
    (c.in_ok-stem.ensures.tip
    ∙ headed_by c.branches.result.now.list c.args.self.now.edits c.args.rev.now c.branches.ensures.edits)

pub returns-clause-path : goal.returns-clause-path
returns-clause-path c =
    headed_path {A = StoredEdit} c.args.self.now.edits c.branches.ensures.tree (λ e. e.rev) (λ e. e.deleted)
    (λ e. e.body.now) (λ e. e.count) (Some c.stored.result) c.args.rev.now
    (rw (c.stored.ensures.rev, c.stored.ensures.deleted, c.stored.ensures.body)
    (c.in_ok-stem.ensures.tip
    ∙ headed_by c.branches.result.now.list c.args.self.now.edits c.args.rev.now c.branches.ensures.edits))
    (rw c.stored.ensures.count
    (c.in_ok-stem.ensures.count
    ∙ headed_long c.branches.result.now.list c.args.self.now.edits c.args.rev.now c.branches.ensures.edits))
