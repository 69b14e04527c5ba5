use Rattle.std.proofs.Common.{Some, None}
use Rattle.hub_revtree.specs.Stem.{Stem}
use Rattle.hub_revtree.proofs.TreeLemmas.{body_by}
use Rattle.hub_revtree.proofs.tree.RevTree.body.Goals as goal

pub returns-in-None : goal.returns-in-None
returns-in-None c =
    body_by {A = Stem} c.branches.result.now.list c.args.self.now.edits c.args.rev.now None
    (λ s. c.args.rev.now) (λ s. s.deleted) (λ s. s.body) c.branches.ensures.edits c.in-None.ensures.tip

pub returns-in-Some : goal.returns-in-Some
returns-in-Some c =
    rw c.body.ensures
    (body_by {A = Stem} c.branches.result.now.list c.args.self.now.edits c.args.rev.now
    (Some c.in-Some.stem.now) (λ s. c.args.rev.now) (λ s. s.deleted) (λ s. s.body)
    c.branches.ensures.edits c.in-Some.ensures.tip)
