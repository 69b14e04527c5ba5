use Rattle.std.proofs.Common.{sym, Some, None}
use Rattle.hub_revtree.specs.Stem.{Stem}
use Rattle.hub_revtree.proofs.TreeLemmas.{marks}
use Rattle.hub_revtree.proofs.tree.RevTree.deleted.Goals as goal

pub returns-in-None-clause-none : goal.returns-in-None-clause-none
returns-in-None-clause-none c =
    rw (sym c.self.view_is)
    (marks {A = Stem} c.self.inside.branches.list c.args.rev.now None (λ s. c.args.rev.now) (λ s. s.deleted)
    (λ s. s.body) c.in-None.ensures.tip).1

pub returns-in-Some-clause-mark : goal.returns-in-Some-clause-mark
returns-in-Some-clause-mark c =
    rw (c.deleted.ensures, c.mark.ensures.deletes, sym c.self.view_is)
    (marks {A = Stem} c.self.inside.branches.list c.args.rev.now (Some c.in-Some.stem.now)
    (λ s. c.args.rev.now) (λ s. s.deleted) (λ s. s.body) c.in-Some.ensures.tip).0
