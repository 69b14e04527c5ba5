use Rattle.std.proofs.Common.{sym, ◌∙◌}
use Rattle.hub_revtree.proofs.TreeLemmas.{rev_tree}
use Rattle.hub_revtree.proofs.tree.RevTree.best.Goals as goal

pub returns-clause-best : goal.returns-clause-best
returns-clause-best c = rw (sym c.self.view_is) (c.head_if_any.ensures ∙ c.self.invariant.first)

pub returns-clause-tree : goal.returns-clause-tree
returns-clause-tree c = rw (sym c.self.view_is) (rev_tree _ c.self.invariant.legal)
