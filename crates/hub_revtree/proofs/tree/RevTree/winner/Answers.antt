use Rattle.std.proofs.Common.{sym, refl}
use Rattle.hub_revtree.proofs.TreeLemmas.{wins, none_wins}
use Rattle.hub_revtree.proofs.tree.RevTree.winner.Goals as goal

pub returns-in_err-winner-clause-none : goal.returns-in_err-winner-clause-none
returns-in_err-winner-clause-none c = (
  λ _. none_wins c.args.self.now.edits c.in_err-winner.ensures.tree (sym c.in_err-winner.ensures.best),
  λ _. rw c.from_residual.ensures refl,
)

pub returns-clause-winner : goal.returns-clause-winner
returns-clause-winner c =
    wins c.args.self.now.edits c.in_ok-winner.ensures.tree.legal c.in_ok-winner.winner
    (sym c.in_ok-winner.ensures.best)
