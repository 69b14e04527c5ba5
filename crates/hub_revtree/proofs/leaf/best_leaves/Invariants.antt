use Rattle.std.proofs.Common.{◌≡◌, drop, reverse}
use Rattle.hub_revtree.proofs.LeafLemmas.{found_of}
use Rattle.hub_revtree.proofs.leaf.best_leaves.Given as goal

abbrev pub invariant-loop-at : goal.invariant-loop-at
invariant-loop-at l = l.leaves.items ≡ reverse (found_of l.branches.list (drop l.at l.branches.list))
