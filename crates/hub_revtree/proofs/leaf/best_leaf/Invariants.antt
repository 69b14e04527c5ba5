use Rattle.std.proofs.Common.{◌≡◌, drop}
use Rattle.std.specs.Prelude.{option_and_then, slice_get}
use Rattle.hub_revtree.specs.Winner.{head_in}
use Rattle.hub_revtree.proofs.LeafLemmas.{best_of}
use Rattle.hub_revtree.proofs.leaf.best_leaf.Given as goal

abbrev pub invariant-loop-at : goal.invariant-loop-at
invariant-loop-at l =
    (best_of l.branches.list (drop l.at l.branches.list) ≡ l.best)
    × (option_and_then head_in (slice_get l.branches.list l.number) ≡ l.best)
