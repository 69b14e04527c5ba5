use Rattle.std.proofs.Common.{◌≡◌, [], false, take}
use Rattle.std.specs.List.{list_any}
use Rattle.hub_model.specs.Leaves.{with_leaf}
use Rattle.hub_revtree.specs.Branch.{edit_of, edits_in}
use Rattle.hub_revtree.specs.Winner.{has_below}
use Rattle.hub_revtree.proofs.leaf.has_leaf_below.Given as goal

abbrev pub invariant-loop-at : goal.invariant-loop-at
invariant-loop-at l =
    list_any (λ b. has_below l.generation (with_leaf (edits_in l.branches.list) (edit_of b) b.path []))
    (take l.at l.branches.list)
    ≡ false
