use Rattle.std.proofs.Common.{[]}
use Rattle.hub_model.specs.Leaves.{with_leaf}
use Rattle.hub_revtree.specs.Branch.{edit_of, edits_in}
use Rattle.hub_revtree.specs.Winner.{has_below}
use Rattle.hub_revtree.proofs.AncestorLemmas.{none_at, some_at}
use Rattle.hub_revtree.proofs.leaf.has_leaf_below.Goals as goal

pub returns-then-is_leaf_below : goal.returns-then-is_leaf_below
returns-then-is_leaf_below c =
    some_at (λ b.
    has_below c.args.generation (with_leaf (edits_in c.args.branches.now.list) (edit_of b) b.path []))
    c.args.branches.now.list c.loop-at.at c.is_leaf_below.result
    c.is_leaf_below.ensures c.if-is_leaf_below.true

pub loop-at-preserved : goal.loop-at-preserved
loop-at-preserved c =
    none_at (λ b.
    has_below c.args.generation (with_leaf (edits_in c.args.branches.now.list) (edit_of b) b.path []))
    c.args.branches.now.list c.loop-at.at c.is_leaf_below.result c.is_leaf_below.ensures
    c.if-is_leaf_below.false c.loop-at.invariant
