use Rattle.hub_revtree.proofs.AncestorLemmas.{low_at}
use Rattle.hub_revtree.proofs.leaf.is_leaf_below.Goals as goal

pub returns-then-generation : goal.returns-then-generation
returns-then-generation c =
    low_at c.args.generation c.args.branches.now.list c.args.at c.head-head.result c.head-head.ensures
    (rw c.generation.ensures.value at c.if-generation.true) c.is_head_inner.result
    (c.is_head_inner.ensures c.head-head.result c.head-head.ensures)
