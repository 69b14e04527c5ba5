use Rattle.std.proofs.Common.{rules}
use Rattle.std.proofs.lemmas.List.Sorted.{answers_always}
use Rattle.hub_revtree.proofs.LeavesLemmas.{is_before, is_order, sorted_is}
use Rattle.hub_revtree.proofs.leaf.put_in_order.Goals as goal

pub returns : goal.returns
returns c = λ found is.
    sorted_is found c.args.leaves.now c.sort_unstable_by.new.self is c.sort_unstable_by.ensures.permutation
    (c.sort_unstable_by.ensures.sorted is_before is_order (answers_always _ _ _ (λ f a r g k. search rules)))
