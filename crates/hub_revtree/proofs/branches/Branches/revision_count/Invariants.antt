use Rattle.std.proofs.Common.{◌≡◌, ◌-◌, ◌^◌, [], min, take}
use Rattle.hub_revtree.proofs.CountLemmas.{brought_after}
use Rattle.hub_revtree.proofs.branches.Branches.revision_count.Given as goal

abbrev pub invariant-loop-number : goal.invariant-loop-number
invariant-loop-number l = l.count ≡ min (brought_after [] (take l.number l.stems)) (2 ^ 64 - 1)
