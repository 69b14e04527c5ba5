use Rattle.std.proofs.Common.{◌≡◌, take}
use Rattle.hub_revtree.specs.Branch.{unnamed_in}
use Rattle.hub_revtree.proofs.branches.unnamed.Given as goal

abbrev pub invariant-loop-rev : goal.invariant-loop-rev
invariant-loop-rev l = l.found.items ≡ unnamed_in l.branches.list (take l.rev-index l.revs)
