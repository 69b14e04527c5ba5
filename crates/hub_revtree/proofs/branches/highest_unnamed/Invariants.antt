use Rattle.std.proofs.Common.{◌≡◌, max, drop}
use Rattle.hub_model.specs.Missing.{highest as highest_of}
use Rattle.hub_revtree.specs.Branch.{unnamed_in}
use Rattle.hub_revtree.proofs.branches.highest_unnamed.Given as goal

abbrev pub invariant-loop-rev : goal.invariant-loop-rev
invariant-loop-rev l =
    max l.highest (highest_of (unnamed_in l.branches.list (drop l.rev-index l.revs)))
    ≡ highest_of (unnamed_in l.branches.list l.revs)
