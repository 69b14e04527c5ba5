use Rattle.std.proofs.Common.{◌-◌, length}
use Rattle.hub_revtree.specs.Candidates.{AreCandidates}
use Rattle.hub_revtree.proofs.candidates.Candidates.add_newer.Given as goal

abbrev pub invariant-loop-self : goal.invariant-loop-self
invariant-loop-self l = AreCandidates l.branches.list l.self

abbrev pub decreases-loop-self : goal.decreases-loop-self
decreases-loop-self l = length l.branches.list - l.self.count
