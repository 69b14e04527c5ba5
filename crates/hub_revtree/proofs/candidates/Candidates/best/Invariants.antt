use Rattle.std.proofs.Common.{◌≡◌, length}
use Rattle.std.specs.BinaryHeap.{heap_len}
use Rattle.hub_revtree.specs.Candidates.{AreCandidates}
use Rattle.hub_revtree.proofs.candidates.Candidates.best.Given as goal

abbrev pub invariant-loop-top : goal.invariant-loop-top
invariant-loop-top l = record {
  candidates : AreCandidates l.branches.list l.self;
  all : l.self.count ≡ length l.branches.list;
}

abbrev pub decreases-loop-top : goal.decreases-loop-top
decreases-loop-top l = heap_len l.self.heap
