use Rattle.std.proofs.Common.{length, ◌-◌, ◌≤◌}
use Rattle.hub_revtree.proofs.MeetLemmas.{Agrees}
use Rattle.hub_revtree.proofs.branches.Branches.new_count.Given as goal

abbrev pub invariant-loop-at : goal.invariant-loop-at
invariant-loop-at l = record {
  agrees : Agrees l.self.stems l.revisions l.at l.told;
  kept : l.kept ≤ l.at;
}

abbrev pub decreases-loop-at : goal.decreases-loop-at
decreases-loop-at l = length l.revisions - l.at
