use Rattle.std.proofs.Common.{◌≡◌, ◌≤◌, ◌-◌, length, take, false}
use Rattle.std.specs.List.{list_any}
use Rattle.hub_revtree.specs.Stem.{has_revision}
use Rattle.hub_revtree.proofs.branches.Branches.met_by.Given as goal

abbrev pub invariant-loop-at : goal.invariant-loop-at
invariant-loop-at l = record {
  kept : l.at ≤ length l.path;
  fresh : l.joins ≡ false → list_any (has_revision l.self.stems) (take l.at l.path) ≡ false;
}

abbrev pub decreases-loop-at : goal.decreases-loop-at
decreases-loop-at l = length l.path - l.at
