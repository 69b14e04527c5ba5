use Rattle.std.proofs.Common.{◌≡◌, length}
use Rattle.hub_follower.specs.Rebuilt.{IsRebuilt}
use Rattle.hub_follower.proofs.rebuilt.rebuild.Given as goal

-- the copy holds the edits so far
abbrev pub invariant-loop-count : goal.invariant-loop-count
invariant-loop-count l = record {
  copy : IsRebuilt l.db.journal l.copy;
  count : length l.copy.journal ≡ l.count;
}
