use Rattle.std.proofs.Common.{◌≡◌, drop}
use Rattle.hub_follower.specs.Handed.{same_revs}
use Rattle.hub_follower.proofs.same_row.same_revs.Given as goal

-- the revisions so far are the same, so the later revisions decide
abbrev pub invariant-loop-at : goal.invariant-loop-at
invariant-loop-at l = same_revs (drop l.at l.revs) (drop l.at l.others) ≡ same_revs l.revs l.others
