use Rattle.std.proofs.Common.{◌≡◌, drop}
use Rattle.hub_follower.specs.Handed.{end_of}
use Rattle.hub_follower.proofs.handed.end_of.Given as goal

-- the items so far are rows
abbrev pub invariant-loop-at : goal.invariant-loop-at
invariant-loop-at l = end_of (drop l.at l.items) ≡ end_of l.items
