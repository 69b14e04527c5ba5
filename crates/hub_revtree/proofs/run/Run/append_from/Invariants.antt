use Rattle.std.proofs.Common.{◌≡◌, ◌++◌, drop}
use Rattle.hub_revtree.proofs.run.Run.append_from.Given as goal

abbrev pub invariant-loop-place : goal.invariant-loop-place
invariant-loop-place l = l.line.items ++ drop l.place l.self ≡ l.initial.line.items ++ drop l.at l.self
