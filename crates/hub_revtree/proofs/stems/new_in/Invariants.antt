use Rattle.std.proofs.Common.{◌≡◌, length, take}
use Rattle.hub_revtree.proofs.CountLemmas.{new_of}
use Rattle.hub_revtree.proofs.stems.new_in.Given as goal

abbrev pub invariant-loop-at : goal.invariant-loop-at
invariant-loop-at l = l.count ≡ length (new_of (take l.number l.stems) (take l.at l.run))
