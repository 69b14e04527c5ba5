use Rattle.std.proofs.Common.{◌≡◌, false, drop}
use Rattle.hub_revtree.specs.Stem.{has_revision}
use Rattle.hub_revtree.proofs.stems.place_of.Given as goal

abbrev pub invariant-loop-number : goal.invariant-loop-number
invariant-loop-number l = has_revision (drop l.number l.stems) l.rev ≡ false
