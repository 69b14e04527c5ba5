use Rattle.std.proofs.Common.{◌≡◌, map, take}
use Rattle.hex.specs.Hex.{encode_lower}
use Rattle.hub_revtree.proofs.run.digests_of.Given as goal

abbrev pub invariant-loop-rev : goal.invariant-loop-rev
invariant-loop-rev l = map encode_lower l.digests.items ≡ map (λ r. r.hash) (take l.rev-index l.revisions)
