use Rattle.std.proofs.Common.{◌≡◌, ◌*◌, ◌++◌, drop, take}
use Rattle.hex.specs.Hex.{encode_lower}
use Rattle.hub_document.proofs.revision.digest.write_digits.Given as goal

abbrev pub invariant-loop-at : goal.invariant-loop-at
invariant-loop-at l =
    take (2 * l.at) l.letters ++ encode_lower (drop l.at l.digest) ≡ encode_lower l.digest
