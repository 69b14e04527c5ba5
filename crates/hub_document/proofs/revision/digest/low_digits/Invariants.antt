use Rattle.std.proofs.Common.{◌≡◌, ◌<◌, ◌%◌, ℕ, length, slice_index}
use Rattle.hex.specs.Hex.{lower_digits}
use Rattle.hub_document.proofs.revision.digest.low_digits.Given as goal

abbrev pub invariant-loop-at : goal.invariant-loop-at
invariant-loop-at l = record {
  long : length l.digits ≡ 16;
  each : (i : ℕ) → i < l.at → slice_index l.digits i ≡ slice_index lower_digits (slice_index l.digest i % 16);
}
