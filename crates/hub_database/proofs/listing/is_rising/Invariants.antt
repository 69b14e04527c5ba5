-- The sequences that were looked at rise.
use Rattle.std.proofs.Common.{ℕ, ◌+◌, ◌-◌, ◌<◌, ◌≤◌, length, slice_index}
use Rattle.hub_database.proofs.listing.is_rising.Given as goal

abbrev pub decreases-loop-at : goal.decreases-loop-at
decreases-loop-at l = length l.list - l.at

abbrev pub invariant-loop-at : goal.invariant-loop-at
invariant-loop-at l = (1 ≤ l.at) × ((k : ℕ) → k + 1 < l.at → slice_index l.list k < slice_index l.list (k + 1))
