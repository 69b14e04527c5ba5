use Rattle.std.proofs.Common.{◌≡◌, ℕ, ◌≤◌, length, take, find, nat_lt, reverse}
use Rattle.hub_index.specs.Pages.{slot_rows}
use Rattle.hub_index.proofs.page.last_below.Given as goal

abbrev pub invariant-loop-at : goal.invariant-loop-at
invariant-loop-at l = record {
  within : l.at ≤ length l.slots;
  below : l.at ≤ l.fn.end;
  rest : find (λ (row : ℕ × ℕ). nat_lt row.0 l.fn.end) (reverse (slot_rows 0 l.slots))
      ≡ find (λ (row : ℕ × ℕ). nat_lt row.0 l.fn.end) (reverse (slot_rows 0 (take l.at l.slots)));
}

-- proposed from the loop's first test
abbrev pub decreases-loop-at : goal.decreases-loop-at
decreases-loop-at l = l.at
