use Rattle.std.proofs.Common.{◌≡◌, ℕ, drop, find, nat_le}
use Rattle.hub_index.specs.Pages.{slot_rows}
use Rattle.hub_index.proofs.page.first_from.Given as goal

abbrev pub invariant-loop-at : goal.invariant-loop-at
invariant-loop-at l =
    find (λ (row : ℕ × ℕ). nat_le l.from row.0) (slot_rows 0 l.slots)
    ≡ find (λ (row : ℕ × ℕ). nat_le l.from row.0) (slot_rows l.at (drop l.at l.slots))
