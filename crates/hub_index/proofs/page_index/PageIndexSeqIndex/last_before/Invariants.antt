use Rattle.std.proofs.Common.{◌≡◌, ℕ, ◌≤◌, length, take, find, reverse, nat_lt}
use Rattle.hub_index.specs.Pages.{rows_of}
use Rattle.hub_index.proofs.page_index.PageIndexSeqIndex.last_before.Given as goal

abbrev pub invariant-loop-at : goal.invariant-loop-at
invariant-loop-at l = record {
  within : l.at ≤ length l.pages;
  rest : find (λ (row : ℕ × ℕ). nat_lt row.0 l.fn.place) (reverse (rows_of l.pages))
      ≡ find (λ (row : ℕ × ℕ). nat_lt row.0 l.fn.place) (reverse (rows_of (take l.at l.pages)));
}

-- proposed from the loop's first test
abbrev pub decreases-loop-at : goal.decreases-loop-at
decreases-loop-at l = l.at
