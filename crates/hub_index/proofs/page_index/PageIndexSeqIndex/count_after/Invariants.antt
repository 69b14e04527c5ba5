use Rattle.std.proofs.Common.{◌≡◌, ℕ, ◌+◌, drop, count_by, nat_lt}
use Rattle.hub_index.specs.Pages.{rows_of}
use Rattle.hub_index.proofs.page_index.PageIndexSeqIndex.count_after.Given as goal

abbrev pub invariant-loop-at : goal.invariant-loop-at
invariant-loop-at l =
    l.count + count_by (λ (row : ℕ × ℕ). nat_lt l.fn.place row.0) (rows_of (drop l.at l.pages))
    ≡ count_by (λ (row : ℕ × ℕ). nat_lt l.fn.place row.0) (rows_of l.pages)
