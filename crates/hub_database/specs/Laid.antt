-- A current row lies at one of the journal's edits (own).
use Rattle.std.specs.Prelude.{◌≤◌, List, length, Contains}
use Rattle.std.proofs.Common.{arith}
use Rattle.hub_model.specs.Current.{Current, current}
use Rattle.hub_model.specs.Journal.{Edit}
use Rattle.hub_model.proofs.Rows.{current_within}

-- the row's sequence is at most the number of edits
pub rows_below : (journal : List Edit) (row : Current) → Contains (current journal) row
    → row.seq ≤ length journal
rows_below journal row h = let w = current_within 1 journal row h in omega (arith, w.1)
