-- A current row of a log lies at one of its notes (own).
use Rattle.std.specs.Prelude.{◌≤◌, List, length, Contains}
use Rattle.std.proofs.Common.{arith}
use Rattle.std.proofs.lemmas.List.{length-map}
use Rattle.hub_model.specs.Current.{Current, current}
use Rattle.hub_model.specs.Updates.{Note, edit_of, edits_of_log}
use Rattle.hub_model.proofs.Rows.{current_within}

-- the row's sequence is at most the number of notes
pub rows_below : (notes : List Note) (row : Current) → Contains (current (edits_of_log notes)) row
    → row.seq ≤ length notes
rows_below notes row h =
    let w = current_within 1 (edits_of_log notes) row h in omega (arith, w.1, length-map notes edit_of)
