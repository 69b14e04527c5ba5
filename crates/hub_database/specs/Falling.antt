-- The parts of a descending answer (own).
use Rattle.std.specs.Prelude.{ℕ, List, [], ◌∷◌, max, Option, Some, None}
use Rattle.hub_model.specs.Row.{ChangeRow}

-- the most rows that are shown: the limit, where 0 acts as 1, or without a limit this length
abbrev pub most_of : Option ℕ → ℕ → ℕ
most_of None len = len
most_of (Some limit) len = max 1 limit

-- the lowest sequence of falling rows, or since where there is no row
abbrev pub lowest_row : ℕ → List ChangeRow → ℕ
lowest_row since [] = since
lowest_row since (row ∷ []) = row.seq
lowest_row since (row ∷ next ∷ rows) = lowest_row since (next ∷ rows)
