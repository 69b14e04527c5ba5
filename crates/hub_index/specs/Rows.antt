-- The rows of a feed: sequences, each with the number of the document whose latest edit stands there (CouchDB
-- API reference, _changes).
use Rattle.std.specs.Prelude.{◌≢◌, ℕ, ◌<◌, List, [], ◌∷◌, ◌++◌, Bool, not, ◌&&◌, nat_eq, nat_lt, nat_le}
use Rattle.std.specs.Prelude.{Option, Some, None, option_map, find, filter, reverse, count_by}
use Rattle.std.specs.List.{All, AllPairs}

-- Of two rows the earlier one has the lower sequence, and another document. Sequences begin at 1. (2, 1),
-- (3, 0) are such rows. (3, 0), (2, 1) are not, and neither are (2, 1), (3, 1).
pub record IsIndex (rows : List (ℕ × ℕ)) : Type 0 where
  pub rising : AllPairs (λ (row other_row : ℕ × ℕ). row.0 < other_row.0) rows
  pub once : AllPairs (λ (row other_row : ℕ × ℕ). row.1 ≢ other_row.1) rows
  pub positive : All (λ (third_row : ℕ × ℕ). 0 < third_row.0) rows

-- the sequence of a document's row
abbrev pub seq_of : ℕ → List (ℕ × ℕ) → Option ℕ
seq_of document rows =
    option_map (λ (row : ℕ × ℕ). row.0) (find (λ (row : ℕ × ℕ). nat_eq row.1 document) rows)

-- The rows of the other documents, and then a row of this document. From (1, 0), (2, 1), a move of document 0
-- to 3 gives (2, 1), (3, 0).
abbrev pub rows_after_move : List (ℕ × ℕ) → ℕ → ℕ → List (ℕ × ℕ)
rows_after_move rows document seq = filter (λ (row : ℕ × ℕ). not (nat_eq row.1 document)) rows ++ (seq, document) ∷ []

-- whether a sequence lies above the place, and not above the bound
abbrev pub is_within : ℕ → Option ℕ → ℕ → Bool
is_within place None seq = nat_lt place seq
is_within place (Some bound) seq = nat_lt place seq && nat_le seq bound

-- The first row above the place and not above the bound. Of rows at 2, 6 and 9, for place 3 and bound 8, it
-- is the row at 6. For bound 5 there is none.
abbrev pub next_after : List (ℕ × ℕ) → ℕ → Option ℕ → Option (ℕ × ℕ)
next_after rows place bound = find (λ (row : ℕ × ℕ). is_within place bound row.0) rows

-- the last row below the place
abbrev pub last_before : List (ℕ × ℕ) → ℕ → Option (ℕ × ℕ)
last_before rows place = find (λ (row : ℕ × ℕ). nat_lt row.0 place) (reverse rows)

-- the number of rows above the place
abbrev pub count_after : List (ℕ × ℕ) → ℕ → ℕ
count_after rows place = count_by (λ (row : ℕ × ℕ). nat_lt place row.0) rows
