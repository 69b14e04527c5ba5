-- The rows of an index, where they are the current rows of edits (own; feeds by CouchDB API reference,
-- _changes and _db_updates).
use Rattle.std.specs.Prelude.{◌≡◌, ℕ, List, [], map, Option, Some, None}
use Rattle.hub_index.specs.Rows.{seq_of}
use Rattle.hub_model.specs.Current.{Current, current}
use Rattle.hub_model.specs.Journal.{Edit}

-- the id of an entry, which is an id and the sequence of its latest edit; the empty text without an entry
abbrev pub id_in : Option (List ℕ × ℕ) → List ℕ
id_in None = []
id_in (Some p) = p.0

-- a row of the index as a current row, with the id of its number
abbrev pub row_in : (ℕ → Option (List ℕ × ℕ)) → ℕ × ℕ → Current
row_in ids row = record { seq = row.0; id = id_in (ids row.1) }

-- `ids` gives numbers their ids, with the sequence of the latest edit of each. The rows are the current ones
-- of the edits. A number with an id has its row at its latest edit, and a number without an id has no row.
-- With edits of a, b and a again, where a has the number 0 and b the number 1, the rows are (2, 1) and
-- (3, 0).
pub record IsIndexed (ids : ℕ → Option (List ℕ × ℕ)) (journal : List Edit) (index : List (ℕ × ℕ)) : Type 0
  where
    pub rows : map (row_in ids) index ≡ current journal
    pub key : (k : ℕ) (p : List ℕ × ℕ) → ids k ≡ Some p → seq_of k index ≡ Some p.1
    pub none : (k : ℕ) → ids k ≡ None → seq_of k index ≡ None
