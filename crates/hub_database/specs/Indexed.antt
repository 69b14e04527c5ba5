-- The rows of a database by sequence (own).
use Rattle.std.specs.Prelude.{◌≡◌, ◌<◌, ℕ, List, slice_get, Option, option_map}
use Rattle.std.specs.List.{All}
use Rattle.hub_index.specs.Indexed as indexed
use Rattle.hub_index.specs.Rows.{seq_of}
use Rattle.hub_database.specs.declared.entry.Entry.{Entry}
use Rattle.hub_database.specs.Filed.{FiledDocument, journal_of}

-- a document's id, with the sequence of its latest edit
abbrev pub latest_of : FiledDocument → List ℕ × ℕ
latest_of filed = (filed.id, filed.latest)

-- the id and the latest sequence of the document of this number, if there is one
abbrev pub latest_at : List FiledDocument → ℕ → Option (List ℕ × ℕ)
latest_at documents k = option_map latest_of (slice_get documents k)

-- The rows are the journal's current rows: a document's row lies at its latest edit, and each row is of a
-- document. Let a be document 0 and b document 1. Where a was edited, then b, then a again, the rows are
-- (2, 1) and (3, 0).
abbrev pub IsIndexed : List FiledDocument → List Entry → List (ℕ × ℕ) → Type 0
IsIndexed documents entries index =
    indexed.IsIndexed (latest_at documents) (journal_of documents entries) index

-- The row of the document of this number may move to the end, to this sequence. The row is at `latest` now,
-- or there is none, and each row lies below the sequence. Of rows (2, 1) and (3, 0) the row of document 1
-- may move from 2 to 4, and not to 3.
pub record IsMovable (number : ℕ) (latest : Option ℕ) (seq : ℕ) (rows : List (ℕ × ℕ)) : Type 0 where
  pub own : seq_of number rows ≡ latest
  pub above : All (λ (r : ℕ × ℕ). r.0 < seq) rows
