-- The kinds of rows: rows of changes, and rows of updates (own; feeds by CouchDB API reference, _changes and
-- _db_updates).
use Rattle.std.specs.Prelude.{◌≡◌, ℕ, List, length, Bool, refl}
use Rattle.hub_model.specs.Journal.{Edit}
use Rattle.hub_model.specs.Current.{Current}
use Rattle.hub_model.specs.Row.{ChangeRow, row_of}
use Rattle.hub_model.specs.Updates.{UpdateRow, update_row_of}
use Rattle.hub_model.specs.declared.feeds.Style.{Style}

-- A kind of rows: how a current row is shown, and how the sequence and `seen` are read from the shown row. A
-- row of a database's changes is shown by row_of, and has both as members.
pub record RowKind (R : Type 0) : Type 0 where
  -- the row that shows a current row of these edits, in a style, with its document or without
  pub shown : List Edit → Style → Bool → Current → R
  pub seq : R → ℕ  -- the sequence of a row
  pub seen : R → ℕ  -- the number of edits when the row was made
  -- a shown row has the sequence of its current row, and `seen` is the number of the edits
  pub keeps : (edits : List Edit) (style : Style) (include_docs : Bool) (row : Current)
      → (seq (shown edits style include_docs row) ≡ row.seq)
      × (seen (shown edits style include_docs row) ≡ length edits)

-- the rows of a database's changes
abbrev pub change_rows : RowKind ChangeRow
change_rows = record {
  shown = row_of;
  seq = λ row. row.seq;
  seen = λ row. row.seen;
  keeps = λ edits style include_docs c. (refl, refl);
}

-- the rows of the log of updates
abbrev pub update_rows : RowKind UpdateRow
update_rows = record {
  shown = update_row_of;
  seq = λ row. row.seq;
  seen = λ row. row.seen;
  keeps = λ edits style include_docs c. (refl, refl);
}
