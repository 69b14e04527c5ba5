-- The items of streams (CouchDB API reference, _changes and _db_updates).
use Rattle.std.specs.Prelude.{ℕ, ◌+◌, List, Bool, true, false, if◌then◌else◌}
use Rattle.hub_model.specs.RightlyHanded as handed
use Rattle.hub_model.specs.declared.feeds.Mode.{Mode}
use Rattle.hub_model.specs.declared.feeds.Item.TheVariants.{Row}
use Rattle.hub_http.specs.ChangeTexts.{change_row_text, change_end_text}
use Rattle.hub_http.specs.UpdateTexts.{update_row_text, update_end_text}
use Rattle.hub_http.specs.Items.{item_text}
use Rattle.hub_session.specs.StreamItem.{StreamItem, Change, Update}

-- whether the item is the end of its stream
abbrev pub is_end : StreamItem → Bool
is_end (Change item) = handed.is_end item
is_end (Update item) = handed.is_end item

-- whether the item is a row
abbrev pub is_row : StreamItem → Bool
is_row (Change (Row row)) = true
is_row (Update (Row row)) = true
is_row item = false

-- the number of rows before the next item, where so many came before this one
abbrev pub rows_after : ℕ → StreamItem → ℕ
rows_after rows item = if is_row item then rows + 1 else rows

-- the text of an item in a stream of the life of this number, before which so many rows came: each kind has
-- its own rows and its own end
abbrev pub stream_item_text : Mode → (life rows : ℕ) → StreamItem → List ℕ
stream_item_text mode life rows (Change item) = item_text change_row_text change_end_text mode rows life item
stream_item_text mode life rows (Update item) = item_text update_row_text update_end_text mode rows life item
