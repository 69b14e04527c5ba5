-- The texts of a feed's items, for rows of any kind (CouchDB API reference, _changes and _db_updates; own for
-- the separators of rows).
use Rattle.std.specs.Prelude.{ℕ, zero, suc, List, [], ◌++◌, codes}
use Rattle.hub_model.specs.declared.feeds.Mode.{Mode}
use Rattle.hub_model.specs.declared.feeds.Mode.TheVariants.{Normal, Longpoll, Continuous}
use Rattle.hub_model.specs.declared.feeds.Item.{Item}
use Rattle.hub_model.specs.declared.feeds.Item.TheVariants.{Row, Beat, End}

-- the text in a list before a row, where so many rows stand before it
unfoldable pub separator : ℕ → List ℕ
separator zero = []
separator (suc n) = codes ",\n"

-- the text before a row, where so many rows came before: a continuous feed is no list
unfoldable pub before_row : Mode → ℕ → List ℕ
before_row Normal n = separator n
before_row Longpoll n = separator n
before_row Continuous n = []

-- the text after a row: each row of a continuous feed is a line
unfoldable pub after_row : Mode → List ℕ
after_row Normal = []
after_row Longpoll = []
after_row Continuous = codes "\n"

-- the text before the members that end a feed: the end of the list of rows, or without a list a brace
unfoldable pub before_end : Mode → List ℕ
before_end Normal = codes "\n],\n"
before_end Longpoll = codes "\n],\n"
before_end Continuous = codes "{"

-- The text of an item, before which the feed wrote `rows_before` rows. `row_text` and `end_text` have the
-- texts of a row and of a feed's end, in the life of a number.
abbrev pub item_text : {R : Type 0} → (ℕ → R → List ℕ) → (ℕ → ℕ → ℕ → List ℕ) → Mode
    → (rows_before life : ℕ) → Item R → List ℕ
item_text row_text end_text mode rows_before life (Row row) =
    before_row mode rows_before ++ (row_text life row ++ after_row mode)
item_text row_text end_text mode rows_before life Beat = codes "\n"
item_text row_text end_text mode rows_before life (End last_seq pending) =
    before_end mode ++ end_text life last_seq pending

-- the text at the head of a feed: a continuous one has none
abbrev pub feed_head : Mode → List ℕ
feed_head Normal = codes "{\"results\":[\n"
feed_head Longpoll = codes "{\"results\":[\n"
feed_head Continuous = []
