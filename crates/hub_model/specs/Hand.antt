-- The item that is due to a feed (CouchDB API reference, _changes).
use Rattle.std.specs.Prelude.{List, Option, Some, None}
use Rattle.hub_model.specs.Journal.{Edit}
use Rattle.hub_model.specs.Current.{Current, current, pending}
use Rattle.hub_model.specs.Row.{ChangeRow}
use Rattle.hub_model.specs.RowKind.{RowKind, change_rows}
use Rattle.hub_model.specs.Feed.{Feed, Due, DueRow, DueEnd, DueNothing, DueGone, next_due}
use Rattle.hub_model.specs.declared.feeds.Item.{Item}
use Rattle.hub_model.specs.declared.feeds.Item.TheVariants.{Row, End}

-- The item of the step that is due, over these current rows. `show` makes the row that is handed out of a
-- current row. An End counts the current rows above it: with current rows at 3 and 5, an End at 3 has 1
-- pending.
abbrev pub item_of_due : {R : Type 0} → (Current → R) → List Current → Due → Option (Item R)
item_of_due show rows (DueRow c) = Some (Row (show c))
item_of_due show rows (DueEnd last_seq) = Some (End last_seq (pending rows last_seq))
item_of_due show rows DueNothing = None
item_of_due show rows DueGone = None

-- the step that is due to a feed over a journal
abbrev pub journal_due : List Edit → Feed → Due
journal_due journal feed = next_due (current journal) feed

-- The item that is due to a feed over these edits, if there is one. After edits of a, b and then a again the
-- row of b at 2 is due to a new normal feed after 0. Once the feed handed the row of a at 3, an End at 3 with
-- 0 pending is due (proved: `AgainIsLater`).
abbrev pub next_item : {R : Type 0} → RowKind R → List Edit → Feed → Option (Item R)
next_item kind journal feed =
    item_of_due (kind.shown journal feed.params.style feed.params.include_docs) (current journal)
    (journal_due journal feed)

-- the item that is due to a feed of a database's changes, if there is one
abbrev pub next_change : List Edit → Feed → Option (Item ChangeRow)
next_change journal feed = next_item change_rows journal feed
