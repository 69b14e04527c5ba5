-- The items that streams hand to their subscribers (CouchDB API reference, _changes and _db_updates).
use Rattle.hub_model.specs.Row.{ChangeRow}
use Rattle.hub_model.specs.Updates.{UpdateRow}
use Rattle.hub_model.specs.declared.feeds.Item.{Item}

-- an item of a stream
pub data StreamItem : Type 0 where
  -- an item of a feed of changes of a database
  Change : Item ChangeRow → StreamItem
  -- an item of a feed of the log of updates
  Update : Item UpdateRow → StreamItem
