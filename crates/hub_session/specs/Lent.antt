-- The items of streams, as they are lent (own).
use Rattle.hub_session.specs.StreamItem.{StreamItem}
use Rattle.hub_session.specs.declared.item.LentItem.{LentItem}
use Rattle.hub_session.specs.declared.item.LentItem.TheVariants.{Change, Update}

-- the item that is lent
abbrev pub lent_in : LentItem → StreamItem
lent_in (Change item) = StreamItem.Change item.now
lent_in (Update item) = StreamItem.Update item.now
