-- The lists that fit a feed over a source with these edits (own; CouchDB API reference, _changes and
-- _db_updates).
use Rattle.std.specs.Prelude.{◌≡◌, ℕ, List}
use Rattle.hub_model.specs.Feed.{Feed, Params}
use Rattle.hub_model.specs.Journal.{Edit}
use Rattle.hub_model.specs.RightlyHanded.{RightlyHanded, Fits}
use Rattle.hub_model.specs.RowKind.{RowKind}
use Rattle.hub_model.specs.declared.feeds.Item.{Item}

-- for rows of one kind; `allowed` says which edits a source may have
module _ {R : Type 0} (kind : RowKind R) (allowed : List Edit → Type 0) where
  -- the list fits the feed over these edits, and a source may have them
  pub record IsFitting (journal : List Edit) (feed : Feed) (items : List (Item R)) : Type 0 where
    pub legal : allowed journal
    pub fits : Fits kind journal feed items

  -- The list is rightly handed, by a feed with these parameters and this since, over some edits that a source
  -- may have. The place and the bound may be any. For a normal feed after 0 the rows of b at 2 and of a at 3
  -- are right, over edits of a, b and then a again. The row at 3 and then the row at 2 are right over no
  -- edits.
  pub record IsRightFor (params : Params) (since : ℕ) (items : List (Item R)) : Type 0 where
    pub edits : List Edit
    pub legal : allowed edits
    pub feed : Feed  -- the feed has the place and the bound
    pub asks : feed.params ≡ params
    pub begins : feed.since ≡ since
    pub right : RightlyHanded kind edits feed items
