-- The lists that fit a feed of a database (own; CouchDB API reference, _changes).
use Rattle.std.specs.Prelude.{ℕ, List}
use Rattle.hub_model.specs.Feed.{Feed, Params}
use Rattle.hub_model.specs.Journal.{Edit, IsLegal}
use Rattle.hub_model.specs.RightlyHanded.{ChangeItem}
use Rattle.hub_model.specs.RowKind.{change_rows}
use Rattle.hub_feed.specs.Handing as handing

-- the list fits the feed while this is the journal, and a database can have this journal
abbrev pub IsFitting : List Edit → Feed → List ChangeItem → Type 0
IsFitting journal feed items = handing.IsFitting change_rows IsLegal journal feed items

-- the list is rightly handed, by these parameters and above this sequence, for some journal that a database
-- can have, some place and some bound
abbrev pub IsRightFor : Params → ℕ → List ChangeItem → Type 0
IsRightFor params since items = handing.IsRightFor change_rows IsLegal params since items
