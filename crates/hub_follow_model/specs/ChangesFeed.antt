-- The answer of a source to a follower that asks for changes: all items that a normal feed of every leaf has
-- handed, its end included. (CouchDB Replication Protocol, listen to changes feed.)
use Rattle.std.specs.List.{list_any}
use Rattle.std.specs.Prelude.{◌≡◌, true, ℕ, List, [], ◌∷◌, ◌++◌, length, map, false, Some}
use Rattle.hub_model.specs.declared.feeds.Item.TheVariants.{Row, End}
use Rattle.hub_model.specs.declared.feeds.Mode.TheVariants.{Normal}
use Rattle.hub_model.specs.declared.feeds.Since.{Since}
use Rattle.hub_model.specs.declared.feeds.Since.TheVariants.{Plain}
use Rattle.hub_model.specs.declared.feeds.Style.TheVariants.{AllDocs}
use Rattle.hub_model.specs.Feed.{Params, Feed, Ended}
use Rattle.hub_model.specs.Filter.{Everything}
use Rattle.hub_model.specs.Journal.{Edit}
use Rattle.hub_model.specs.RightlyHanded.{ChangeItem, is_end, RightlyHanded}
use Rattle.hub_model.specs.RowKind.{change_rows}
use Rattle.hub_model.specs.Row.{ChangeRow}

-- the parameters of a follower's feed: every leaf of the documents above a sequence, 100 rows at most (the
-- number is own)
abbrev pub params_from : Since → Params
params_from since =
    record {
      mode = Normal;
      since = since;
      limit = Some 100;
      style = AllDocs;
      include_docs = false;
      filter = Everything;
      heartbeat = false;
    }

-- these parameters, above a sequence as its source counts it
abbrev pub params_after : ℕ → Params
params_after since = params_from (Plain since)

-- a feed with these parameters after its End, which names `last`
abbrev pub ended_feed : (since last rows : ℕ) → Feed
ended_feed since last rows =
    record {
      params = params_after since;
      since = since;
      bound = Some last;
      place = last;
      rows = rows;
      status = Ended;
    }

-- these rows and then the End
abbrev pub items_of : List ChangeRow → (last pending : ℕ) → List ChangeItem
items_of rows last pending = map (λ row. Row row) rows ++ End last pending ∷ []

-- The items are an answer of these rows: the rows and their End are rightly handed while this is the journal.
-- So each row is that of a current document between `since` and `last`, none is left out, and each lists
-- every leaf. After a, b, c and then a again, the answer since 1 has the rows of b, c and a, and 4 as its
-- last sequence.
abbrev pub IsChangesAnswer : List Edit → ℕ → List ChangeItem → List ChangeRow → ℕ → Type 0
IsChangesAnswer journal since items rows last =
    (pending : ℕ) × (items ≡ items_of rows last pending)
    × RightlyHanded change_rows journal (ended_feed since last (length rows)) items

-- some items are an answer of these rows
abbrev pub HasChangesAnswer : List Edit → ℕ → List ChangeRow → ℕ → Type 0
HasChangesAnswer journal since rows last =
    (pending : ℕ)
    × RightlyHanded change_rows journal (ended_feed since last (length rows)) (items_of rows last pending)

-- the law: the items that a feed with a follower's parameters has handed once it ended are an answer
abbrev pub EndedFeedIsAnswer : Type 0
EndedFeedIsAnswer =
    (journal : List Edit) (feed : Feed) (since : Since) (items : List ChangeItem)
    → feed.params ≡ params_from since
    → RightlyHanded change_rows journal feed items → list_any is_end items ≡ true
    → (rows : List ChangeRow) × (pending : ℕ) × (items ≡ items_of rows feed.place pending)
    × HasChangesAnswer journal feed.since rows feed.place
