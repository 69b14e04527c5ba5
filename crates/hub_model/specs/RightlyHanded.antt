-- The lists of items that a feed may have handed by the time that its source has these edits. The source is
-- the journal of a database, or the log of updates (CouchDB API reference, _changes and _db_updates).
use Rattle.std.specs.Prelude.{◌≡◌, ℕ, ◌<◌, ◌≤◌, List, [], ◌∷◌, length, map, take, max, All, AllPairs}
use Rattle.std.specs.Prelude.{Contains, IsTrue, IfSome, ⊤, Bool, true, false}
use Rattle.std.specs.List.{list_any}
use Rattle.hub_model.specs.Journal.{Edit}
use Rattle.hub_model.specs.Current.{Current, current}
use Rattle.hub_model.specs.Row.{ChangeRow}
use Rattle.hub_model.specs.RowKind.{RowKind}
use Rattle.hub_model.specs.Filter.{is_passing}
use Rattle.hub_model.specs.Feed.{Feed, Open, is_over}
use Rattle.hub_model.specs.declared.feeds.Item.{Item}
use Rattle.hub_model.specs.declared.feeds.Item.TheVariants.{Row, Beat, End}

-- an item of a feed of changes
abbrev pub ChangeItem : Type 0
ChangeItem = Item ChangeRow

-- whether the item is the End
abbrev pub is_end : {R : Type 0} → Item R → Bool
is_end (Row row) = false
is_end Beat = false
is_end (End last_seq pending) = true

-- the rows among the items
abbrev pub rows_of : {R : Type 0} → List (Item R) → List R
rows_of [] = []
rows_of (Row row ∷ items) = row ∷ rows_of items
rows_of (Beat ∷ items) = rows_of items
rows_of (End last_seq pending ∷ items) = rows_of items

-- An End stands last, and names the place. A row and then an End at 8 end at place 8. An End at 8 and then a
-- row do not, nor does an End at 7. A list without an End ends at each place.
abbrev pub EndsAt : {R : Type 0} → ℕ → List (Item R) → Type 0
EndsAt place [] = ⊤
EndsAt place (Row row ∷ items) = EndsAt place items
EndsAt place (Beat ∷ items) = EndsAt place items
EndsAt place (End last_seq pending ∷ items) = (last_seq ≡ place) × (items ≡ [])

-- a Beat is handed only where a heartbeat is asked for
abbrev pub IsAsked : {R : Type 0} → Bool → Item R → Type 0
IsAsked heartbeat (Row row) = ⊤
IsAsked heartbeat Beat = heartbeat ≡ true
IsAsked heartbeat (End last_seq pending) = ⊤

-- for rows of one kind
module _ {R : Type 0} (kind : RowKind R) where
  -- the sequences of the rows among the items
  abbrev pub seqs_of : List (Item R) → List ℕ
  seqs_of items = map kind.seq (rows_of items)

  -- Row s may be handed after row r. The row at 4 seen at 10 may follow the row at 3 seen at 8 (proved:
  -- `BoundHolds`). The row at 2 may not, nor may the row at 4 seen at 7.
  pub record Follows (r s : R) : Type 0 where
    pub rises : kind.seq r < kind.seq s
    pub later : kind.seen r ≤ kind.seen s

  -- the row shows a current row of these edits, which passes the feed's filter
  abbrev pub IsPassingRow : List Edit → Feed → R → Type 0
  IsPassingRow journal feed row = (c : Current) × Contains (current journal) c
      × (row ≡ kind.shown journal feed.params.style feed.params.include_docs c)
      × IsTrue (is_passing feed.params.filter c.id)

  -- The feed may have handed the row: it was current in the first `seen` edits, passes, and lies above since
  -- and not above the place or the bound. After edits of a, b and then a again, take a feed after 0 with
  -- place 1. It may have handed the row of a at 1 with seen 1, but not with seen 3, since the row of a is at
  -- 3 by then.
  pub record IsRowOf (journal : List Edit) (feed : Feed) (row : R) : Type 0 where
    pub shown : IsPassingRow (take (kind.seen row) journal) feed row
    pub above : feed.since < kind.seq row
    pub reached : kind.seq row ≤ feed.place
    pub bounded : IfSome feed.bound (λ bound. kind.seq row ≤ bound)

  -- The whole list is right for the feed: nothing in it is wrong, and no row up to the place is left out.
  -- Take edits of a, b and then a again, and a feed after 0 with place 3. The rows of b at 2 and of a at 3
  -- are right (proved: `AgainIsLater`). The row at 3 alone is not, since the row at 2 is left out. With place
  -- 1 the empty list is right.
  pub record RightlyHanded (journal : List Edit) (feed : Feed) (items : List (Item R)) : Type 0 where
    pub rising : AllPairs Follows (rows_of items)
    pub rows : All (IsRowOf journal feed) (rows_of items)
    pub from_since : feed.since ≤ feed.place
    pub to_length : feed.place ≤ length journal
    pub ends : EndsAt feed.place items
    -- no current row that passes is left out between since and the place
    pub whole : (row : Current) → Contains (current journal) row → IsTrue (is_passing feed.params.filter row.id)
        → feed.since < row.seq
        → row.seq ≤ feed.place → Contains (seqs_of items) row.seq
    pub limited : IfSome feed.params.limit (λ limit. length (rows_of items) ≤ max 1 limit)
    pub beats : All (IsAsked feed.params.heartbeat) items

  -- The list fits the feed: it is rightly handed, and the feed's own numbers agree with it. So two rows fit a
  -- feed with rows 2 and a limit of 2 that is ending. They fit no feed with rows 1, and no feed with this
  -- limit that is still open.
  pub record Fits (journal : List Edit) (feed : Feed) (items : List (Item R)) : Type 0 where
    pub right : RightlyHanded journal feed items
    pub counted : length (rows_of items) ≡ feed.rows
    pub fewer : feed.status ≡ Open → IfSome feed.params.limit (λ limit. feed.rows < max 1 limit)
    pub over : list_any is_end items ≡ true → is_over feed.status ≡ true
    pub bounded : IfSome feed.bound (λ bound. (feed.place ≤ bound) × (bound ≤ length journal))
