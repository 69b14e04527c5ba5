-- A list of items that fits a feed still fits after each step of the feed. The laws hold for rows of any kind
-- (CouchDB API reference, _changes and _db_updates).
use Rattle.std.specs.Prelude.{◌≡◌, ◌≤◌, ℕ, List, [], ◌∷◌, ◌++◌, length, max, true, Some}
use Rattle.hub_model.specs.Journal.{Edit}
use Rattle.hub_model.specs.Feed.{Params, Feed, Open, DueNothing, new_feed}
use Rattle.hub_model.specs.Feed.{feed_after_due, after_nothing, is_beat_allowed, expired_feed}
use Rattle.hub_model.specs.Feed.{end, finished_feed}
use Rattle.hub_model.specs.Hand.{journal_due, next_item}
use Rattle.hub_model.specs.RowKind.{RowKind}
use Rattle.hub_model.specs.declared.feeds.Item.{Item}
use Rattle.hub_model.specs.declared.feeds.Item.TheVariants.{Beat}
use Rattle.hub_model.specs.RightlyHanded.{Fits, rows_of}

module _ {R : Type 0} (kind : RowKind R) where
  -- the empty list fits a feed that is opened, whatever the life of the edits
  abbrev pub OpenedFits : Type 0
  OpenedFits =
      (journal : List Edit) (params : Params) (life : ℕ)
      → Fits kind journal (new_feed params (length journal) life) []

  -- A list that fits a feed still fits after more edits. Where the row at 3 was handed and its document is
  -- edited again at 9, that row stays right: it was current when it was made.
  abbrev pub GrownFits : Type 0
  GrownFits =
      (journal edits : List Edit) (feed : Feed) (items : List (Item R)) → Fits kind journal feed items
      → Fits kind (journal ++ edits) feed items

  -- A list that fits a feed, with the item that is due at its end, fits the feed after it handed that item.
  -- Where the row at 6 is due to a feed at place 3, the list with that row at its end fits the feed at place
  -- 6.
  abbrev pub HandedFits : Type 0
  HandedFits =
      (journal : List Edit) (feed : Feed) (items : List (Item R)) (item : Item R)
      → next_item kind journal feed ≡ Some item
      → Fits kind journal feed items
      → Fits kind journal (feed_after_due feed (journal_due journal feed) (length journal)) (items ++ item ∷ [])

  -- A list that fits a feed still fits after the feed found nothing to hand. While there are 5 edits the
  -- feed's place is 5 then. Each row above since and up to 5 that passes was handed.
  abbrev pub WaitingFits : Type 0
  WaitingFits =
      (journal : List Edit) (feed : Feed) (items : List (Item R)) → journal_due journal feed ≡ DueNothing
      → Fits kind journal feed items → Fits kind journal (after_nothing feed (length journal)) items

  -- a list that fits a feed still fits with a heartbeat at the end, where the feed may hand a heartbeat
  abbrev pub BeatFits : Type 0
  BeatFits =
      (journal : List Edit) (feed : Feed) (items : List (Item R)) → is_beat_allowed feed ≡ true
      → Fits kind journal feed items → Fits kind journal feed (items ++ Beat ∷ [])

  -- a list that fits a feed still fits once the feed's time without an item is over
  abbrev pub ExpiredFits : Type 0
  ExpiredFits =
      (journal : List Edit) (feed : Feed) (items : List (Item R)) → Fits kind journal feed items
      → Fits kind journal (expired_feed feed) items

  -- a list that fits a feed still fits once the feed's source is deleted
  abbrev pub EndedFits : Type 0
  EndedFits =
      (journal : List Edit) (feed : Feed) (items : List (Item R)) → Fits kind journal feed items
      → Fits kind journal (end feed) items

  -- a list that fits a feed still fits once the feed's subscriber is gone
  abbrev pub FinishedFits : Type 0
  FinishedFits =
      (journal : List Edit) (feed : Feed) (items : List (Item R)) → Fits kind journal feed items
      → Fits kind journal (finished_feed feed) items

  -- A feed that has handed as many rows as its limit is not open; a limit of 0 acts as 1. With a limit of 3
  -- only the End is left to hand after the third row.
  abbrev pub LimitedEnds : Type 0
  LimitedEnds =
      (journal : List Edit) (feed : Feed) (items : List (Item R)) (limit : ℕ) → feed.params.limit ≡ Some limit
      → max 1 limit ≤ length (rows_of items) → Fits kind journal feed items → ¬ (feed.status ≡ Open)
