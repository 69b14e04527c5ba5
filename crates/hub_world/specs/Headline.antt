-- The promise to the connection of a feed, over every run (CouchDB API reference, _changes).
use Rattle.std.specs.Prelude.{◌≡◌, ℕ, ◌<◌, ◌≤◌, List, [], ◌∷◌, ◌++◌, length, All, AllPairs}
use Rattle.std.specs.Prelude.{Contains, IsTrue, Some}
use Rattle.hub_model.specs.Current.{Current, current}
use Rattle.hub_model.specs.Feed.{Feed}
use Rattle.hub_model.specs.Filter.{is_passing}
use Rattle.hub_model.specs.Journal.{Edit}
use Rattle.hub_model.specs.Row.{ChangeRow, IsRow}
use Rattle.hub_model.specs.RightlyHanded.{ChangeItem, RightlyHanded, rows_of}
use Rattle.hub_model.specs.RowKind.{change_rows}
use Rattle.hub_model.specs.declared.feeds.Item.TheVariants.{End}
use Rattle.hub_world.specs.World.{Limits, World, Subscription, subscription, empty}
use Rattle.hub_world.specs.Step.{Run, journal_at}
use Rattle.hub_world.specs.Handed.{IsStepAt, items_handed, handed_by, items_taken, IsPrefixOf}
use Rattle.hub_world.specs.declared.event.Event.{Event}
use Rattle.hub_world.specs.declared.reply.Reply.{Reply}

-- These replies to these events are faithful to the feed of this number. The items that its connection took
-- are a front of the items that it handed, and the handed items are right and whole. `journals` has the
-- journal before the event at each place, and at the number of the events the journal after the last event;
-- `feed` is the feed at that time. Example: a feed of the documents at 1 and 2 whose replies say that it
-- handed row 1 and then row 2, and whose connection took row 1, is faithful. A feed that handed row 2 alone
-- with its place at 2 is not. A normal feed of eight documents hands the rows 1, 2 and 3, and then two
-- documents are written again. It goes on with the rows 4, 6, 7 and 8 and an End at 8 with 2 pending: rows 9
-- and 10 lie above its bound (proved: `BoundHolds`).
pub record IsFaithful (journals : ℕ → List Edit) (events : List Event) (replies : List Reply) (number : ℕ)
    (feed : Feed) : Type 0 where
  -- what the connection has taken is a prefix of what the feed handed out
  pub prefix : IsPrefixOf (items_taken number events replies) (items_handed number events replies)
  -- rows in strictly rising sequence
  pub rising : AllPairs (λ (row later : ChangeRow). row.seq < later.seq)
      (rows_of (items_handed number events replies))
  -- each its document's current row at its step
  pub at_step : (place : ℕ) (event : Event) (reply : Reply) → IsStepAt events replies place event reply
      → All (IsRow (journals place) feed.params.style feed.params.include_docs)
      (rows_of (handed_by number event reply))
  -- each passing the filter
  pub passing : All (λ (row : ChangeRow). IsTrue (is_passing feed.params.filter row.id))
      (rows_of (items_handed number events replies))
  -- none above last_seq
  pub below : (last_seq pending : ℕ) → Contains (items_handed number events replies) (End last_seq pending)
      → All (λ (row : ChangeRow). row.seq ≤ last_seq) (rows_of (items_handed number events replies))
  -- nothing after the end
  pub last : (before later : List ChangeItem) (last_seq pending : ℕ)
      → items_handed number events replies ≡ before ++ End last_seq pending ∷ later → later ≡ []
  -- and every current passing row between since and the feed's place among them
  pub whole : (entry : Current) → Contains (current (journals (length events))) entry
      → IsTrue (is_passing feed.params.filter entry.id) → feed.since < entry.seq → entry.seq ≤ feed.place →
      (row : ChangeRow) × Contains (rows_of (items_handed number events replies)) row × (row.seq ≡ entry.seq)
      × (row.id ≡ entry.id)

-- These replies to these events are faithful to each feed of a new database. The journals and the feed are
-- those of the one run of the events (law `answers`), whatever these replies say. So replies that tell of no
-- row where a row was due are refused, since the feed's place has moved.
abbrev pub AreFaithful : Limits → List Event → List Reply → Type 0
AreFaithful limits events replies =
    (own : List Reply) (world : World) (run : Run (empty limits) events own world)
    (number : ℕ) (found : Subscription)
    → subscription world number ≡ Some found →
    IsFaithful (journal_at (empty limits) events own world run) events replies number found.feed

-- By these replies each feed of a new database handed the items that are right for it. Beside the sentence
-- this says that rows lie above since and not above the place or a bound, and that `seen` never falls. An End
-- names the place, there are no more rows than the limit says, and heartbeats come only where one was asked
-- for. So replies that tell of row 1 while the feed's place is 0 may be faithful, and are not right.
abbrev pub AreRight : Limits → List Event → List Reply → Type 0
AreRight limits events replies =
    (own : List Reply) (world : World) → Run (empty limits) events own world
    → (number : ℕ) (found : Subscription)
    → subscription world number ≡ Some found →
    RightlyHanded change_rows world.journal found.feed (items_handed number events replies)

-- the replies of every run are faithful
abbrev pub Headline : Type 0
Headline =
    (limits : Limits) (events : List Event) (replies : List Reply) (world : World)
    → Run (empty limits) events replies world → AreFaithful limits events replies
