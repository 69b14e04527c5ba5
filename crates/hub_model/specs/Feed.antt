-- A feed and its next step. A step reads only the length and the current rows of the feed's source (CouchDB
-- API reference, _changes).
use Rattle.std.specs.Prelude.{ℕ, ◌+◌, List, min, Bool, true, false, ◌&&◌, if◌then◌else◌, Option, Some, None}
use Rattle.std.specs.Prelude.{nat_lt, nat_le, nat_eq, find}
use Rattle.hub_model.specs.Current.{Current}
use Rattle.hub_model.specs.declared.feeds.Mode.{Mode}
use Rattle.hub_model.specs.declared.feeds.Mode.TheVariants.{Normal, Longpoll, Continuous}
use Rattle.hub_model.specs.declared.feeds.Since.{Since}
use Rattle.hub_model.specs.declared.feeds.Since.TheVariants.{Now, Plain, Tagged}
use Rattle.hub_model.specs.declared.feeds.Style.{Style}
use Rattle.hub_model.specs.Filter.{Filter, is_passing}

-- the parameters that a subscriber asks for
pub record Params : Type 0 where
  pub mode : Mode
  pub since : Since
  pub limit : Option ℕ  -- the greatest number of rows; 0 acts as 1
  pub style : Style
  pub include_docs : Bool
  pub filter : Filter
  pub heartbeat : Bool  -- whether heartbeats are asked for

-- the status of a feed, from its opening to its finish
pub data Status : Type 0 where
  Open : Status
  Ending : Status  -- an End is all that is left to hand
  Ended : Status
  Finished : Status

-- a feed that was opened. For example a normal feed with no limit was opened after 2 while there were 5
-- edits, and handed the row at 3. It has since 2, bound 5, place 3, rows 1 and status Open.
pub record Feed : Type 0 where
  pub params : Params
  pub since : ℕ  -- the feed shows rows above this sequence
  pub bound : Option ℕ  -- the feed shows no row above this sequence, if there is one
  pub place : ℕ  -- the feed has shown the rows that pass, up to this sequence
  pub rows : ℕ  -- the number of rows that the feed has handed
  pub status : Status

-- The sequence `seq` of the life `of`, as it counts in `life`: it counts as 0 where the two are not the same.
-- Sequence 2 of life 1 counts as 2 in life 1, and as 0 in life 7 (proved: `LivesCount`).
abbrev pub counted_in : (life seq of : ℕ) → ℕ
counted_in life seq of = if nat_eq of life then seq else 0

-- The sequence after which a feed begins, while there are len edits of this life. The sequence is len at
-- most. With 5 edits of life 1 Now gives 5, Plain 2 gives 2 and Plain 9 gives 5. Tagged 2 1 gives 2, and
-- Tagged 2 7 gives 0 (proved: `FallsAfterAll`, `FallsByLife`).
abbrev pub since_of : Since → (len life : ℕ) → ℕ
since_of Now len life = len
since_of (Plain seq) len life = min seq len
since_of (Tagged seq of) len life = min (counted_in life seq of) len

-- the bound of a feed that is opened while there are len edits. A normal feed that is opened while there are
-- 8 edits stops at 8, whatever is written later (proved: `BoundHolds`).
abbrev pub bound_of : Mode → ℕ → Option ℕ
bound_of Normal len = Some len
bound_of Longpoll len = None
bound_of Continuous len = None

-- a feed that is opened while there are len edits of this life
abbrev pub new_feed : Params → (len life : ℕ) → Feed
new_feed params len life = record {
  params = params;
  since = since_of params.since len life;
  bound = bound_of params.mode len;
  place = since_of params.since len life;
  rows = 0;
  status = Open;
}

-- whether a sequence is not above the bound, if there is one
abbrev pub is_within : Option ℕ → ℕ → Bool
is_within None n = true
is_within (Some bound) n = nat_le n bound

-- Whether the row passes the feed's filter, and lies above the place and not above the bound. With place 3,
-- bound 8 and no filter the rows at 4 and 8 are in reach, and the rows at 3 and 9 are not.
abbrev pub is_in_reach : Feed → Current → Bool
is_in_reach feed row =
    nat_lt feed.place row.seq && (is_within feed.bound row.seq && is_passing feed.params.filter row.id)

-- the step that is due to a feed: a row, an End at a sequence, nothing now, or nothing any more
pub data Due : Type 0 where
  DueRow : (row : Current) → Due
  DueEnd : (last_seq : ℕ) → Due
  DueNothing : Due
  DueGone : Due

-- the step that is due to an open feed: the first row in reach, else an End at the bound, if there is one
abbrev pub due_while_open : Option Current → Option ℕ → Due
due_while_open (Some row) bound = DueRow row
due_while_open None (Some bound) = DueEnd bound
due_while_open None None = DueNothing

-- The step that is due to a feed, by its status. Only an open feed is given rows. An ending feed has its End
-- left, at its place. After the End nothing is due.
abbrev pub due_by_status : Status → List Current → Feed → Due
due_by_status Open rows feed = due_while_open (find (is_in_reach feed) rows) feed.bound
due_by_status Ending rows feed = DueEnd feed.place
due_by_status Ended rows feed = DueGone
due_by_status Finished rows feed = DueGone

-- The step that is due to a feed over these current rows. Take an open feed without a filter at place 3, with
-- bound 8. Over rows at 2, 6 and 9 the row at 6 is due, and over rows at 2 and 9 an End at 8. Without the
-- bound the row at 9 is due there, and over the row at 2 alone nothing is due.
abbrev pub next_due : List Current → Feed → Due
next_due rows feed = due_by_status feed.status rows feed

-- The bound of a feed after a row, while there are len edits: a longpoll feed takes len as its bound at its
-- first row. A feed that hands this row while there are 4 edits has the bound 4 from then on (proved:
-- `LongpollWaits`).
abbrev pub bound_after : Mode → Option ℕ → ℕ → Option ℕ
bound_after Normal bound len = bound
bound_after Longpoll None len = Some len
bound_after Longpoll (Some bound) len = Some bound
bound_after Continuous bound len = bound

-- The status of an open feed after so many rows: it is ending after its last row. A limit of 0 acts as 1.
-- With a limit of 3 a feed is open after 2 rows, and ending after 3. With a limit of 0 it is ending after 1.
abbrev pub status_after : Option ℕ → ℕ → Status
status_after None rows = Open
status_after (Some limit) rows = if nat_le limit rows then Ending else Open

-- The feed after it handed the row at seq, while there are len edits. Take a normal feed with place 3, rows 1
-- and a limit of 2. After the row at 6 it has place 6 and rows 2, and is ending.
abbrev pub after_row : Feed → ℕ → ℕ → Feed
after_row feed seq len = record feed {
  bound = bound_after feed.params.mode feed.bound len;
  place = seq;
  rows = feed.rows + 1;
  status = status_after feed.params.limit (feed.rows + 1);
}

-- the feed after it handed an End at last_seq
abbrev pub after_end : Feed → ℕ → Feed
after_end feed last_seq = record feed { place = last_seq; status = Ended }

-- The feed after it found nothing to hand, while there are len edits: its place is len. A longpoll feed after
-- 0 that finds no passing row among 3 edits has place 3 (proved: `TimeEnds`).
abbrev pub after_nothing : Feed → ℕ → Feed
after_nothing feed len = record feed { place = len }

-- the feed after the step that was due, while there are len edits: it handed an item, or found none
abbrev pub feed_after_due : Feed → Due → ℕ → Feed
feed_after_due feed (DueRow c) len = after_row feed c.seq len
feed_after_due feed (DueEnd last_seq) len = after_end feed last_seq
feed_after_due feed DueNothing len = after_nothing feed len
feed_after_due feed DueGone len = feed

-- whether the feed handed its End, or is finished
abbrev pub is_over : Status → Bool
is_over Open = false
is_over Ending = false
is_over Ended = true
is_over Finished = true

-- whether the feed may still hand rows
abbrev pub is_open : Status → Bool
is_open Open = true
is_open Ending = false
is_open Ended = false
is_open Finished = false

-- whether a feed of this mode waits for later edits
abbrev pub is_waiting_mode : Mode → Bool
is_waiting_mode Normal = false
is_waiting_mode Longpoll = true
is_waiting_mode Continuous = true

-- Whether the feed may hand a heartbeat. An open continuous feed that asks for heartbeats may. A normal feed
-- never may, nor may a feed that asks for none (proved: `BeatsAreAsked`).
abbrev pub is_beat_allowed : Feed → Bool
is_beat_allowed feed = is_open feed.status && (is_waiting_mode feed.params.mode && feed.params.heartbeat)

-- The feed once its time without an item is over: an open feed that waits is ending, and any other feed
-- stays. So a longpoll feed at place 3 has an End at 3 left. A normal feed goes on with its rows (proved:
-- `TimeEnds`).
abbrev pub expired_feed : Feed → Feed
expired_feed feed = if is_open feed.status && is_waiting_mode feed.params.mode then record feed { status = Ending } else feed

-- The feed once its source is deleted: an open feed is ending. A feed that handed the row at 2, of rows at 1,
-- 2 and 3, has an End at 2 left, with 1 pending (proved: `DeletionEnds`).
abbrev pub end : Feed → Feed
end feed = if is_open feed.status then record feed { status = Ending } else feed

-- the feed once its subscriber is gone: nothing more is due to it
abbrev pub finished_feed : Feed → Feed
finished_feed feed = record feed { status = Finished }
