-- The log of updates, with its feeds (CouchDB API reference, _db_updates).
use Rattle.std.specs.Prelude.{◌≡◌, ℕ, List, length, false}
use Rattle.hub_model.specs.Current.{current}
use Rattle.hub_model.specs.Feed.{Feed, Params}
use Rattle.hub_model.specs.Journal.{Edit}
use Rattle.hub_model.specs.RowKind.{update_rows}
use Rattle.hub_model.specs.Updates.{Note, UpdateRow, edits_of_log, update_row_of}
use Rattle.hub_model.specs.declared.feeds.Item.{Item}
use Rattle.hub_document.specs.declared.limits.Limits.{Limits}
use Rattle.hub_feed.specs.Handing as handing
use Rattle.hub_feed.specs.Host.{Hosted}

-- a log of updates with its feeds
pub record Updates : Type 0 where
  pub notes : List Note  -- first to last: a note's place, from 1, is its sequence
  pub feeds : List (ℕ × Feed)  -- the feeds that are not finished, with their numbers, which rise
  pub next_feed : ℕ  -- the number of the next feed
  pub limits : Limits
  pub life : ℕ  -- the number of the log's life

-- the part of a log that its feeds follow: its notes, and the number of its life
pub record LogContents : Type 0 where
  pub notes : List Note
  pub life : ℕ

-- A log as a host of feeds. Its feeds follow the notes as edits: a note is current until the same happens
-- to the same database again. Where d was created, updated and updated again, the current rows are at 1 and
-- 3. A log has at most as many feeds as its limits say, and is never deleted.
abbrev pub hosted_of : Updates → Hosted UpdateRow
hosted_of log = record {
  length = length log.notes;
  life = log.life;
  current = current (edits_of_log log.notes);
  shown = update_row_of (edits_of_log log.notes);
  feeds = log.feeds;
  next_feed = log.next_feed;
  deleted = false;
  limit = log.limits.feeds;
}

-- the same log with the feeds of this host, and with its number for the next feed
abbrev pub with_hosted : Updates → Hosted UpdateRow → Updates
with_hosted log h = record log { feeds = h.feeds; next_feed = h.next_feed }

-- these are the edits of some log
abbrev pub AreOfLog : List Edit → Type 0
AreOfLog edits = (notes : List Note) × (edits ≡ edits_of_log notes)

-- the list fits the feed of a log with these notes: the feed may have handed these items so far
abbrev pub IsFitting : List Note → Feed → List (Item UpdateRow) → Type 0
IsFitting notes feed items = handing.IsFitting update_rows AreOfLog (edits_of_log notes) feed items

-- The list is rightly handed, by these parameters and above this sequence, for some notes, some place and
-- some bound. So the feed of some log may have handed it by some time.
abbrev pub IsRightFor : Params → ℕ → List (Item UpdateRow) → Type 0
IsRightFor params since items = handing.IsRightFor update_rows AreOfLog params since items
