-- A database as a host of feeds (own).
use Rattle.std.specs.Prelude.{length}
use Rattle.hub_model.specs.Current.{current}
use Rattle.hub_model.specs.Row.{ChangeRow, row_of}
use Rattle.hub_feed.specs.Host.{Hosted}
use Rattle.hub_database.specs.Database.{Database}

-- The host's edits are the journal's, and each row is shown as the journal shows it now. As many feeds are
-- taken as the limits say.
abbrev pub hosted_of : Database → Hosted ChangeRow
hosted_of db = record {
  length = length db.journal;
  life = db.life;
  current = current db.journal;
  shown = row_of db.journal;
  feeds = db.feeds;
  next_feed = db.next_feed;
  deleted = db.deleted;
  limit = db.limits.feeds;
}

-- the database with the feeds of this host, and with its number for the next feed
abbrev pub with_hosted : Database → Hosted ChangeRow → Database
with_hosted db h = record db { feeds = h.feeds; next_feed = h.next_feed }
