-- The feeds of a database that is deleted (CouchDB API reference, _changes; own).
use Rattle.std.specs.Prelude.{map, true}
use Rattle.hub_feed.specs.Feeds.{ended_entry}
use Rattle.hub_database.specs.Database.{Database}

-- the database once it is deleted: each open feed has only its end left to hand
abbrev pub deleted_database : Database → Database
deleted_database db = record db { deleted = true; feeds = map ended_entry db.feeds }
