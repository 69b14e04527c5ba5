-- The parameters of a feed of the log of updates (CouchDB API reference, _db_updates).
use Rattle.std.specs.Prelude.{false}
use Rattle.hub_model.specs.Filter.{Everything}
use Rattle.hub_model.specs.declared.feeds.Style.TheVariants.{MainOnly}
use Rattle.hub_params.specs.FeedParams.{FeedAsked}

-- A feed of the log shows rows of every database, upwards and without documents, by any parameters. With
-- filter=_design and limit=2 it shows two rows, of any databases.
abbrev pub updates_asked : FeedAsked → FeedAsked
updates_asked asked =
    record asked { descending = false; style = MainOnly; include_docs = false; filter = Everything }
