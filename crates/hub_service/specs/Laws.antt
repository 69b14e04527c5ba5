-- The rules of a connection, and the laws of its streams (CouchDB API reference, _changes and _db_updates).
use Rattle.std.specs.Prelude.{◌≡◌, ◌≢◌, List, [], ◌∷◌, ◌++◌, map, Option, Some}
use Rattle.hub_database.specs.Handing as changes
use Rattle.hub_updates.specs.Log as updates
use Rattle.hub_model.specs.Descending.{Descending}
use Rattle.hub_model.specs.Row.{ChangeRow}
use Rattle.hub_model.specs.Updates.{UpdateRow}
use Rattle.hub_model.specs.declared.feeds.Item.{Item}
use Rattle.hub_model.specs.declared.feeds.Item.TheVariants.{Row, End}
use Rattle.hub_params.specs.FeedModel.{params_in}
use Rattle.hub_session.specs.Feeds.{Streams}
use Rattle.hub_session.specs.Rules.{Rules}
use Rattle.hub_session.specs.declared.closing.StreamEnd.{StreamEnd}
use Rattle.hub_session.specs.declared.closing.StreamEnd.TheVariants.{Complete}
use Rattle.hub_session.specs.StreamItem.{StreamItem, Change, Update}
use Rattle.hub_shared.specs.Feeds.{FeedState}
use Rattle.hub_service.specs.Feeds.{Drops, Gives}
use Rattle.hub_service.specs.Requests.{Answers}
use Rattle.hub_service.specs.declared.sent.Sent.{Sent}
use Rattle.hub_service.specs.declared.sent.Sent.TheVariants.{Listed, Changes, Updates}

-- the rules of a connection, whose state is the feed or list that it sends
abbrev pub connection_rules : Rules (Option Sent)
connection_rules = record { answers = Answers; gives = Gives; drops = Drops }

-- these items are the front of a list that is rightly handed for the parameters of this feed of changes
abbrev pub IsFrontOfChanges : FeedState ChangeRow → List (Item ChangeRow) → Type 0
IsFrontOfChanges feed items = (rest : List (Item ChangeRow))
    × changes.IsRightFor (params_in feed.label.asked) feed.label.since (items ++ rest)

-- these items are the front of a list that is rightly handed for the parameters of this feed of updates
abbrev pub IsFrontOfUpdates : FeedState UpdateRow → List (Item UpdateRow) → Type 0
IsFrontOfUpdates feed items = (rest : List (Item UpdateRow))
    × updates.IsRightFor (params_in feed.label.asked) feed.label.since (items ++ rest)

-- the items that are sent of a feed of changes, however its stream ends, are the front of a list that is
-- rightly handed
abbrev pub StreamsOfChangesAreRight : Type 0
StreamsOfChangesAreRight =
    (feed : FeedState ChangeRow) (items : List StreamItem) (end : StreamEnd) (maybe_sent : Option Sent)
    → feed.taken ≡ [] → items ≢ [] → Streams connection_rules 0 (Some (Changes feed)) items end maybe_sent
    → (handed : List (Item ChangeRow)) × (items ≡ map Change handed) × IsFrontOfChanges feed handed

-- the items that are sent of a feed of changes to its end are the whole of a list that is rightly handed
abbrev pub CompleteChangesAreRight : Type 0
CompleteChangesAreRight = (feed : FeedState ChangeRow) (items : List StreamItem) (maybe_sent : Option Sent)
    → feed.taken ≡ [] → Streams connection_rules 0 (Some (Changes feed)) items Complete maybe_sent
    → (handed : List (Item ChangeRow)) × (items ≡ map Change handed)
    × changes.IsRightFor (params_in feed.label.asked) feed.label.since handed

-- the items that are sent of a feed of updates, however its stream ends, are the front of a list that is
-- rightly handed
abbrev pub StreamsOfUpdatesAreRight : Type 0
StreamsOfUpdatesAreRight =
    (feed : FeedState UpdateRow) (items : List StreamItem) (end : StreamEnd) (maybe_sent : Option Sent)
    → feed.taken ≡ [] → items ≢ [] → Streams connection_rules 0 (Some (Updates feed)) items end maybe_sent
    → (handed : List (Item UpdateRow)) × (items ≡ map Update handed) × IsFrontOfUpdates feed handed

-- the items that are sent of a feed of updates to its end are the whole of a list that is rightly handed
abbrev pub CompleteUpdatesAreRight : Type 0
CompleteUpdatesAreRight = (feed : FeedState UpdateRow) (items : List StreamItem) (maybe_sent : Option Sent)
    → feed.taken ≡ [] → Streams connection_rules 0 (Some (Updates feed)) items Complete maybe_sent
    → (handed : List (Item UpdateRow)) × (items ≡ map Update handed)
    × updates.IsRightFor (params_in feed.label.asked) feed.label.since handed

-- the rows of an answer, and its end
abbrev pub whole_list : Descending → List StreamItem
whole_list answer = map Change (map Row answer.rows ++ End answer.last_seq answer.pending ∷ [])

-- the items that are sent of an answer that was made at once, to its end, are its rows and its end
abbrev pub CompleteListIsWhole : Type 0
CompleteListIsWhole = (answer : Descending) (items : List StreamItem) (maybe_sent : Option Sent)
    → Streams connection_rules 0 (Some (Listed answer)) items Complete maybe_sent → items ≡ whole_list answer
