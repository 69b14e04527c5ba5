-- The feeds that a connection begins and sends (CouchDB API reference, _changes and _db_updates).
use Rattle.std.specs.Prelude.{◌≡◌, ◌⊎◌, ℕ, List, [], ◌∷◌, true, false, if◌then◌else◌, Option, Some, None}
use Rattle.std.specs.Prelude.{Result, Ok, Err, drop}
use Rattle.hub_model.specs.Row.{ChangeRow}
use Rattle.hub_model.specs.Updates.{UpdateRow}
use Rattle.hub_model.specs.Descending.{Descending, descending}
use Rattle.hub_model.specs.declared.feeds.Mode.{Mode}
use Rattle.hub_model.specs.declared.feeds.Mode.TheVariants.{Normal}
use Rattle.hub_model.specs.declared.feeds.Item.{Item}
use Rattle.hub_model.specs.declared.feeds.Item.TheVariants.{Row, End}
use Rattle.hub_database.specs.Handing as changes
use Rattle.hub_database.specs.Hosting.{hosted_of}
use Rattle.hub_updates.specs.Asked.{updates_asked}
use Rattle.hub_updates.specs.Log as updates
use Rattle.hub_feed.specs.Host.{opening_fault}
use Rattle.hub_lane.specs.Ends.{IsAllowedBeginning}
use Rattle.hub_params.specs.FeedParams.{FeedAsked, feed_asked}
use Rattle.hub_params.specs.FeedModel.{params_in}
use Rattle.hub_params.specs.Room.{FeedNeedsRoom}
use Rattle.hub_params.specs.declared.feed_fault.ParamFault.{ParamFault}
use Rattle.hub_http.specs.declared.refusal.Refusal.{Refusal}
use Rattle.hub_http.specs.declared.refusal.Refusal.TheVariants as refusal
use Rattle.hub_session.specs.Items as stream
use Rattle.hub_session.specs.StreamItem.{StreamItem, Change, Update}
use Rattle.hub_shared.specs.Feeds.{FeedState, behind_item, receiver_of}
use Rattle.hub_shared.specs.Handles.{IsNew}
use Rattle.hub_service.specs.Moments.{HasDatabase}
use Rattle.hub_service.specs.Refusals.{of_open_fault, of_param_fault}
use Rattle.hub_service.specs.Said.{IsWant}
use Rattle.hub_service.specs.declared.response.Response.{Response}
use Rattle.hub_service.specs.declared.response.Response.TheVariants.{Body, Stream}
use Rattle.hub_service.specs.declared.sent.Sent.{Sent}
use Rattle.hub_service.specs.declared.sent.Sent.TheVariants.{Listed, Changes, Updates}

-- the number of the life of the sequences of a feed or list that is sent
abbrev pub life_of : Sent → ℕ
life_of (Listed answer) = answer.life
life_of (Changes feed) = feed.label.life
life_of (Updates feed) = feed.label.life

-- ---- beginning a feed

-- the feed that is asked of a database is begun, in this mode; a list that goes downwards is made at once
abbrev pub IsBegun : FeedAsked → Mode → Sent → Type 0
IsBegun asked mode (Listed answer) = (asked.descending ≡ true) × (mode ≡ Normal)
    × HasDatabase (λ db. (db.deleted ≡ false) × (answer ≡ descending db.journal db.life (params_in asked)))
IsBegun asked mode (Changes feed) = (asked.descending ≡ false) × (mode ≡ asked.mode) × IsNew asked 0 feed
IsBegun asked mode (Updates feed) = ⊥

-- why a database begins no feed: it was deleted, or it has as many feeds as it may have, or memory was
-- missing
abbrev pub IsUnopened : FeedAsked → Refusal → Type 0
IsUnopened asked e = HasDatabase (λ db.
    e ≡ if asked.descending then (if db.deleted then refusal.Deleted else refusal.NoMemory)
    else of_open_fault (opening_fault (hosted_of db)))

-- the feed that parameters ask of a database is begun, or not: beginning takes memory
abbrev pub BeginsChanges : FeedAsked → Result Response Refusal → Type 0
BeginsChanges asked (Ok (Body status body)) = ⊥
BeginsChanges asked (Ok (Stream mode sent)) = IsBegun asked mode sent
BeginsChanges asked (Err e) = IsUnopened asked e ⊎ (e ≡ refusal.NoMemory)

-- the feed of the log of updates that is asked for is begun, in this mode
abbrev pub IsBegunOfUpdates : FeedAsked → Mode → Sent → Type 0
IsBegunOfUpdates asked mode (Listed answer) = ⊥
IsBegunOfUpdates asked mode (Changes feed) = ⊥
IsBegunOfUpdates asked mode (Updates feed) = (mode ≡ asked.mode) × IsNew (updates_asked asked) 0 feed

-- the feed that parameters ask of the log of updates is begun, or not: beginning takes memory
abbrev pub BeginsUpdates : FeedAsked → Result Response Refusal → Type 0
BeginsUpdates asked (Ok (Body status body)) = ⊥
BeginsUpdates asked (Ok (Stream mode sent)) = IsBegunOfUpdates asked mode sent
BeginsUpdates asked (Err e) = (e ≡ refusal.TooManyFeeds) ⊎ (e ≡ refusal.NoMemory)

-- parameters begin a feed; or they are bad, and that is told, unless reading them needs memory that was
-- missing
abbrev pub BeginsRead : (FeedAsked → Result Response Refusal → Type 0) → Type 0 → Result FeedAsked ParamFault
    → Result Response Refusal → Type 0
BeginsRead begins needs (Ok asked) r = begins asked r
BeginsRead begins needs (Err fault) r = (r ≡ Err (of_param_fault fault)) ⊎ (IsWant r × needs)

-- The feed that a query and a body ask for is begun, or refused. `limit=x` is refused as BadLimit and takes
-- no memory. `limit=%78` has to be decoded, and may find no memory. Parameters that mean nothing to the log
-- of updates are refused there too where they are bad.
abbrev pub Begins : (FeedAsked → Result Response Refusal → Type 0) → List ℕ → List ℕ → Result Response Refusal
    → Type 0
Begins begins query body r = BeginsRead begins (FeedNeedsRoom query body) (feed_asked query body) r

-- ---- the items of a feed or list

-- the next item of an answer with these rows left: the first of the rows, or the end
abbrev pub next_of_rows : List ChangeRow → (last_seq pending : ℕ) → Item ChangeRow
next_of_rows [] last_seq pending = End last_seq pending
next_of_rows (row ∷ rows) last_seq pending = Row row

-- the next item of an answer that was made at once
abbrev pub next_listed : Descending → Item ChangeRow
next_listed answer = next_of_rows answer.rows answer.last_seq answer.pending

-- the rest of an answer after its next item
abbrev pub behind_listed : Descending → Descending
behind_listed answer = record answer { rows = drop 1 answer.rows }

-- the items that were taken of a feed of changes are the front of a list that is rightly handed for its
-- parameters
abbrev pub IsRightChanges : FeedState ChangeRow → Type 0
IsRightChanges feed =
    IsAllowedBeginning (λ l items. changes.IsRightFor (params_in l.asked) l.since items) (receiver_of feed)

-- the items that were taken of a feed of updates are such a front too
abbrev pub IsRightUpdates : FeedState UpdateRow → Type 0
IsRightUpdates feed =
    IsAllowedBeginning (λ l items. updates.IsRightFor (params_in l.asked) l.since items) (receiver_of feed)

-- A feed or list that is sent goes on with this item, and is `left` then; or it has no item, and stays. A
-- list that was made at once hands its rows in turn and then its end. The item of a feed was taken from the
-- feed, after the items that were taken before.
abbrev pub GoesOn : Sent → Option StreamItem → Sent → Type 0
GoesOn sent None left = left ≡ sent
GoesOn (Listed answer) (Some (Change item)) left =
    (item ≡ next_listed answer) × (left ≡ Listed (behind_listed answer))
GoesOn (Listed answer) (Some (Update item)) left = ⊥
GoesOn (Changes feed) (Some (Change item)) left =
    (left ≡ Changes (behind_item feed item)) × IsRightChanges (behind_item feed item)
GoesOn (Changes feed) (Some (Update item)) left = ⊥
GoesOn (Updates feed) (Some (Change item)) left = ⊥
GoesOn (Updates feed) (Some (Update item)) left =
    (left ≡ Updates (behind_item feed item)) × IsRightUpdates (behind_item feed item)

-- A connection's feed or list goes on with this item, and after an end nothing is sent any more. Or it
-- stops, and stays as it is.
abbrev pub Gives : Option Sent → Option StreamItem → Option Sent → Type 0
Gives maybe_sent None t = t ≡ maybe_sent
Gives None (Some item) t = ⊥
Gives (Some sent) (Some item) t = (left : Sent) × GoesOn sent (Some item) left
    × (t ≡ if stream.is_end item then None else Some left)

-- a connection drops its feed or list, which is not sent on
abbrev pub Drops : Option Sent → Option Sent → Type 0
Drops maybe_sent t = t ≡ None
