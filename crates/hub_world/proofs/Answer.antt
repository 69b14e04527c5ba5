-- The step of each event, computed: a tool of proofs. `Answering` proves that these are steps, and the only
-- ones.
use Rattle.std.specs.Prelude.{ℕ, List, [], ◌∷◌, length, map, true, if◌then◌else◌, Option, Some, None}
use Rattle.std.specs.Prelude.{slice_get, nat_lt}
use Rattle.hub_database.specs.Edits.{edit_of, draft_of}
use Rattle.hub_model.specs.Current.{current, pending}
use Rattle.hub_model.specs.Feed.{Params, Feed, Due, DueRow, DueEnd, DueNothing, DueGone, after_row, after_end}
use Rattle.hub_model.specs.Feed.{after_nothing, is_beat_allowed}
use Rattle.hub_model.specs.Hand.{journal_due}
use Rattle.hub_model.specs.RightlyHanded.{ChangeItem}
use Rattle.hub_model.specs.Row.{row_of}
use Rattle.hub_model.specs.declared.feeds.Item.TheVariants.{Row, Beat, End}
use Rattle.hub_params.specs.FeedModel.{params_of}
use Rattle.hub_world.specs.Step.{whole_batch}
use Rattle.hub_world.specs.World.{World, Subscription, has_no_room, subscription, with_subscription, lane_of}
use Rattle.hub_world.specs.World.{merges_result, drafts_result, with_feed, subscription_after_push, world_after_expiry, world_after_take, world_after_finish, ended_subscription}
use Rattle.hub_world.specs.declared.event.Event.{Event}
use Rattle.hub_world.specs.declared.event.Event.TheVariants.{Write, Interactive, Begin, Hand, Heartbeat}
use Rattle.hub_world.specs.declared.event.Event.TheVariants.{Expire, Take, Finish, Delete}
use Rattle.hub_world.specs.declared.reply.Reply.{Reply}
use Rattle.hub_world.specs.declared.reply.Reply.TheVariants.{Outcomes, Opened, TooManyFeeds, DatabaseDeleted}
use Rattle.hub_world.specs.declared.reply.Reply.TheVariants.{Pushed, Full, Nothing, Gone, Took, Left}

-- a reply, and the world after it
pub record Answer : Type 0 where
  pub reply : Reply
  pub world : World

-- the answer with this reply, and with this world after it
abbrev pub answer_with : Reply → World → Answer
answer_with reply world = record { reply = reply; world = world }

-- the answer where this item is to go into the lane of feed f, whose feed goes on as this feed
abbrev pub push : World → ℕ → Subscription → Feed → ChangeItem → Answer
push world f subscription feed item =
    if nat_lt (length subscription.lane) world.limits.lane
    then answer_with (Pushed item) (with_subscription world f (subscription_after_push subscription feed item))
    else answer_with Full world

-- the answer to a Hand to a feed to which this is due
abbrev pub hand_due : World → ℕ → Subscription → Due → Answer
hand_due world f subscription (DueRow c) =
    push world f subscription (after_row subscription.feed c.seq (length world.journal))
    (Row (row_of world.journal subscription.feed.params.style subscription.feed.params.include_docs c))
hand_due world f subscription (DueEnd last_seq) =
    push world f subscription (after_end subscription.feed last_seq)
    (End last_seq (pending (current world.journal) last_seq))
hand_due world f subscription DueNothing =
    answer_with Nothing (with_subscription world f
    (record subscription { feed = after_nothing subscription.feed (length world.journal) }))
hand_due world f subscription DueGone = answer_with Gone world

-- the answer to a Hand to feed f
abbrev pub hand : World → ℕ → Option Subscription → Answer
hand world f None = answer_with Gone world
hand world f (Some subscription) = hand_due world f subscription (journal_due world.journal subscription.feed)

-- the answer to a Heartbeat to feed f
abbrev pub beat : World → ℕ → Option Subscription → Answer
beat world f None = answer_with Nothing world
beat world f (Some subscription) =
    if is_beat_allowed subscription.feed then push world f subscription subscription.feed Beat else
    answer_with Nothing world

-- the answer to a Begin
abbrev pub opened : World → Params → Answer
opened world params =
    if world.deleted then answer_with DatabaseDeleted world
    else if has_no_room world then answer_with TooManyFeeds world
    else answer_with (Opened (record { number = length world.feeds })) (with_feed world params)

-- the reply to an event, and the world after it
abbrev pub answer : World → Event → Answer
answer world (Write docs) =
    answer_with (Outcomes (whole_batch (merges_result world (map edit_of docs)).outcomes))
    (record world { journal = (merges_result world (map edit_of docs)).journal })
answer world (Interactive docs) =
    answer_with (Outcomes (whole_batch (drafts_result world (map draft_of docs)).outcomes))
    (record world { journal = (drafts_result world (map draft_of docs)).journal })
answer world (Begin params) = opened world (params_of params)
answer world (Hand feed) = hand world feed.number (subscription world feed.number)
answer world (Heartbeat feed) = beat world feed.number (subscription world feed.number)
answer world (Expire feed) = answer_with Nothing (world_after_expiry (subscription world feed.number) feed.number world)
answer world (Take feed) =
    answer_with (Took (slice_get (lane_of (subscription world feed.number)) 0))
    (world_after_take (subscription world feed.number) feed.number world)
answer world (Finish feed) =
    answer_with (Left (lane_of (subscription world feed.number)))
    (world_after_finish (subscription world feed.number) feed.number world)
answer world Delete =
    if world.deleted then answer_with DatabaseDeleted world
    else answer_with Nothing (record world { deleted = true; feeds = map ended_subscription world.feeds })

-- the replies to events, one after the other
abbrev pub replies_to : World → List Event → List Reply
replies_to world [] = []
replies_to world (event ∷ events) = (answer world event).reply ∷ replies_to (answer world event).world events

-- the world after events
abbrev pub after : World → List Event → World
after world [] = world
after world (event ∷ events) = after (answer world event).world events
