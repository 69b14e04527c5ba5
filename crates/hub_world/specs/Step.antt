-- The replies and effects that each event may have, and whole runs (own; feeds by CouchDB API reference,
-- _changes).
use Rattle.std.specs.Prelude.{◌≡◌, ◌≤◌, ℕ, zero, suc, List, [], ◌∷◌, length, map, true, false, Some}
use Rattle.std.specs.Prelude.{slice_get}
use Rattle.hub_database.specs.Edits.{edit_of, draft_of}
use Rattle.hub_database.specs.declared.batch.Batch.{Batch}
use Rattle.hub_feed.specs.Host.{due_if_any, is_beat_allowed_if_any}
use Rattle.hub_model.specs.Current.{current}
use Rattle.hub_model.specs.Feed.{DueNothing, DueGone, feed_after_due, after_nothing, is_beat_allowed}
use Rattle.hub_model.specs.Hand.{journal_due, next_change}
use Rattle.hub_model.specs.Journal.{Edit}
use Rattle.hub_model.specs.Revision.{Revision}
use Rattle.hub_model.specs.RightlyHanded.{ChangeItem}
use Rattle.hub_model.specs.declared.feeds.Item.TheVariants.{Beat}
use Rattle.hub_model.specs.declared.outcomes.Outcome.{Outcome}
use Rattle.hub_params.specs.FeedModel.{params_of}
use Rattle.hub_world.specs.World.{World, Subscription, has_no_room, subscription, with_subscription, feed_of}
use Rattle.hub_world.specs.World.{lane_of, merges_result, drafts_result, with_feed, Pushes, world_after_expiry, world_after_take, world_after_finish, ended_subscription}
use Rattle.hub_world.specs.declared.event.Event.{Event}
use Rattle.hub_world.specs.declared.event.Event.TheVariants.{Write, Interactive, Begin, Hand, Heartbeat}
use Rattle.hub_world.specs.declared.event.Event.TheVariants.{Expire, Take, Finish, Delete}
use Rattle.hub_world.specs.declared.reply.Reply.{Reply}
use Rattle.hub_world.specs.declared.reply.Reply.TheVariants.{Outcomes, Opened, TooManyFeeds, DatabaseDeleted}
use Rattle.hub_world.specs.declared.reply.Reply.TheVariants.{Pushed, Full, Nothing, Gone, Took, Left}

-- a batch that did not stop, with these outcomes
abbrev pub whole_batch : List (Outcome Revision) → Batch
whole_batch outcomes = record { replies = outcomes; stopped = false }

-- the event may have this reply, and lead from the world old to the world new. With three documents and a
-- lane of 2, three Hands to a new continuous feed have the replies Pushed row 1, Pushed row 2 and Full. After
-- a Take, which has the reply Took row 1, a Hand has Pushed row 3 (proved: `LaneFills`).
abbrev pub Step : World → Event → Reply → World → Type 0
Step old (Write docs) (Outcomes batch) new =
    (batch ≡ whole_batch (merges_result old (map edit_of docs)).outcomes)
    × (new ≡ record old { journal = (merges_result old (map edit_of docs)).journal })
Step old (Write docs) _ new = ⊥
Step old (Interactive docs) (Outcomes batch) new =
    (batch ≡ whole_batch (drafts_result old (map draft_of docs)).outcomes)
    × (new ≡ record old { journal = (drafts_result old (map draft_of docs)).journal })
Step old (Interactive docs) _ new = ⊥
Step old (Begin params) (Opened feed) new =
    (old.deleted ≡ false) × (has_no_room old ≡ false) × (feed.number ≡ length old.feeds)
    × (new ≡ with_feed old (params_of params))
Step old (Begin params) DatabaseDeleted new = (old.deleted ≡ true) × (new ≡ old)
Step old (Begin params) TooManyFeeds new = (old.deleted ≡ false) × (has_no_room old ≡ true) × (new ≡ old)
Step old (Begin params) _ new = ⊥
Step old (Hand feed) (Pushed item) new =
    (found : Subscription) × (subscription old feed.number ≡ Some found)
    × (next_change old.journal found.feed ≡ Some item)
    × Pushes old feed.number found
    (feed_after_due found.feed (journal_due old.journal found.feed) (length old.journal)) item new
Step old (Hand feed) Full new =
    (found : Subscription) × (subscription old feed.number ≡ Some found)
    × ((item : ChangeItem) × (next_change old.journal found.feed ≡ Some item))
    × (old.limits.lane ≤ length found.lane)
    × (new ≡ old)
Step old (Hand feed) Nothing new =
    (found : Subscription) × (subscription old feed.number ≡ Some found)
    × (journal_due old.journal found.feed ≡ DueNothing)
    × (new
    ≡ with_subscription old feed.number
    (record found { feed = after_nothing found.feed (length old.journal) }))
Step old (Hand feed) Gone new =
    (due_if_any (current old.journal) (feed_of (subscription old feed.number)) ≡ DueGone) × (new ≡ old)
Step old (Hand feed) _ new = ⊥
Step old (Heartbeat feed) (Pushed item) new =
    (found : Subscription) × (subscription old feed.number ≡ Some found) × (is_beat_allowed found.feed ≡ true)
    × (item ≡ Beat)
    × Pushes old feed.number found found.feed item new
Step old (Heartbeat feed) Full new =
    (found : Subscription) × (subscription old feed.number ≡ Some found) × (is_beat_allowed found.feed ≡ true)
    × (old.limits.lane ≤ length found.lane) × (new ≡ old)
Step old (Heartbeat feed) Nothing new =
    (is_beat_allowed_if_any (feed_of (subscription old feed.number)) ≡ false) × (new ≡ old)
Step old (Heartbeat feed) _ new = ⊥
Step old (Expire feed) Nothing new = new ≡ world_after_expiry (subscription old feed.number) feed.number old
Step old (Expire feed) _ new = ⊥
Step old (Take feed) (Took item) new =
    (item ≡ slice_get (lane_of (subscription old feed.number)) 0)
    × (new ≡ world_after_take (subscription old feed.number) feed.number old)
Step old (Take feed) _ new = ⊥
Step old (Finish feed) (Left items) new =
    (items ≡ lane_of (subscription old feed.number))
    × (new ≡ world_after_finish (subscription old feed.number) feed.number old)
Step old (Finish feed) _ new = ⊥
Step old Delete Nothing new =
    (old.deleted ≡ false) × (new ≡ record old { deleted = true; feeds = map ended_subscription old.feeds })
Step old Delete DatabaseDeleted new = (old.deleted ≡ true) × (new ≡ old)
Step old Delete _ new = ⊥

-- The events may have these replies, one each, and lead from old to new, one step after another. Example:
-- after edits of a, b and then a again come the events Begin, Hand, Hand, Hand, Hand. Their replies are
-- Opened 0, the row of b at 2, the row of a at 3, an End at 3, and Gone (proved: `AgainIsLater`).
abbrev pub Run : World → List Event → List Reply → World → Type 0
Run old [] [] new = new ≡ old
Run old (event ∷ events) (reply ∷ replies) new =
    (mid : World) × Step old event reply mid × Run mid events replies new
Run old [] (reply ∷ replies) new = ⊥
Run old (event ∷ events) [] new = ⊥

-- The journal of a run before the event at this place, counted from 0. From the number of the events on, it
-- is the journal that the run leaves. In a run of Write a, Write b and Hand 0 it is the empty list at 0, a at
-- 1, and a and b at 2 and 3.
abbrev pub journal_at : (old : World) (events : List Event) (replies : List Reply) (new : World)
    → Run old events replies new → ℕ → List Edit
journal_at old [] replies new run place = old.journal
journal_at old (event ∷ events) [] new run place = old.journal
journal_at old (event ∷ events) (reply ∷ replies) new run zero = old.journal
journal_at old (event ∷ events) (reply ∷ replies) new run (suc place) =
    journal_at run.0 events replies new run.2 place
