-- A database with its feeds and their lanes, and the effects of events on them (own; feeds by CouchDB API
-- reference, _changes).
use Rattle.std.specs.Prelude.{◌≡◌, ℕ, ◌<◌, ◌-◌, ◌^◌, ◌||◌, nat_le, List, [], ◌∷◌, ◌++◌, length, drop, Bool}
use Rattle.std.specs.Prelude.{true, false, not, Option, Some, None, option_map, slice_get, slice_set}
use Rattle.std.specs.Prelude.{count_by}
use Rattle.hub_model.specs.Draft.{Draft, draft_result}
use Rattle.hub_model.specs.Feed.{Params, Status, Open, Ending, Ended, Finished, Feed, new_feed, expired_feed, end}
use Rattle.hub_model.specs.Feed.{finished_feed}
use Rattle.hub_model.specs.Journal.{Edit}
use Rattle.hub_model.specs.Outcome.{StoresAll, stores_all, merge_result}
use Rattle.hub_model.specs.RightlyHanded.{ChangeItem}

-- the limits of a database
pub record Limits : Type 0 where
  pub journal : ℕ
  pub feeds : ℕ  -- feeds that are not finished
  pub lane : ℕ  -- items that a lane holds

-- a feed, and its lane: the items that the feed handed and its connection has not taken yet
pub record Subscription : Type 0 where
  pub feed : Feed
  pub lane : List ChangeItem

-- a database; a feed's number is its place in `feeds`, from 0, and finished feeds stay there
pub record World : Type 0 where
  pub limits : Limits
  pub life : ℕ  -- the number of its life, which never changes
  pub journal : List Edit
  pub deleted : Bool
  pub feeds : List Subscription

-- a database with no edits and no feeds, in its first life
abbrev pub empty : Limits → World
empty limits = record { limits = limits; life = 1; journal = []; deleted = false; feeds = [] }

-- whether the subscriber of a feed with this status is gone
abbrev pub is_finished : Status → Bool
is_finished Open = false
is_finished Ending = false
is_finished Ended = false
is_finished Finished = true

-- how many feeds are not finished
abbrev pub open_feeds : World → ℕ
open_feeds world = count_by (λ s. not (is_finished s.feed.status)) world.feeds

-- whether no more feed may be opened: as many feeds as the limit allows are not finished, or no number is
-- left. With a limit of one feed and one feed that is not finished, no other may be opened. Once that feed is
-- finished, another may (proved: `FeedsAreCounted`).
abbrev pub has_no_room : World → Bool
has_no_room world = nat_le world.limits.feeds (open_feeds world) || nat_le (2 ^ 64 - 1) (length world.feeds)

-- feed f with its lane, where there is one
abbrev pub subscription : World → ℕ → Option Subscription
subscription world f = slice_get world.feeds f

-- the world with this subscription in the place of that of feed f
abbrev pub with_subscription : World → ℕ → Subscription → World
with_subscription world f subscription = record world { feeds = slice_set world.feeds f subscription }

-- the feed of a subscription
abbrev pub feed_of : Option Subscription → Option Feed
feed_of maybe_subscription = option_map (λ s. s.feed) maybe_subscription

-- the items that were handed and not taken; none without a subscription
abbrev pub lane_of : Option Subscription → List ChangeItem
lane_of None = []
lane_of (Some subscription) = subscription.lane

-- the outcomes of a write of these edits with their histories, and the journal after it
abbrev pub merges_result : World → List Edit → StoresAll
merges_result world edits = stores_all (merge_result world.limits.journal) world.deleted world.journal edits

-- the outcomes of a write of these drafts, and the journal after it
abbrev pub drafts_result : World → List Draft → StoresAll
drafts_result world drafts = stores_all (draft_result world.limits.journal) world.deleted world.journal drafts

-- the world with one feed more, which has an empty lane
abbrev pub with_feed : World → Params → World
with_feed world params =
    record world {
      feeds = world.feeds
          ++ record { feed = new_feed params (length world.journal) world.life; lane = [] } ∷ [];
    }

-- the subscription once the item went into its lane: its feed goes on as this feed
abbrev pub subscription_after_push : Subscription → Feed → ChangeItem → Subscription
subscription_after_push subscription feed item = record { feed = feed; lane = subscription.lane ++ item ∷ [] }

-- the lane of feed f has room, and new is the world with the item in that lane. Where a lane holds 2 items at
-- most, and has row 1 and row 2, there is no room for row 3 (proved: `LaneFills`).
abbrev pub Pushes : World → ℕ → Subscription → Feed → ChangeItem → World → Type 0
Pushes old f subscription feed item new =
    (length subscription.lane < old.limits.lane)
    × (new ≡ with_subscription old f (subscription_after_push subscription feed item))

-- the world once the time of feed f is over; without such a feed the world stays as it is
abbrev pub world_after_expiry : Option Subscription → ℕ → World → World
world_after_expiry None f world = world
world_after_expiry (Some subscription) f world =
    with_subscription world f (record subscription { feed = expired_feed subscription.feed })

-- the world once the front item of feed f's lane is taken: from row 1 and row 2 there stays row 2
abbrev pub world_after_take : Option Subscription → ℕ → World → World
world_after_take None f world = world
world_after_take (Some subscription) f world =
    with_subscription world f (record subscription { lane = drop 1 subscription.lane })

-- The world once the subscriber of feed f is gone: the feed is finished, and its lane is empty. So the
-- heartbeats that were in the lane are never taken (proved: `BeatsAreAsked`).
abbrev pub world_after_finish : Option Subscription → ℕ → World → World
world_after_finish None f world = world
world_after_finish (Some subscription) f world =
    with_subscription world f (record { feed = finished_feed subscription.feed; lane = [] })

-- a feed with its lane once its database is deleted: the items in the lane stay there
abbrev pub ended_subscription : Subscription → Subscription
ended_subscription subscription = record subscription { feed = end subscription.feed }
