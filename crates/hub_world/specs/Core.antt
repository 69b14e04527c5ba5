-- The core: the database and the lanes that a program keeps under a lock; and the world that a core shows.
-- Finished feeds are dropped from the core, and stay in the world (own).
use Rattle.std.specs.Prelude.{◌≡◌, ℕ, ◌+◌, List, [], ◌∷◌, length, map, true, All, if◌then◌else◌}
use Rattle.hub_document.specs.declared.limits.Limits as hub
use Rattle.hub_database.specs.Database.{Database}
use Rattle.hub_model.specs.Feed.{Feed}
use Rattle.hub_model.specs.RightlyHanded.{ChangeItem}
use Rattle.hub_shared.specs.Locked.{LockedState}
use Rattle.hub_world.specs.PlainList.{ListState}
use Rattle.hub_world.specs.World.{World, Limits, Subscription, is_finished}

-- a core: a database, and the lanes of its feeds by their numbers
pub record Core : Type 0 where
  pub db : Database
  pub lanes : List (ℕ × List ChangeItem)

-- the items that a numbered outbox holds, with its number
abbrev pub held_entry : ℕ × ListState → ℕ × List ChangeItem
held_entry p = (p.0, p.1.held)

-- the core of the state under a lock
abbrev pub core_of : LockedState Database ListState → Core
core_of l = record { db = l.state; lanes = map held_entry l.senders }

-- the limits of a world, by the limits of the hub
abbrev pub limits_of : hub.Limits → Limits
limits_of limits = record { journal = limits.journal; feeds = limits.feeds; lane = limits.lane }

-- the feeds that are not finished, with their numbers, of feeds numbered from n. Of three feeds numbered from
-- 4, of which the second is finished, they are (4, the first) and (6, the third).
abbrev pub unfinished_from : ℕ → List Subscription → List (ℕ × Subscription)
unfinished_from n [] = []
unfinished_from n (subscription ∷ subscriptions) =
    if is_finished subscription.feed.status then unfinished_from (n + 1) subscriptions else (n, subscription)
    ∷ unfinished_from (n + 1) subscriptions

-- the feeds of a world that are not finished, with their numbers
abbrev pub unfinished_feeds : World → List (ℕ × Subscription)
unfinished_feeds world = unfinished_from 0 world.feeds

-- the feed of a numbered subscription, with its number
abbrev pub feed_entry : ℕ × Subscription → ℕ × Feed
feed_entry p = (p.0, p.1.feed)

-- the lane of a numbered subscription, with its number
abbrev pub lane_entry : ℕ × Subscription → ℕ × List ChangeItem
lane_entry p = (p.0, p.1.lane)

-- a finished feed has nothing in its lane
abbrev pub IsEmptied : Subscription → Type 0
IsEmptied subscription = is_finished subscription.feed.status ≡ true → subscription.lane ≡ []

-- the core shows this world. Where feed 0 of the world's two feeds is finished, the core has feed 1 with its
-- lane alone, and 2 as the number of the next feed.
pub record Shows (core : Core) (world : World) : Type 0 where
  pub limits : world.limits ≡ limits_of core.db.limits
  pub life : world.life ≡ core.db.life
  pub journal : world.journal ≡ core.db.journal
  pub deleted : world.deleted ≡ core.db.deleted
  pub given : length world.feeds ≡ core.db.next_feed
  pub feeds : map feed_entry (unfinished_feeds world) ≡ core.db.feeds
  pub lanes : map lane_entry (unfinished_feeds world) ≡ core.lanes
  pub emptied : All IsEmptied world.feeds

-- The state under a lock shows some world, and each of its lanes has the capacity that its limits say. With a
-- limit of 64 that is the capacity of each lane, and of each lane of a feed that is opened later.
pub record IsWorld (l : LockedState Database ListState) : Type 0 where
  pub lane : l.lane ≡ l.state.limits.lane
  pub room : All (λ (p : ℕ × ListState). p.1.capacity ≡ l.lane) l.senders
  pub shown : (world : World) × Shows (core_of l) world
