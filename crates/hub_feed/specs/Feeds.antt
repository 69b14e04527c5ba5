-- The feeds of a host, by their numbers (own; feeds by CouchDB API reference, _changes and _db_updates).
use Rattle.std.specs.Prelude.{◌≡◌, ℕ, ◌<◌, ◌≤◌, List, Bool, false, Option, Some, IfSome, position}
use Rattle.std.specs.List.{All}
use Rattle.hub_model.specs.Current.{Current}
use Rattle.hub_model.specs.Entries.{AreRising, entry_in, is_of}
use Rattle.hub_model.specs.Feed.{Feed, end}
use Rattle.hub_model.specs.declared.feeds.Style.{Style}
use Rattle.hub_feed.specs.Host.{Hosted}
use Rattle.hub_feed.specs.Reach.{IsFirst}

-- the feeds that are not finished, with their numbers, and the number of the next feed
pub record FeedList : Type 0 where
  pub feeds : List (ℕ × Feed)
  pub next : ℕ

-- The numbers of the feeds rise and are below the next number, which is new. Feeds 3 and 5 with the next
-- number 6 are so. With the next number 5 they are not, since 5 was given.
pub record AreNumbered (next : ℕ) (feeds : List (ℕ × Feed)) : Type 0 where
  pub rising : AreRising feeds
  pub given : All (λ (p : ℕ × Feed). p.0 < next) feeds

-- The place of a feed, and its bound if there is one, are at most this number of edits. With 5 edits this
-- holds of a feed with place 3 and bound 5, but not of a feed with place 3 and bound 8.
abbrev pub IsBehind : ℕ → Feed → Type 0
IsBehind length feed = (feed.place ≤ length) × IfSome feed.bound (λ bound. bound ≤ length)

-- the place and the bound of each feed are at most this number of edits
abbrev pub AreBehind : ℕ → List (ℕ × Feed) → Type 0
AreBehind length feeds = All (λ (p : ℕ × Feed). IsBehind length p.1) feeds

-- The feed of this number stands at `at` and is ready for a step, while there are so many edits with these
-- current rows. If the feed is open, `seq` is the sequence of its first row in reach, or None where no row is
-- in reach. Take 9 edits with rows at 2, 6 and 9, and open feeds 3 and 5 without a bound or a filter, both at
-- place 3. Feed 5 is ready at 1 with 6.
pub record IsReadyAt (length : ℕ) (rows : List Current) (feeds : List (ℕ × Feed)) (id at : ℕ)
    (seq : Option ℕ) : Type 0 where
  pub behind : AreBehind length feeds
  pub placed : Some at ≡ position (is_of id) feeds
  pub first : IsFirst seq rows (entry_in id feeds)

-- The list has these feeds now, and the same next number. Feeds that were behind the last of `least` or more
-- edits (`AreBehind`) are so still. Where feed 3 of the feeds 3 and 5 is forgotten, the list changes to feed
-- 5 alone, with 0 as `least`. A feed that hands a row while there are 9 edits changes the list with 9 as
-- `least`.
pub record IsChangedTo (feeds : List (ℕ × Feed)) (least : ℕ) (old now : FeedList) : Type 0 where
  pub new : now ≡ record old { feeds = feeds }
  pub behind : (length : ℕ) → least ≤ length → AreBehind length old.feeds → AreBehind length now.feeds

-- a feed, with its number, once its source is deleted: an open feed has only its End left to hand
abbrev pub ended_entry : ℕ × Feed → ℕ × Feed
ended_entry p = (p.0, end p.1)

-- The host of these feeds over so many edits with these current rows, which `shown` shows. A step of a feed
-- reads no other member of it.
abbrev pub over : {R : Type 0} → ℕ → List Current → (Style → Bool → Current → R) → FeedList → Hosted R
over length current shown list = record {
  length = length;
  life = 0;
  current = current;
  shown = shown;
  feeds = list.feeds;
  next_feed = list.next;
  deleted = false;
  limit = 0;
}

-- the feeds of a host, and its next number
abbrev pub feeds_of : {R : Type 0} → Hosted R → FeedList
feeds_of h = record { feeds = h.feeds; next = h.next_feed }
