-- A host of feeds, as its callers see it (own; feeds by CouchDB API reference, _changes and _db_updates).
use Rattle.std.specs.Prelude.{ℕ, ◌+◌, ◌-◌, ◌^◌, List, [], ◌∷◌, ◌++◌, length, Bool, false, ◌||◌, Option, Some}
use Rattle.std.specs.Prelude.{None, nat_le, unwrap_or, option_and_then, if◌then◌else◌}
use Rattle.hub_model.specs.Current.{Current}
use Rattle.hub_model.specs.Entries.{entry_in, with_change, without}
use Rattle.hub_model.specs.Feed.{Feed, Params, Due, DueGone, new_feed, next_due, feed_after_due, after_nothing, is_beat_allowed}
use Rattle.hub_model.specs.Feed.{expired_feed}
use Rattle.hub_model.specs.Hand.{item_of_due}
use Rattle.hub_model.specs.declared.feeds.Item.{Item}
use Rattle.hub_model.specs.declared.feeds.Style.{Style}
use Rattle.hub_feed.specs.Next.{next_of_due}
use Rattle.hub_feed.specs.declared.host.OpenFault.{OpenFault}
use Rattle.hub_feed.specs.declared.host.OpenFault.TheVariants.{NoMemory, Deleted, TooManyFeeds}
use Rattle.hub_feed.specs.declared.next.Next.{Next}
use Rattle.hub_feed.specs.declared.next.Next.TheVariants.{Give, Nothing, Gone}

-- the source of the feeds, and the feeds
pub record Hosted (R : Type 0) : Type 0 where
  pub length : ℕ  -- the number of edits
  pub life : ℕ  -- the number of the life of the edits
  pub current : List Current
  -- a current row as it is shown now, in a style, with its document or without
  pub shown : Style → Bool → Current → R
  pub feeds : List (ℕ × Feed)  -- the feeds that are not finished, with their numbers, as they were opened
  pub next_feed : ℕ  -- the number of the next feed: only lower numbers were given
  pub deleted : Bool  -- whether the source was deleted
  pub limit : ℕ  -- the greatest number of feeds

-- the host with these feeds, and with this next number
abbrev pub with_feeds : {R : Type 0} → Hosted R → List (ℕ × Feed) → ℕ → Hosted R
with_feeds h feeds next_feed = record h { feeds = feeds; next_feed = next_feed }

-- whether there are `limit` feeds or more, or no number of 64 bits is left for later feeds
abbrev pub is_full : {R : Type 0} → Hosted R → Bool
is_full h = nat_le h.limit (length h.feeds) || nat_le (2 ^ 64 - 1) h.next_feed

-- why no feed can be opened now, if none can: Deleted comes before TooManyFeeds
abbrev pub opening_refusal : {R : Type 0} → Hosted R → Option OpenFault
opening_refusal h = if h.deleted then Some Deleted else if is_full h then Some TooManyFeeds else None

-- why an opening fails: NoMemory only where nothing else refuses it
abbrev pub opening_fault : {R : Type 0} → Hosted R → OpenFault
opening_fault h = unwrap_or (opening_refusal h) NoMemory

-- The host after it opened a feed. The feed gets the next number, which is raised, so no number is given
-- twice. With feeds 3 and 5, of which 5 came last, the next feed gets 6, and the feed after it 7.
abbrev pub hosted_after_opening : {R : Type 0} → Hosted R → Params → Hosted R
hosted_after_opening h params =
    record h {
      feeds = h.feeds ++ (h.next_feed, new_feed params h.length h.life) ∷ [];
      next_feed = h.next_feed + 1;
    }

-- the step that is due to a feed over these rows; nothing any more where there is no feed
abbrev pub due_if_any : List Current → Option Feed → Due
due_if_any rows None = DueGone
due_if_any rows (Some feed) = next_due rows feed

-- the step that is due to the feed of this number
abbrev pub due_of_number : {R : Type 0} → Hosted R → ℕ → Due
due_of_number h id = due_if_any h.current (entry_in id h.feeds)

-- the answer of a feed that is asked for its item; Gone where there is no feed
abbrev pub next_if_any : {R : Type 0} → Hosted R → Option Feed → Next R
next_if_any h None = Gone
next_if_any h (Some feed) =
    next_of_due (h.shown feed.params.style feed.params.include_docs) h.current (next_due h.current feed)

-- the answer of the feed of this number
abbrev pub next_of_number : {R : Type 0} → Hosted R → ℕ → Next R
next_of_number h id = next_if_any h (entry_in id h.feeds)

-- the item that is due to a feed, if there is one
abbrev pub item_of_feed : {R : Type 0} → Hosted R → Feed → Option (Item R)
item_of_feed h feed = item_of_due (h.shown feed.params.style feed.params.include_docs) h.current (next_due h.current feed)

-- the item that is due to the feed of this number, if there is one
abbrev pub item_of_number : {R : Type 0} → Hosted R → ℕ → Option (Item R)
item_of_number h id = option_and_then (item_of_feed h) (entry_in id h.feeds)

-- The feeds after the feed of this number gave this answer. A feed with nothing to hand moves its place to
-- the length, and no other feed moves. Take feeds 3 and 5 while there are 9 edits. Where feed 3 had nothing
-- to hand, it has place 9, and feed 5 stays. Where feed 3 gave an item, both stay.
abbrev pub feeds_behind : {R : Type 0} → ℕ → ℕ → Next R → List (ℕ × Feed) → List (ℕ × Feed)
feeds_behind id len (Give item) feeds = feeds
feeds_behind id len Nothing feeds = with_change id (λ f. after_nothing f len) feeds
feeds_behind id len Gone feeds = feeds

-- the host after the feed of this number gave this answer
abbrev pub hosted_after_next : {R : Type 0} → Hosted R → ℕ → Next R → Hosted R
hosted_after_next h id next = record h { feeds = feeds_behind id h.length next h.feeds }

-- a feed after the step that was due to it
abbrev pub hosted_feed_after_due : {R : Type 0} → Hosted R → Feed → Feed
hosted_feed_after_due h feed = feed_after_due feed (next_due h.current feed) h.length

-- The host after the feed of this number handed the item that was due. After the row at 6 the feed's place is
-- 6, and it has one row more.
abbrev pub hosted_after_hand : {R : Type 0} → Hosted R → ℕ → Hosted R
hosted_after_hand h id = record h { feeds = with_change id (hosted_feed_after_due h) h.feeds }

-- whether a feed may hand a heartbeat; never where there is no feed
abbrev pub is_beat_allowed_if_any : Option Feed → Bool
is_beat_allowed_if_any None = false
is_beat_allowed_if_any (Some feed) = is_beat_allowed feed

-- the host once the time of the feed of this number is over
abbrev pub hosted_after_expiry : {R : Type 0} → Hosted R → ℕ → Hosted R
hosted_after_expiry h id = record h { feeds = with_change id expired_feed h.feeds }

-- The host after the feed of this number is finished: its number is not given again. Where feed 5 of the
-- feeds 3 and 5 is finished, feed 3 stays, and the next feed still gets 6.
abbrev pub hosted_after_finish : {R : Type 0} → Hosted R → ℕ → Hosted R
hosted_after_finish h id = record h { feeds = without id h.feeds }
