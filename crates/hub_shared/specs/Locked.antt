-- A host of feeds and the outbox of each of its feeds, as they lie under a lock (own).
use Rattle.std.specs.Prelude.{◌≡◌, ℕ, ◌+◌, ◌<◌, ◌≤◌, List, [], All, Bool, true, false, Option, Some, None, ⊤}
use Rattle.hub_model.specs.Entries.{entry_in, AreRising}
use Rattle.hub_model.specs.Feed.{Feed}
use Rattle.hub_model.specs.declared.feeds.Item.{Item}
use Rattle.hub_model.specs.declared.feeds.Item.TheVariants.{Beat}
use Rattle.hub_params.specs.FeedModel.{params_in}
use Rattle.hub_feed.specs.Host.{Hosted, hosted_after_next, next_of_number}
use Rattle.hub_feed.specs.Host as host
use Rattle.hub_feed.specs.Hand.{handed_as}
use Rattle.hub_feed.specs.Hands.{taken_in}
use Rattle.hub_feed.specs.declared.handed.Handed.{Handed}
use Rattle.hub_feed.specs.declared.handed.Handed.TheVariants as handed
use Rattle.hub_feed.specs.declared.next.Next.{Next}
use Rattle.hub_feed.specs.declared.next.Next.TheVariants as next
use Rattle.hub_shared.specs.Label.{Label}
use Rattle.hub_shared.specs.Senders.{sends, IsRefused}

-- a host, and the outboxes of its feeds that are not finished
pub record LockedState (S K : Type 0) : Type 0 where
  pub state : S
  pub senders : List (ℕ × K)  -- by the numbers of their feeds, which rise
  pub lane : ℕ  -- how many items of a feed may wait at most

-- where `label` gives the label of an outbox, and `sent` the items that were sent to it
module _ {R K : Type 0} (label : K → Label) (sent : K → List (Item R)) (fits : Feed → List (Item R) → Type 0)
  where
    -- the outbox of a feed: its label has the feed's parameters and since, and its sent items fit the feed
    pub record IsSenderOf (f : Feed) (k : K) : Type 0 where
      pub asks : params_in (label k).asked ≡ f.params
      pub begins : (label k).since ≡ f.since
      pub list : fits f (sent k)

    -- a feed has its outbox, and where there is no feed there is no outbox
    abbrev pub IsServed : Option Feed → Option K → Type 0
    IsServed None None = ⊤
    IsServed None (Some k) = ⊥
    IsServed (Some f) None = ⊥
    IsServed (Some f) (Some k) = IsSenderOf f k

    -- Each feed that is not finished has its own outbox, and there are no other outboxes.
    -- With feeds 3 and 5 there is one outbox with the items that feed 3 handed, and one with those of feed 5.
    pub record AreSendersOf (h : Hosted R) (senders : List (ℕ × K)) : Type 0 where
      pub rising : AreRising senders
      pub given : All (λ (p : ℕ × K). p.0 < h.next_feed) senders
      pub each : (number : ℕ) → IsServed (entry_in number h.feeds) (entry_in number senders)

-- The total in the book of a host of so many edits: at most the edits, and all of them where it counts.
-- After 5 edits a book that counts has counted 5, and a book that counts nothing 0.
abbrev pub IsBookOf : (counts : Bool) → (total edits : ℕ) → Type 0
IsBookOf counts total edits = (total ≤ edits) × (counts ≡ true → total ≡ edits)

-- a host without feeds, with a book that has counted nothing; where there is a count, the host has no edit
abbrev pub IsUnused : {R : Type 0} → (counts : Bool) → (total : ℕ) → Hosted R → Type 0
IsUnused counts total h = (h.feeds ≡ []) × (total ≡ 0) × (counts ≡ true → h.length ≡ 0)

module _ {S R K : Type 0} (hosted : S → Hosted R) (with_hosted : S → Hosted R → S) where
  -- a step of the feeds alone, which leaves the outboxes as they were
  abbrev pub stepped : LockedState S K → (Hosted R → Hosted R) → LockedState S K
  stepped l step = record l { state = with_hosted l.state (step (hosted l.state)) }

  -- where `behind` gives an outbox after an item was sent to it
  module _ (behind : K → Item R → K) where
    -- the feed of this number handed the item that was due, and the item was sent to the feed's outbox
    abbrev pub handed_on : LockedState S K → ℕ → Item R → LockedState S K
    handed_on l number item =
        record (stepped l (λ h. host.hosted_after_hand h number)) { senders = sends behind number item l.senders }

    -- The effect of a hand with this answer, for the feed of this number; `refuses` holds of an outbox that
    -- gave an item back. An item that is due is sent, and the feed moves on; or it is refused, and nothing
    -- changes. A feed with nothing to hand moves to the length. Say that the row at 6 is due to feed 3. Then
    -- the answer is Row and the feed is at place 6, or the answer is Full and the feed keeps its place.
    abbrev pub Hands : (K → Item R → Type 0) → Next R → LockedState S K → ℕ → Handed → LockedState S K
        → Type 0
    Hands refuses (next.Give item) l number handed.Row new =
        (handed_as item ≡ handed.Row) × (new ≡ handed_on l number item)
    Hands refuses (next.Give item) l number handed.End new =
        (handed_as item ≡ handed.End) × (new ≡ handed_on l number item)
    Hands refuses (next.Give item) l number handed.Full new =
        IsRefused refuses l.senders number item × (new ≡ l)
    Hands refuses (next.Give item) l number handed.Nothing new = ⊥
    Hands refuses (next.Give item) l number handed.Gone new = ⊥
    Hands refuses next.Nothing l number answer new =
        (answer ≡ handed.Nothing) × (new ≡ stepped l (λ h. hosted_after_next h number next.Nothing))
    Hands refuses next.Gone l number answer new = (answer ≡ handed.Gone) × (new ≡ l)

    -- Hands of the feed of this number one after the other, of which each but the last one answered Row. So many
    -- items were sent, and the last answer is this one; the answer of no hand is Row. Say that the rows at 2 and
    -- 6 are due to feed 3, and then nothing. Then two hands sent 2 items with the answer Row, and three hands
    -- sent 2 items with the answer Nothing.
    pub data HandsEach (refuses : K → Item R → Type 0) (number : ℕ) (old : LockedState S K)
        : ℕ → Handed → LockedState S K → Type 0 where
      -- no hand
      no_hand : HandsEach refuses number old 0 handed.Row old
      -- one hand more
      one_hand : {count : ℕ} {answer : Handed} {mid new : LockedState S K}
          → HandsEach refuses number old count handed.Row mid
          → Hands refuses (next_of_number (hosted mid.state) number) mid number answer new
          → HandsEach refuses number old (count + taken_in answer) answer new

-- The effect of a beat, where a heartbeat is due or not. A due heartbeat is sent, and the feed stays; or it
-- is refused, and nothing changes. The answer is Full where it is refused, and else Nothing.
abbrev pub Beats : {S R K : Type 0} → (K → Item R → K) → (K → Item R → Type 0) → Bool → LockedState S K → ℕ
    → Handed → LockedState S K → Type 0
Beats behind refuses true l number handed.Full new = IsRefused refuses l.senders number Beat × (new ≡ l)
Beats behind refuses true l number handed.Nothing new =
    new ≡ record l { senders = sends behind number Beat l.senders }
Beats behind refuses true l number handed.Row new = ⊥
Beats behind refuses true l number handed.End new = ⊥
Beats behind refuses true l number handed.Gone new = ⊥
Beats behind refuses false l number answer new = (answer ≡ handed.Nothing) × (new ≡ l)
