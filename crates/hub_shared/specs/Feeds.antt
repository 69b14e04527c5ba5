-- A feed, as its connection has it (own; CouchDB API reference, _changes).
use Rattle.std.specs.Prelude.{◌≡◌, ℕ, List, [], ◌∷◌, ◌++◌, Option, None, IfSome, IfNone}
use Rattle.hub_model.specs.Entries.{entry_in}
use Rattle.hub_model.specs.Feed.{Params}
use Rattle.hub_model.specs.declared.feeds.Item.{Item}
use Rattle.hub_feed.specs.Host.{Hosted, opening_refusal}
use Rattle.hub_lane.specs.Ends.{IsAllowedBeginning, LaneId, ReceiverState, behind_take}
use Rattle.hub_params.specs.FeedModel.{params_in}
use Rattle.hub_params.specs.FeedParams.{FeedAsked}
use Rattle.hub_shared.specs.Label.{Label, label_of}

-- the view of a feed with rows of this type
pub record FeedState (R : Type 0) : Type 0 where
  pub number : ℕ  -- the number that its host gave it
  pub lane_id : LaneId  -- the lane from which it takes
  pub label : Label  -- its parameters, its since and its life
  pub taken : List (Item R)  -- every item that was taken, the first one first

module _ {R : Type 0} where
  -- the feed of this number that takes from this end
  abbrev pub feed_of : ℕ → ReceiverState Label (Item R) → FeedState R
  feed_of number r =
      record { number = number; lane_id = r.lane_id; label = r.label; taken = r.taken }

  -- the end that a feed takes from
  abbrev pub receiver_of : FeedState R → ReceiverState Label (Item R)
  receiver_of feed = record { lane_id = feed.lane_id; label = feed.label; taken = feed.taken }

  -- a feed after one more item was taken
  abbrev pub behind_item : FeedState R → Item R → FeedState R
  behind_item feed item = record feed { taken = feed.taken ++ item ∷ [] }

  -- where `right` says which lists of items are right for a feed of these parameters and this since
  module _ (right : Params → ℕ → List (Item R) → Type 0) where
    -- the items that an end took are the beginning of a list that is right for its label
    abbrev pub IsRightSoFar : ReceiverState Label (Item R) → Type 0
    IsRightSoFar end =
        IsAllowedBeginning (λ (l : Label) items. right (params_in l.asked) l.since items) end

    -- The effect on such an end of a call that looks for an item. A found item stands after the items that
    -- were taken, and without a found item the end is as it was. The taken items are right so far.
    abbrev pub EndTakes : ReceiverState Label (Item R) → Option (Item R) → ReceiverState Label (Item R)
        → Type 0
    EndTakes old found new =
        IfSome found (λ item. new ≡ behind_take old item) × IfNone found (new ≡ old) × IsRightSoFar new

    -- the effect of such a call on a feed
    abbrev pub Takes : FeedState R → Option (Item R) → FeedState R → Type 0
    Takes old found new =
        IfSome found (λ item. new ≡ behind_item old item) × IfNone found (new ≡ old)
        × IsRightSoFar (receiver_of new)

  -- The host opened the feed with these parameters. The host had no reason to refuse, and no feed of it had
  -- the number. The label is that of a feed which this host opens now, and no item was taken yet.
  pub record IsOpened (h : Hosted R) (asked : FeedAsked) (feed : FeedState R) : Type 0 where
    pub free : opening_refusal h ≡ None
    pub fresh : entry_in feed.number h.feeds ≡ None
    pub next : feed.number ≡ h.next_feed
    pub label : feed.label ≡ label_of asked h
    pub none : feed.taken ≡ []
