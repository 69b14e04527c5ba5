-- The two ends of a feed's lane. The lane holds blocks of items, and one holding puts a block there (own).
use Rattle.std.specs.Prelude.{◌≡◌, ℕ, ◌-◌, ◌≤◌, List, [], ◌∷◌, ◌++◌, length, take, Option, Some, None}
use Rattle.std.specs.List.{flat_map}
use Rattle.hub_model.specs.declared.feeds.Item.{Item}
use Rattle.hub_lane.specs.Ends.{LaneId, SenderState, ReceiverState}
use Rattle.hub_shared.specs.Label.{Label}

-- the items of blocks, in order
-- the items of a block of a and b, and of a block of c, are a, b and c
abbrev pub items_in : {I : Type 0} → List (List I) → List I
items_in blocks = flat_map (λ block. block) blocks

-- the front of a list, before this end
-- before the end c, the front of a, b and c is a and b
abbrev pub front_of : {I : Type 0} → List I → List I → List I
front_of all end = take (length all - length end) all

-- the view of a feed's subscriber; the feed has rows of this type
pub record SubscriberState (R : Type 0) : Type 0 where
  pub lane_id : LaneId  -- the lane whose end it is
  pub label : Label  -- the lane's label, which says which lists may be sent
  pub sent : List (Item R)  -- every item that was sent, the first one first
  pub waiting : List (Item R)  -- the last items of `sent`, which the lane has not got yet
  pub room : ℕ  -- how many items may wait without taking memory

module _ {R : Type 0} where
  -- a new subscriber of this lane, under this label and with this room
  abbrev pub new_subscriber : LaneId → Label → ℕ → SubscriberState R
  new_subscriber lane label room =
      record { lane_id = lane; label = label; sent = []; waiting = []; room = room }

  -- a subscriber after one more item was sent
  -- where a waits and b is sent, a and b wait
  abbrev pub behind_sent : SubscriberState R → Item R → SubscriberState R
  behind_sent s item = record s { sent = s.sent ++ item ∷ []; waiting = s.waiting ++ item ∷ [] }

  -- a subscriber with this room
  abbrev pub with_room : ℕ → SubscriberState R → SubscriberState R
  with_room room s = record s { room = room }

  -- a subscriber after the lane got its waiting items
  abbrev pub handed_over : SubscriberState R → SubscriberState R
  handed_over s = record s { waiting = []; room = 0 }

  -- the items that wait, and none without a subscriber
  abbrev pub waiting_of : Option (SubscriberState R) → List (Item R)
  waiting_of None = []
  waiting_of (Some s) = s.waiting

  -- as many items wait as have room
  abbrev pub HasNoRoom : SubscriberState R → Type 0
  HasNoRoom s = s.room ≤ length s.waiting

  -- `refuses` holds of a sender and of the waiting items, as a block. The sender is that of the subscriber's
  -- lane, and sent all items but those that wait. With `Asks` it says that the lane was full at a moment of
  -- the call.
  abbrev pub IsHeldUp : (SenderState Label (List (Item R)) → List (Item R) → Type 0) → SubscriberState R
      → Type 0
  IsHeldUp refuses s =
      (sender : SenderState Label (List (Item R))) × (sender.lane_id ≡ s.lane_id) × (sender.label ≡ s.label)
      × (sender.capacity ≡ 1) × (items_in sender.sent ++ s.waiting ≡ s.sent) × refuses sender s.waiting

  -- the view of an end that took these blocks, and has these items left of the last block
  abbrev pub end_of : ReceiverState Label (List (Item R)) → List (Item R) → ReceiverState Label (Item R)
  end_of r left =
      record { lane_id = r.lane_id; label = r.label; taken = front_of (items_in r.taken) left }

  -- `lacks` holds of the receiver of the end's lane, and the end took every item of the receiver's blocks.
  -- With `Asks` it says that the lane was empty at a moment of the call.
  abbrev pub IsDrained : (ReceiverState Label (List (Item R)) → Type 0) → ReceiverState Label (Item R)
      → Type 0
  IsDrained lacks end =
      (receiver : ReceiverState Label (List (Item R))) × (receiver.lane_id ≡ end.lane_id)
      × (receiver.label ≡ end.label) × (items_in receiver.taken ≡ end.taken) × lacks receiver
