-- The two ends of a lane, as their callers see them (own).
use Rattle.std.specs.Prelude.{◌≡◌, ℕ, List, [], ◌∷◌, ◌++◌, Option, Some, length}
use Rattle.atomic_table.specs.Seated.{TableId}
use Rattle.crossbeam_queue.specs.declared.array_queue.Doing.{Doing}
use Rattle.crossbeam_queue.specs.declared.array_queue.Slotted.{Slotted}

-- the identity of a lane: no other lane has the same
abbrev pub LaneId : Type 0
LaneId = TableId

-- the lane to which a queue belongs
abbrev pub lane_of : {T V Q A : Type 0} → Slotted (Option T) (Doing T V) Q A → LaneId
lane_of queue = queue.table.shared.table_id

-- the view of the end that sends
pub record SenderState (L I : Type 0) : Type 0 where
  pub lane_id : LaneId  -- the lane whose end it is
  pub label : L  -- the lane's label, which says which lists may be sent
  pub sent : List I  -- every item that was sent, the first one first
  pub capacity : ℕ  -- how many items the lane holds at most

-- the view of the end that takes
pub record ReceiverState (L I : Type 0) : Type 0 where
  pub lane_id : LaneId  -- the lane whose end it is
  pub label : L  -- the lane's label, which says which lists may be sent
  pub taken : List I  -- every item that was taken, the first one first

-- The lane held as many items as it may, after the items that were taken by then. With a, b and c sent and a
-- capacity of 2, it held b and c, and a was taken. With a alone it was not full. No clause can name the items
-- that the receiver had taken at that moment, so this says no more than that so many items were ever sent.
-- The promise rests on the word `refuses` of the trait `Asks`, which is abstract: code with that bound tells
-- a full lane only where it asked the lane.
abbrev pub HasBeenFull : {I : Type 0} → ℕ → List I → Type 0
HasBeenFull {I} capacity sent =
    (taken : List I) × (held : List I) × (length held ≡ capacity) × (sent ≡ taken ++ held)

module _ {L I : Type 0} where
  -- the label that is picked for a new lane is this one, and it allows the empty list
  abbrev pub IsNewLabel : (L → List I → Type 0) → Option L → L → Type 0
  IsNewLabel allows picked label = (picked ≡ Some label) × allows label []

  -- the new sender of this lane, under this label and of this capacity
  abbrev pub new_sender : LaneId → L → ℕ → SenderState L I
  new_sender lane label capacity =
      record { lane_id = lane; label = label; sent = []; capacity = capacity }

  -- the new receiver of this lane, under this label
  abbrev pub new_receiver : LaneId → L → ReceiverState L I
  new_receiver lane label = record { lane_id = lane; label = label; taken = [] }

  -- the sender after a push
  abbrev pub behind_push : SenderState L I → I → SenderState L I
  behind_push s item = record s { sent = s.sent ++ item ∷ [] }

  -- the receiver after a take
  abbrev pub behind_take : ReceiverState L I → I → ReceiverState L I
  behind_take r item = record r { taken = r.taken ++ item ∷ [] }

  -- The taken items are the beginning of a list that the label allows, as the sent items are such a list.
  -- Where just a, b, c is allowed, this holds of no item, of a, of a and b, and of all three.
  abbrev pub IsAllowedBeginning : (L → List I → Type 0) → ReceiverState L I → Type 0
  IsAllowedBeginning allows r = (rest : List I) × allows r.label (r.taken ++ rest)
