-- The rule of a lane's queue: its items, the oldest first, and the knowledge of its passes (own).
use Rattle.std.specs.Prelude.{◌≡◌, ◌⊎◌, Option, Some, None, List, [], ◌∷◌, ◌++◌, Contains}
use Rattle.hub_lane.specs.declared.rule.View.{View}
use Rattle.hub_lane.specs.declared.rule.View.TheVariants.{NoLabel, OfSender, OfReceiver}

-- Items that may be left of the sent items, after some were taken from the front.
-- Of a, b and c, all three may be left, b and c, c alone, or none.
abbrev pub IsLeftOf : {I : Type 0} → List I → List I → Type 0
IsLeftOf {I} held sent = (taken : List I) × (sent ≡ taken ++ held)

module _ {L I : Type 0} where
  -- the items that the sender's pass sent, or the receiver's took
  abbrev pub items_of : View L I → List I
  items_of NoLabel = []
  items_of (OfSender label sent) = sent
  items_of (OfReceiver label taken) = taken

  -- the same pass after one item more
  abbrev pub with_item : View L I → I → View L I
  with_item NoLabel item = NoLabel
  with_item (OfSender label sent) item = OfSender label (sent ++ item ∷ [])
  with_item (OfReceiver label taken) item = OfReceiver label (taken ++ item ∷ [])

  -- the sender's pass of a new lane under this label
  abbrev pub new_sender_view : Option L → View L I
  new_sender_view None = NoLabel
  new_sender_view (Some label) = OfSender label []

  -- the receiver's pass of a new lane under this label
  abbrev pub new_receiver_view : Option L → View L I
  new_receiver_view None = NoLabel
  new_receiver_view (Some label) = OfReceiver label []

  -- a queue that is being made: its one pass has no label yet
  pub record IsUnlabelled (items : List I) (views : List (View L I)) : Type 0 where
    pub one_pass : views ≡ NoLabel ∷ []
    pub empty : items ≡ []

module _ {L I : Type 0} (allows : L → List I → Type 0) where
  -- the taken items of the receiver's pass, and then these items, are a list that the label allows
  abbrev pub IsAllowedWith : View L I → List I → Type 0
  IsAllowedWith NoLabel held = Unit {0}
  IsAllowedWith (OfSender label sent) held = Unit {0}
  IsAllowedWith (OfReceiver label taken) held = allows label (taken ++ held)

  -- the taken items of the receiver's pass are the beginning of a list that the label allows
  abbrev pub HasAllowedRest : View L I → Type 0
  HasAllowedRest view = (held : List I) × IsAllowedWith view held

  -- the sender's pass of a lane under this label, which allows the sent items
  abbrev pub IsOfSender : L → View L I → Type 0
  IsOfSender label view = (view ≡ OfSender label (items_of view)) × allows label (items_of view)

  -- the receiver's pass of a lane under this label, which allows a list that begins with the taken items
  abbrev pub IsOfReceiver : L → View L I → Type 0
  IsOfReceiver label view = (view ≡ OfReceiver label (items_of view)) × HasAllowedRest view

  -- A lane: the sent items are the taken items and then those in the queue. The label allows the sent items.
  -- With a, b and c sent and a taken, the queue holds b and c.
  pub record IsLabelled (items : List I) (views : List (View L I)) : Type 0 where
    pub label : L
    pub sent : List I
    pub taken : List I
    pub two_passes : views ≡ OfSender label sent ∷ OfReceiver label taken ∷ []
    pub in_order : sent ≡ taken ++ items
    pub allowed : allows label sent

  -- the rule, which each step of each end keeps
  abbrev pub IsLane : List I → List (View L I) → Type 0
  IsLane items views = IsUnlabelled items views ⊎ IsLabelled items views

  -- The rule holds at every moment of a lane. Wherever it holds, the ends have one label. The sent items are
  -- the taken items and then the items in the queue, and the label allows the sent items.
  abbrev pub EndsAgree : Type 0
  EndsAgree =
      (items : List I) (views : List (View L I)) (label other : L) (sent taken : List I) → IsLane items views
      → Contains views (OfSender label sent) → Contains views (OfReceiver other taken)
      → (label ≡ other) × (sent ≡ taken ++ items) × allows label sent
