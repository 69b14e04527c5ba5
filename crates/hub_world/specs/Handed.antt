-- The items that a feed handed out over a run, and the items that its connection has taken (own).
use Rattle.std.specs.Prelude.{◌≡◌, ℕ, List, [], ◌∷◌, ◌++◌, ◌==◌, if◌then◌else◌, Some, slice_get}
use Rattle.hub_model.specs.RightlyHanded.{ChangeItem}
use Rattle.hub_world.specs.declared.event.Event.{Event}
use Rattle.hub_world.specs.declared.event.Event.TheVariants.{Hand, Heartbeat, Take}
use Rattle.hub_world.specs.declared.reply.Reply.{Reply}
use Rattle.hub_world.specs.declared.reply.Reply.TheVariants.{Pushed, Took}

-- at this place, counted from 0, this event stands among the events, and this reply among the replies. Of
-- the events Begin and Hand 0 with the replies Opened 0 and Gone, Hand 0 and Gone stand at 1.
abbrev pub IsStepAt : List Event → List Reply → ℕ → Event → Reply → Type 0
IsStepAt events replies place event reply =
    (slice_get events place ≡ Some event) × (slice_get replies place ≡ Some reply)

-- the items that one step put into the lane of the feed of this number. Hand 0 with the reply Pushed row 6
-- put row 6 into the lane of feed 0, and nothing into that of feed 1.
abbrev pub handed_by : ℕ → Event → Reply → List ChangeItem
handed_by number (Hand feed) (Pushed item) = if feed.number == number then item ∷ [] else []
handed_by number (Heartbeat feed) (Pushed item) = if feed.number == number then item ∷ [] else []
handed_by number _ _ = []

-- the items that one step took from that lane: Take 0 with the reply Took row 6 took row 6 from that of feed
-- 0
abbrev pub taken_by : ℕ → Event → Reply → List ChangeItem
taken_by number (Take feed) (Took (Some item)) = if feed.number == number then item ∷ [] else []
taken_by number _ _ = []

-- the items that the steps of a run put into that lane, in order. In the run of `left_early` feed 0 handed
-- the rows 6, 7 and 8 (proved: `TakesAFront`).
abbrev pub items_handed : ℕ → List Event → List Reply → List ChangeItem
items_handed number (event ∷ events) (reply ∷ replies) =
    handed_by number event reply ++ items_handed number events replies
items_handed number _ _ = []

-- The items that the steps of a run took from that lane, in order. In the run of `left_early` that was row 6
-- alone, since the feed was finished then (proved: `TakesAFront`).
abbrev pub items_taken : ℕ → List Event → List Reply → List ChangeItem
items_taken number (event ∷ events) (reply ∷ replies) = taken_by number event reply ++ items_taken number events replies
items_taken number _ _ = []

-- the second list begins with the first. The list of row 6, and the empty list, are prefixes of the rows 6, 7
-- and 8; the list of row 7 is none.
abbrev pub IsPrefixOf : List ChangeItem → List ChangeItem → Type 0
IsPrefixOf items others = (rest : List ChangeItem) × (items ++ rest ≡ others)
