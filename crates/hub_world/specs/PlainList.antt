-- A plain list as a feed's outbox (own).
use Rattle.std.specs.Prelude.{ℕ, List, [], ◌∷◌, ◌++◌, drop, Option, Some, None, slice_get, length, ◌-◌}
use Rattle.hub_model.specs.RightlyHanded.{ChangeItem}
use Rattle.hub_shared.specs.Label.{Label}
use Rattle.hub_world.specs.declared.plain_list.Sent.{Sent, Nothing, Behind'}

-- the items that a list was sent, the first item first
abbrev pub items_of : {T : Type 0} → Sent T → List T
items_of Nothing = []
items_of (Behind' marker before item) = items_of before ++ item.value ∷ []

-- a list, as contracts see it
pub record ListState : Type 0 where
  pub label : Label  -- the parameters of its feed, its since and its life
  pub held : List ChangeItem  -- the items that were sent and not taken, the front first
  pub sent : List ChangeItem  -- all items that were sent
  pub capacity : ℕ  -- how many items it holds at most

-- a list that was sent nothing
abbrev pub new_list : Label → ℕ → ListState
new_list label capacity = record { label = label; held = []; sent = []; capacity = capacity }

-- the list after the push of an item: z comes behind x and y in x, y, z
abbrev pub behind : ListState → ChangeItem → ListState
behind state item = record state { held = state.held ++ item ∷ []; sent = state.sent ++ item ∷ [] }

-- the items that a list holds; none where there is no list
abbrev pub held_of : Option ListState → List ChangeItem
held_of None = []
held_of (Some state) = state.held

-- the front item of a list: of x and y it is x
abbrev pub front : ListState → Option ChangeItem
front state = slice_get state.held 0

-- the list after its front item is taken: of x and y there y stays
abbrev pub without_front : ListState → ListState
without_front state = record state { held = drop 1 state.held }

-- the last item of a list: of x and y it is y
abbrev pub last : ListState → Option ChangeItem
last state = slice_get state.held (length state.held - 1)
