-- Lanes by the numbers of their feeds (own).
use Rattle.std.specs.Prelude.{ℕ, ◌-◌, List, [], length, drop, slice_get, unwrap_or, Option, option_and_then}
use Rattle.hub_model.specs.RightlyHanded.{ChangeItem}
use Rattle.hub_model.specs.Entries.{with_change, entry_in, AreRising}

-- the lanes of a core
abbrev pub Lanes : Type 0
Lanes = List (ℕ × List ChangeItem)

-- the numbers of the lanes rise
abbrev pub IsRising : Lanes → Type 0
IsRising lanes = AreRising lanes

-- the item at the front of the lane of this number, if there is one: of x and y it is x
abbrev pub front : ℕ → Lanes → Option ChangeItem
front number lanes = option_and_then (λ items. slice_get items 0) (entry_in number lanes)

-- the lanes after the front item of the lane of this number is taken
abbrev pub without_front : ℕ → Lanes → Lanes
without_front number lanes = with_change number (drop 1) lanes

-- the item at the back of the lane of this number, if there is one: of x and y it is y
abbrev pub back : ℕ → Lanes → Option ChangeItem
back number lanes = option_and_then (λ items. slice_get items (length items - 1)) (entry_in number lanes)

-- the items in the lane of this number; none where there is no such lane
abbrev pub lane_items : ℕ → Lanes → List ChangeItem
lane_items number lanes = unwrap_or (entry_in number lanes) []
