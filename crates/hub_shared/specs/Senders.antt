-- The outboxes of feeds, by the numbers of the feeds (own).
use Rattle.std.specs.Prelude.{◌≡◌, ℕ, List, Some}
use Rattle.hub_model.specs.Entries.{entry_in, with_change}
use Rattle.hub_feed.specs.Hand.{MayTake}

module _ {K I : Type 0} where
  -- The outboxes after an item was sent to the outbox of this number; `behind` gives an outbox after an item.
  -- Where an item is sent to the outbox of feed 5, the outbox of feed 3 is as it was.
  abbrev pub sends : (K → I → K) → ℕ → I → List (ℕ × K) → List (ℕ × K)
  sends behind number item outboxes = with_change number (λ k. behind k item) outboxes

  -- there is an outbox of this number, and it allows the item after the items that were sent to it
  abbrev pub MaySend : (K → List I → Type 0) → (K → List I) → List (ℕ × K) → ℕ → I → Type 0
  MaySend allows sent outboxes number item =
      (k : K) × (entry_in number outboxes ≡ Some k) × MayTake allows sent k item

  -- there is an outbox of this number, and `refuses` holds of it and the item
  abbrev pub IsRefused : (K → I → Type 0) → List (ℕ × K) → ℕ → I → Type 0
  IsRefused refuses outboxes number item =
      (k : K) × (entry_in number outboxes ≡ Some k) × refuses k item
