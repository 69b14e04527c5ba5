-- One hand: the item that is due is made, then the sink takes it, and only then the feed moves (own).
use Rattle.std.specs.Prelude.{◌≡◌, List, [], ◌∷◌, ◌++◌}
use Rattle.hub_model.specs.declared.feeds.Item.{Item}
use Rattle.hub_model.specs.declared.feeds.Item.TheVariants as item
use Rattle.hub_feed.specs.declared.handed.Handed.{Handed}
use Rattle.hub_feed.specs.declared.handed.Handed.TheVariants as handed
use Rattle.hub_feed.specs.declared.next.Next.{Next}
use Rattle.hub_feed.specs.declared.next.Next.TheVariants as next

-- The answer of a hand whose item the sink took. It is Row for a row and for a heartbeat, and End for an end.
abbrev pub handed_as : {R : Type 0} → Item R → Handed
handed_as (item.Row row) = handed.Row
handed_as item.Beat = handed.Row
handed_as (item.End last_seq pending) = handed.End

-- A sink that took the items `sent sink` may take this item, since `allows` allows the items with it at their
-- end. A sink that took rows at 2 and 6 may take the row at 9 where rows at 2, 6 and 9 are allowed.
abbrev pub MayTake : {K I : Type 0} → (K → List I → Type 0) → (K → List I) → K → I → Type 0
MayTake allows sent sink item = allows sink (sent sink ++ item ∷ [])

-- The state is that of a feed, of a list of feeds or of a host. It is `old` before the hand, `given` after
-- the sink took the item, and `looked` after there was nothing to hand. The sink is `behind sink item` after
-- it took the item. Where it gave the item back, `refuses sink item` holds.
module _ {R X K : Type 0} (behind : K → Item R → K) (refuses : K → Item R → Type 0)
    (old given looked : X) (sink : K) where
  -- One hand with this answer. The sink takes the item that is due, and the state moves on; or the sink
  -- refuses the item, and nothing changes. The sink never takes another item. Where the row at 6 is due, the
  -- answer may be Row: the sink took that row, and the feed's place is 6. It may be Full: feed and sink are
  -- as they were.
  abbrev pub HandsTo : Next R → Handed → X → K → Type 0
  HandsTo (next.Give item) handed.Row new taker =
      (handed_as item ≡ handed.Row) × (new ≡ given) × (taker ≡ behind sink item)
  HandsTo (next.Give item) handed.End new taker =
      (handed_as item ≡ handed.End) × (new ≡ given) × (taker ≡ behind sink item)
  HandsTo (next.Give item) handed.Full new taker = refuses sink item × (new ≡ old) × (taker ≡ sink)
  HandsTo (next.Give item) handed.Nothing new taker = ⊥
  HandsTo (next.Give item) handed.Gone new taker = ⊥
  HandsTo next.Nothing answer new taker = (answer ≡ handed.Nothing) × (new ≡ looked) × (taker ≡ sink)
  HandsTo next.Gone answer new taker = (answer ≡ handed.Gone) × (new ≡ old) × (taker ≡ sink)
