-- Hands of one feed, one after the other, as one holding of its host makes them (own).
use Rattle.std.specs.Prelude.{ℕ, ◌+◌}
use Rattle.hub_model.specs.declared.feeds.Item.{Item}
use Rattle.hub_feed.specs.Hand.{HandsTo}
use Rattle.hub_feed.specs.Host.{Hosted, hosted_after_hand, hosted_after_next, next_of_number}
use Rattle.hub_feed.specs.declared.handed.Handed.{Handed}
use Rattle.hub_feed.specs.declared.handed.Handed.TheVariants as handed
use Rattle.hub_feed.specs.declared.next.Next.TheVariants.{Nothing}

-- the number of items that a sink took in a hand with this answer
abbrev pub taken_in : Handed → ℕ
taken_in handed.Row = 1
taken_in handed.End = 1
taken_in handed.Full = 0
taken_in handed.Nothing = 0
taken_in handed.Gone = 0

-- The feed has this number. The sink is `behind sink item` after it took an item. Where it gave the item
-- back, `refuses sink item` holds.
module _ {R S K : Type 0} (hosted : S → Hosted R) (with_hosted : S → Hosted R → S) (behind : K → Item R → K)
    (refuses : K → Item R → Type 0) (number : ℕ) where
  -- one hand of the feed, from a host and a sink to a host and a sink
  abbrev pub HandsOne : S → K → Handed → S → K → Type 0
  HandsOne s k answer t l =
      HandsTo behind refuses s (with_hosted s (hosted_after_hand (hosted s) number))
      (with_hosted s (hosted_after_next (hosted s) number Nothing)) k (next_of_number (hosted s) number) answer t l

  -- Hands one after the other, from this host and this sink on. Each hand but the last one answered Row. The
  -- sink took so many items, the last answer is this one, and the host and the sink are now these. The answer
  -- of no hand is Row. Where the rows at 2 and 6 are due, and then nothing, two hands take 2 items with the
  -- answer Row, and three hands take 2 items with the answer Nothing.
  pub data HandsItems (old : S) (sink : K) : ℕ → Handed → S → K → Type 0 where
    -- no hand
    none : HandsItems old sink 0 handed.Row old sink
    -- one hand more
    more : {count : ℕ} {answer : Handed} {mid new : S} {held taker : K}
        → HandsItems old sink count handed.Row mid held → HandsOne mid held answer new taker
        → HandsItems old sink (count + taken_in answer) answer new taker
