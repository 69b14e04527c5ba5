-- One hand, as a step of a feed, and as a step of the list or the host that keeps it.
use Rattle.std.proofs.Common.{◌≡◌, ℕ, ◌+◌, subst, sym, refl, arith}
use Rattle.hub_model.specs.declared.feeds.Item.{Item}
use Rattle.hub_feed.specs.Hand.{HandsTo}
use Rattle.hub_feed.specs.Hands.{HandsItems, HandsOne, more, taken_in}
use Rattle.hub_feed.specs.Host.{Hosted}
use Rattle.hub_feed.specs.declared.handed.Handed.{Handed}
use Rattle.hub_feed.specs.declared.handed.Handed.TheVariants as handed
use Rattle.hub_feed.specs.declared.next.Next.{Next}
use Rattle.hub_feed.specs.declared.next.Next.TheVariants as next

-- the states of a part, and of the whole that keeps it, before and after the hand
module _ {R K : Type 0} (behind : K → Item R → K) (refuses : K → Item R → Type 0) (sink : K) {X Y : Type 0}
    (old given looked new : X) (whole whole_given whole_looked whole_new : Y)
    (stays : new ≡ old → whole_new ≡ whole) (gives : new ≡ given → whole_new ≡ whole_given)
    (looks : new ≡ looked → whole_new ≡ whole_looked) where
  -- a hand of the part is a hand of the whole
  pub hands_lifted : (answer : Next R) (did : Handed) (taker : K)
      → HandsTo behind refuses old given looked sink answer did new taker
      → HandsTo behind refuses whole whole_given whole_looked sink answer did whole_new taker
  hands_lifted (next.Give item) handed.Row taker hands = (hands.0, gives hands.1, hands.2)
  hands_lifted (next.Give item) handed.End taker hands = (hands.0, gives hands.1, hands.2)
  hands_lifted (next.Give item) handed.Full taker hands = (hands.0, stays hands.1, hands.2)
  hands_lifted (next.Give item) handed.Nothing taker hands = absurd hands
  hands_lifted (next.Give item) handed.Gone taker hands = absurd hands
  hands_lifted next.Nothing did taker hands = (hands.0, looks hands.1, hands.2)
  hands_lifted next.Gone did taker hands = (hands.0, stays hands.1, hands.2)

-- a property of the state before the hand, after an item and after nothing to hand holds after the hand
module _ {R K : Type 0} (behind : K → Item R → K) (refuses : K → Item R → Type 0) (sink : K) {X : Type 0}
    (P : X → Type 0) (old given looked new : X) (stays : P old) (gives : P given) (looks : P looked) where
  pub hands_keeps : (answer : Next R) (did : Handed) (taker : K)
      → HandsTo behind refuses old given looked sink answer did new taker → P new
  hands_keeps (next.Give item) handed.Row taker hands = subst P (sym hands.1) gives
  hands_keeps (next.Give item) handed.End taker hands = subst P (sym hands.1) gives
  hands_keeps (next.Give item) handed.Full taker hands = subst P (sym hands.1) stays
  hands_keeps (next.Give item) handed.Nothing taker hands = absurd hands
  hands_keeps (next.Give item) handed.Gone taker hands = absurd hands
  hands_keeps next.Nothing did taker hands = subst P (sym hands.1) looks
  hands_keeps next.Gone did taker hands = subst P (sym hands.1) stays

-- hands of one feed, and one hand more
module _ {R S K : Type 0} (hosted : S → Hosted R) (with_hosted : S → Hosted R → S) (behind : K → Item R → K)
    (refuses : K → Item R → Type 0) (number : ℕ) {old mid new : S} {sink held taker : K} {count : ℕ}
    (before : HandsItems hosted with_hosted behind refuses number old sink count handed.Row mid held) where
  -- the hand answered so
  pub one_more : (answer did : Handed) → answer ≡ did
      → HandsOne hosted with_hosted behind refuses number mid held answer new taker
      → HandsItems hosted with_hosted behind refuses number old sink (count + taken_in did) did new taker
  one_more answer did is hands =
      more before (subst (λ d. HandsOne hosted with_hosted behind refuses number mid held d new taker) is hands)

  -- the sink took no item in the hand
  pub none_taken : (answer : Handed) → (answer ≡ handed.Row → ⊥) → (answer ≡ handed.End → ⊥)
      → HandsOne hosted with_hosted behind refuses number mid held answer new taker
      → HandsItems hosted with_hosted behind refuses number old sink count answer new taker
  none_taken handed.Row row end hands = absurd (row refl)
  none_taken handed.End row end hands = absurd (end refl)
  none_taken handed.Full row end hands = let same : count + 0 ≡ count = omega arith in
      subst (λ n. HandsItems hosted with_hosted behind refuses number old sink n handed.Full new taker) same
      (more before hands)
  none_taken handed.Nothing row end hands = let same : count + 0 ≡ count = omega arith in
      subst (λ n. HandsItems hosted with_hosted behind refuses number old sink n handed.Nothing new taker) same
      (more before hands)
  none_taken handed.Gone row end hands = let same : count + 0 ≡ count = omega arith in
      subst (λ n. HandsItems hosted with_hosted behind refuses number old sink n handed.Gone new taker) same
      (more before hands)
