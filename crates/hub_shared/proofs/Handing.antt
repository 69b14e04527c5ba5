-- The effect of one hand on a host and the outboxes of its feeds.
use Rattle.std.proofs.Common.{◌≡◌, ◌∙◌, ℕ, List, [], ◌∷◌, ◌++◌, refl, sym, subst, Option, Some, None, false}
use Rattle.std.specs.Prelude.{IfSome, option_and_then, position, get_or, slice_set}
use Rattle.std.proofs.lemmas.Option.{same_Some}
use Rattle.hub_model.specs.Current.{Current}
use Rattle.hub_model.specs.Entries.{entry_in, is_of}
use Rattle.hub_model.specs.Feed.{Feed, Params, Due, DueRow, DueEnd, DueNothing, DueGone, next_due, after_nothing}
use Rattle.hub_model.specs.Hand.{item_of_due}
use Rattle.hub_model.specs.declared.feeds.Item.{Item}
use Rattle.hub_model.proofs.Entries.{changed_here, entry_here, stays_here}
use Rattle.hub_feed.specs.Hand.{HandsTo}
use Rattle.hub_feed.specs.Host.{Hosted, with_feeds, next_if_any, next_of_number, hosted_after_next, hosted_feed_after_due, hosted_after_hand}
use Rattle.hub_feed.specs.Host.{is_beat_allowed_if_any, item_of_number, item_of_feed}
use Rattle.hub_feed.specs.Next.{next_of_due}
use Rattle.hub_feed.specs.declared.handed.Handed.{Handed}
use Rattle.hub_feed.specs.declared.handed.Handed.TheVariants as did
use Rattle.hub_feed.specs.declared.next.Next.{Next}
use Rattle.hub_feed.specs.declared.next.Next.TheVariants.{Give, Nothing, Gone}
use Rattle.hub_shared.specs.Label.{Label}
use Rattle.hub_shared.specs.Locked.{IsServed, AreSendersOf, Hands, LockedState}
use Rattle.hub_shared.specs.Senders.{sends, MaySend}
use Rattle.hub_shared.proofs.Sending.{Permits, Serves, may_give, gives, rests}

-- an item that a feed gives is due to it
given_due : {R : Type 0} (show : Current → R) (rows : List Current) (due : Due) (item : Item R)
    → Give item ≡ next_of_due show rows due → item_of_due show rows due ≡ Some item
given_due show rows (DueRow row) item gives = cc
given_due show rows (DueEnd last_seq) item gives = cc
given_due show rows DueNothing item gives = absurd (cc)
given_due show rows DueGone item gives = absurd (cc)

pub given_by : {R : Type 0} (host : Hosted R) (feed : Option Feed) (item : Item R)
    → Give item ≡ next_if_any host feed → option_and_then (item_of_feed host) feed ≡ Some item
given_by host None item gives = absurd (cc)
given_by host (Some feed) item gives = given_due _ host.current (next_due host.current feed) item gives

module _ {S R K : Type 0} (label : K → Label) (sent : K → List (Item R)) (hosted : S → Hosted R)
    (with_hosted : S → Hosted R → S)
    (fits : S → Feed → List (Item R) → Type 0) (right : Params → ℕ → List (Item R) → Type 0)
    (hosts : (s : S) (feeds : List (ℕ × Feed)) (next : ℕ)
    → hosted (with_hosted s (with_feeds (hosted s) feeds next)) ≡ with_feeds (hosted s) feeds next)
    (rightly : (s : S) (f : Feed) (items : List (Item R)) → fits s f items → right f.params f.since items)
    (stays : (s : S) (h : Hosted R) (f : Feed) (items : List (Item R)) → fits s f items
    → fits (with_hosted s h) f items)
    (handed_fits : (s : S) (f : Feed) (items : List (Item R)) (item : Item R)
    → item_of_feed (hosted s) f ≡ Some item → fits s f items
    → fits s (hosted_feed_after_due (hosted s) f) (items ++ item ∷ []))
    (state : S) (id : ℕ) (senders : List (ℕ × K))
    (serve : AreSendersOf label sent (fits state) (hosted state) senders) where
  -- the item that is due may be sent to an outbox that takes each list that is right for its feed
  pub may_take : (Takes : K → Item R → Type 0)
      → ((k : K) (item : Item R)
      → Permits label sent hosted with_hosted fits right hosts rightly stays k (sent k ++ item ∷ [])
      → Takes k item) → (outbox : K) → entry_in id senders ≡ Some outbox
      → IfSome (item_of_number (hosted state) id) (Takes outbox)
  may_take Takes permits outbox is = from (item_of_number (hosted state) id) refl
    where
      one : (item : Item R)
          → MaySend (Permits label sent hosted with_hosted fits right hosts rightly stays) sent senders id
          item
          → Takes outbox item
      one item may =
          permits outbox item
          (subst (λ (own : K).
          Permits label sent hosted with_hosted fits right hosts rightly stays own (sent own ++ item ∷ []))
          (same_Some may.0 outbox (sym may.1 ∙ is)) may.2)

      from : (next_due : Option (Item R)) → item_of_number (hosted state) id ≡ next_due → IfSome next_due (Takes outbox)
      from None none = tt
      from (Some item) some =
          one item
          (may_give label sent hosted with_hosted fits right hosts rightly stays handed_fits state id senders
          item serve some)

  -- without a sender of this number there is no feed of this number
  pub no_feed : entry_in id senders ≡ None → Gone ≡ next_of_number (hosted state) id
  no_feed none =
      from (entry_in id (hosted state).feeds)
      (subst (IsServed label sent (fits state) (entry_in id (hosted state).feeds)) none (serve.each id))
    where
      from : (feed : Option Feed) → IsServed label sent (fits state) feed None → Gone ≡ next_if_any
          (hosted state) feed
      from None served = refl
      from (Some feed) served = absurd served

  -- without a sender of this number no heartbeat is due
  pub no_beat : entry_in id senders ≡ None → is_beat_allowed_if_any (entry_in id (hosted state).feeds) ≡ false
  no_beat none =
      from (entry_in id (hosted state).feeds)
      (subst (IsServed label sent (fits state) (entry_in id (hosted state).feeds)) none (serve.each id))
    where
      from : (feed : Option Feed) → IsServed label sent (fits state) feed None → is_beat_allowed_if_any feed ≡ false
      from None served = refl
      from (Some feed) served = absurd served

  abbrev given : S
  given = with_hosted state (hosted_after_hand (hosted state) id)

  abbrev looked : S
  looked = with_hosted state (hosted_after_next (hosted state) id Nothing)

  -- for the sender at this place, after a hand of the host to it
  module _ (waiting_fits : (s : S) (f : Feed) (items : List (Item R)) → next_due (hosted s).current f ≡ DueNothing
      → fits s f items → fits s (after_nothing f (hosted s).length) items)
      (behind : K → Item R → K) (label_stays : (k : K) (item : Item R) → label (behind k item) ≡ label k)
      (sent_adds : (k : K) (item : Item R) → sent (behind k item) ≡ sent k ++ item ∷ [])
      (refuses : K → Item R → Type 0) (at : ℕ) (entry : ℕ × K)
      (placed : Some at ≡ position (is_of id) senders) (is : entry ≡ get_or senders at entry) (new : S)
      (sender : K) where
    abbrev after : List (ℕ × K)
    after = slice_set senders at (entry.0, sender)

    same : sender ≡ entry.1 → after ≡ senders
    same kept = stays_here id senders at placed entry is sender kept

    put : (item : Item R) → sender ≡ behind entry.1 item → after ≡ sends behind id item senders
    put item pushed =
        changed_here id senders at placed entry is (λ own. behind own item) sender serve.rising pushed

    abbrev Serve : S → List (ℕ × K) → Type 0
    Serve host own = Serves label sent hosted with_hosted fits right hosts rightly stays host own

    moved_to : (host : S) (own : List (ℕ × K)) → new ≡ host → after ≡ own → Serve host own
        → Serve new after
    moved_to host own moves sends serve =
        subst (λ z. Serve z after) (sym moves) (subst (λ z. Serve host z) (sym sends) serve)

    taken : (item : Item R) → Give item ≡ next_of_number (hosted state) id → new ≡ given
        → sender ≡ behind entry.1 item → Serve new after
    taken item now moves pushed =
        moved_to given (sends behind id item senders) moves (put item pushed)
        (gives label sent hosted with_hosted fits right hosts rightly stays handed_fits state id senders item
        serve (given_by (hosted state) (entry_in id (hosted state).feeds) item now) behind label_stays
        sent_adds)

    -- the senders are again those of the feeds
    pub serves_hand : (answer : Next R) → answer ≡ next_of_number (hosted state) id → (answers : Handed)
        → HandsTo behind refuses state given looked entry.1 answer answers new sender → Serve new after
    serves_hand (Give item) now did.Row hands = taken item now hands.1 hands.2
    serves_hand (Give item) now did.End hands = taken item now hands.1 hands.2
    serves_hand (Give item) now did.Full hands = moved_to state senders hands.1 (same hands.2) serve
    serves_hand (Give item) now did.Nothing hands = absurd hands
    serves_hand (Give item) now did.Gone hands = absurd hands
    serves_hand Nothing now answers hands =
        moved_to looked senders hands.1 (same hands.2)
        (rests label sent hosted with_hosted fits right hosts rightly stays state id senders serve
        waiting_fits now)
    serves_hand Gone now answers hands = moved_to state senders hands.1 (same hands.2) serve

    abbrev locked : S → List (ℕ × K) → ℕ → LockedState S K
    locked host own lane = record { state = host; senders = own; lane = lane }

    -- the hand of the host is a hand of the host with its senders
    pub hand_in : (lane : ℕ) (answer : Next R) (answers : Handed)
        → HandsTo behind refuses state given looked entry.1 answer answers new sender
        → Hands hosted with_hosted behind refuses answer (locked state senders lane) id answers
        (locked new after lane)
    hand_in lane (Give item) did.Row hands = (hands.0, λ k. locked (hands.1 k) (put item hands.2 k) lane)
    hand_in lane (Give item) did.End hands = (hands.0, λ k. locked (hands.1 k) (put item hands.2 k) lane)
    hand_in lane (Give item) did.Full hands = (
      (entry.1, entry_here id senders at placed entry is, hands.0),
      λ k. locked (hands.1 k) (same hands.2 k) lane,
    )
    hand_in lane (Give item) did.Nothing hands = absurd hands
    hand_in lane (Give item) did.Gone hands = absurd hands
    hand_in lane Nothing answers hands = (hands.0, λ k. locked (hands.1 k) (same hands.2 k) lane)
    hand_in lane Gone answers hands = (hands.0, λ k. locked (hands.1 k) (same hands.2 k) lane)
