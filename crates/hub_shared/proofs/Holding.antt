-- The effect of several hands of one feed on a host and the outboxes of its feeds.
use Rattle.std.proofs.Common.{◌≡◌, ◌∙◌, ℕ, ◌<◌, List, [], ◌∷◌, ◌++◌, refl, sym, subst, ap, length, Option, Some, Bool, inl, inr}
use Rattle.std.specs.Prelude.{IfSome, position, get_or, slice_set, slice_get}
use Rattle.std.proofs.lemmas.Bool.{cases_lt}
use Rattle.std.proofs.lemmas.List.{get_or-set_same, length-set, set-set}
use Rattle.std.proofs.lemmas.List.Folds.{position_or_len-set}
use Rattle.std.proofs.lemmas.Option.{none-some, slice_get_past}
use Rattle.hub_model.specs.Entries.{is_of}
use Rattle.hub_model.specs.Feed.{Feed, Params, DueNothing, next_due, after_nothing}
use Rattle.hub_model.specs.declared.feeds.Item.{Item}
use Rattle.hub_model.proofs.Entries.{entry_here, place_found, stays_here}
use Rattle.hub_feed.specs.Hands.{HandsItems, none, more}
use Rattle.hub_feed.specs.Host.{Hosted, with_feeds, next_of_number, item_of_number, item_of_feed, hosted_feed_after_due}
use Rattle.hub_feed.specs.Host.{hosted_after_hand, hosted_after_next}
use Rattle.hub_feed.specs.declared.handed.Handed.{Handed}
use Rattle.hub_feed.specs.declared.handed.Handed.TheVariants.{Row}
use Rattle.hub_feed.specs.declared.next.Next.TheVariants.{Nothing}
use Rattle.hub_feed.proofs.HandLemmas.{hands_keeps}
use Rattle.hub_shared.specs.Label.{Label}
use Rattle.hub_shared.specs.Locked.{AreSendersOf, Hands, HandsEach, IsBookOf, no_hand, one_hand}
use Rattle.hub_shared.proofs.Booking.{book_kept}
use Rattle.hub_shared.proofs.Handing.{hand_in, may_take, serves_hand}
use Rattle.hub_shared.proofs.Sending.{Permits, Serves}

-- the entry with this number stands at this place, and gets another value there
module _ {A : Type 0} (number at : ℕ) (entries : List (ℕ × A)) (entry : ℕ × A)
    (placed : Some at ≡ position (is_of number) entries) (is : entry ≡ get_or entries at entry) (new : A) where
  within : at < length entries
  within = elim (cases_lt at (length entries)) [
    | inl low ↦ low
    | inr past ↦
        absurd (none-some entry
        (sym (slice_get_past entries at past) ∙ (place_found (is_of number) entries at placed entry is).1))
  ]

  -- it stands there still
  pub placed_still : Some at ≡ position (is_of number) (slice_set entries at (entry.0, new))
  placed_still =
      rw (
        position_or_len-set (is_of number) entries at (entry.0, new) entry (ap (is_of number) is),
        length-set entries at (entry.0, new),
      )
      placed

  -- it has the new value
  pub value_there : (entry.0, new) ≡ get_or (slice_set entries at (entry.0, new)) at (entry.0, new)
  value_there = sym (get_or-set_same entries at (entry.0, new) (entry.0, new) within)

module _ {S R K : Type 0} (label : K → Label) (sent : K → List (Item R)) (hosted : S → Hosted R)
    (with_hosted : S → Hosted R → S)
    (fits : S → Feed → List (Item R) → Type 0) (right : Params → ℕ → List (Item R) → Type 0)
    (hosts : (s : S) (feeds : List (ℕ × Feed)) (next : ℕ)
    → hosted (with_hosted s (with_feeds (hosted s) feeds next)) ≡ with_feeds (hosted s) feeds next)
    (rightly : (s : S) (f : Feed) (items : List (Item R)) → fits s f items → right f.params f.since items)
    (stays : (s : S) (h : Hosted R) (f : Feed) (items : List (Item R)) → fits s f items
    → fits (with_hosted s h) f items)
    (handed_fits : (s : S) (f : Feed) (items : List (Item R)) (item : Item R)
    → item_of_feed (hosted s) f ≡ Some item → fits s f items
    → fits s (hosted_feed_after_due (hosted s) f) (items ++ item ∷ []))
    (waiting_fits : (s : S) (f : Feed) (items : List (Item R)) → next_due (hosted s).current f ≡ DueNothing
    → fits s f items → fits s (after_nothing f (hosted s).length) items)
    (behind : K → Item R → K) (label_stays : (k : K) (item : Item R) → label (behind k item) ≡ label k)
    (sent_adds : (k : K) (item : Item R) → sent (behind k item) ≡ sent k ++ item ∷ [])
    (refuses : K → Item R → Type 0) (state : S) (id : ℕ) (senders : List (ℕ × K))
    (serve : AreSendersOf label sent (fits state) (hosted state) senders) (at : ℕ) (entry : ℕ × K)
    (placed : Some at ≡ position (is_of id) senders) (is : entry ≡ get_or senders at entry) where
  abbrev after : K → List (ℕ × K)
  after sender = slice_set senders at (entry.0, sender)

  -- the senders are those of the feeds after each hand, with the sender that the hands led to at its place
  pub serves_items : {count : ℕ} {answer : Handed} {new : S} {sender : K}
      → HandsItems hosted with_hosted behind refuses id state entry.1 count answer new sender
      → AreSendersOf label sent (fits new) (hosted new) (after sender)
  serves_items none =
      subst (AreSendersOf label sent (fits state) (hosted state))
      (sym (stays_here id senders at placed entry is entry.1 refl)) serve
  serves_items {answer = answer} {new = new} {sender = sender} (more {mid = mid} {held = held} before hands) =
      subst (AreSendersOf label sent (fits new) (hosted new))
      (set-set senders at (entry.0, held) (entry.0, sender))
      (serves_hand label sent hosted with_hosted fits right hosts rightly stays handed_fits mid id (after held)
      (serves_items before) waiting_fits behind label_stays sent_adds refuses at (entry.0, held)
      (placed_still id at senders entry placed is held) (value_there id at senders entry placed is held) new sender
      (next_of_number (hosted mid) id) refl answer hands)

  -- the hands of the host are hands of the host with its senders
  pub hands_in : (lane : ℕ) {count : ℕ} {answer : Handed} {new : S} {sender : K}
      → HandsItems hosted with_hosted behind refuses id state entry.1 count answer new sender
      → HandsEach hosted with_hosted behind refuses id
      (record { state = state; senders = senders; lane = lane }) count answer
      (record { state = new; senders = after sender; lane = lane })
  hands_in lane none =
      subst (λ own. HandsEach hosted with_hosted behind refuses id
      (record { state = state; senders = senders; lane = lane }) 0 Row
      (record { state = state; senders = own; lane = lane }))
      (sym (stays_here id senders at placed entry is entry.1 refl)) no_hand
  hands_in lane {answer = answer} {new = new} {sender = sender} (more {mid = mid} {held = held} before hands) =
      one_hand (hands_in lane before)
      (subst (λ own. Hands hosted with_hosted behind refuses (next_of_number (hosted mid) id)
      (record { state = mid; senders = after held; lane = lane }) id answer
      (record { state = new; senders = own; lane = lane }))
      (set-set senders at (entry.0, held) (entry.0, sender))
      (hand_in label sent hosted with_hosted fits right hosts rightly stays handed_fits mid id (after held)
      (serves_items before) waiting_fits behind label_stays sent_adds refuses at (entry.0, held)
      (placed_still id at senders entry placed is held) (value_there id at senders entry placed is held) new sender
      lane (next_of_number (hosted mid) id) answer hands))

  -- the item that is due after these hands may be sent to the outbox
  pub may_take_next : (Takes : K → Item R → Type 0)
      → ((k : K) (item : Item R)
      → Permits label sent hosted with_hosted fits right hosts rightly stays k (sent k ++ item ∷ [])
      → Takes k item) → {count : ℕ} {answer : Handed} {new : S} {sender : K}
      → HandsItems hosted with_hosted behind refuses id state entry.1 count answer new sender
      → IfSome (item_of_number (hosted new) id) (Takes sender)
  may_take_next Takes permits {new = new} {sender = sender} hands =
      may_take label sent hosted with_hosted fits right hosts rightly stays handed_fits new id (after sender)
      (serves_items hands) Takes permits sender
      (entry_here id (after sender) at (placed_still id at senders entry placed is sender) (entry.0, sender)
      (value_there id at senders entry placed is sender))

-- A book that counted the edits of a host has counted those of the host after hands.
module _ {S R K : Type 0} (hosted : S → Hosted R) (with_hosted : S → Hosted R → S)
    (hosts : (s : S) (feeds : List (ℕ × Feed)) (next : ℕ)
    → hosted (with_hosted s (with_feeds (hosted s) feeds next)) ≡ with_feeds (hosted s) feeds next)
    (behind : K → Item R → K) (refuses : K → Item R → Type 0) (id : ℕ) (counts : Bool) (total : ℕ) where
  abbrev Holds : S → Type 0
  Holds s = IsBookOf counts total (hosted s).length

  pub book_by_hands : {state : S} {sink : K} → Holds state → {count : ℕ} {answer : Handed} {new : S} {sender : K}
      → HandsItems hosted with_hosted behind refuses id state sink count answer new sender → Holds new
  book_by_hands book none = book
  book_by_hands book (more {answer = answer} {mid = mid} {new = new} {held = held} {taker = taker} before hands) =
      let here : Holds mid = book_by_hands book before in
      let given = hosted_after_hand (hosted mid) id in
      let looked = hosted_after_next (hosted mid) id Nothing in
      hands_keeps behind refuses held Holds mid (with_hosted mid given) (with_hosted mid looked) new here
      (book_kept hosted with_hosted hosts counts total mid (with_hosted mid given) given refl here)
      (book_kept hosted with_hosted hosts counts total mid (with_hosted mid looked) looked refl here)
      (next_of_number (hosted mid) id) answer taker hands
