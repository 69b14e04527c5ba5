-- The effect of a step of the host on the outboxes.
use Rattle.std.proofs.Common.{◌≡◌, ◌≢◌, ℕ, ◌+◌, ◌<◌, List, [], ◌∷◌, ◌++◌, ap, refl, sym, ◌∙◌}
use Rattle.std.proofs.Common.{subst, ◌⊎◌, inl, inr, Option, Some, None, option_map}
use Rattle.std.specs.Prelude.{All}
use Rattle.std.proofs.lemmas.Bool.{cases_eq}
use Rattle.std.proofs.lemmas.Option.{none-some, same_Some}
use Rattle.hub_model.specs.Entries.{entry_in, with_change, without}
use Rattle.hub_model.specs.Feed.{Feed}
use Rattle.hub_model.specs.declared.feeds.Item.{Item}
use Rattle.hub_model.proofs.Entries.{own_changed, other_changed, own_without, other_without, own_added}
use Rattle.hub_model.proofs.Entries.{other_added, rising_changed, rising_without, rising_added}
use Rattle.hub_model.proofs.Entries.{below_changed, below_without, below_added, none_above}
use Rattle.hub_params.specs.FeedModel.{params_in}
use Rattle.hub_feed.specs.Host.{Hosted}
use Rattle.hub_shared.specs.Label.{Label}
use Rattle.hub_shared.specs.Locked.{IsSenderOf, IsServed, AreSendersOf}

module _ {R K : Type 0} (label : K → Label) (sent : K → List (Item R))
    (old_fits new_fits : Feed → List (Item R) → Type 0)
    (keeps : (feed : Feed) (items : List (Item R)) → old_fits feed items → new_fits feed items) where
  -- a feed that stays is served as before
  pub stays_served : (maybe_feed : Option Feed) (s : Option (K)) → IsServed label sent old_fits maybe_feed s
      → IsServed label sent new_fits maybe_feed s
  stays_served None None i = tt
  stays_served None (Some s) i = absurd i
  stays_served (Some feed) None i = absurd i
  stays_served (Some feed) (Some s) i = record {
    asks = i.asks;
    begins = i.begins;
    list = keeps feed (sent s) i.list;
  }

  -- one feed changes, and no other
  module _ (id : ℕ) (old new : Hosted R)
      (others : (q : ℕ) → q ≢ id → entry_in q new.feeds ≡ entry_in q old.feeds) where
    -- that feed is served by its new outbox, and the others as before
    served : (senders senders' : List (ℕ × K)) → AreSendersOf label sent old_fits old senders
        → IsServed label sent new_fits (entry_in id new.feeds) (entry_in id senders')
        → ((q : ℕ) → q ≢ id → entry_in q senders' ≡ entry_in q senders) → (q : ℕ)
        → IsServed label sent new_fits (entry_in q new.feeds) (entry_in q senders')
    served senders senders' d mine rest q = pick (cases_eq q id)
      where
        pick : (q ≡ id) ⊎ (q ≡ id → ⊥) → IsServed label sent new_fits (entry_in q new.feeds)
            (entry_in q senders')
        pick (inl same) =
            subst (λ (n : ℕ). IsServed label sent new_fits (entry_in n new.feeds) (entry_in n senders'))
            (sym same) mine
        pick (inr n) =
            subst (λ o. IsServed label sent new_fits o (entry_in q senders')) (sym (others q n))
            (subst (IsServed label sent new_fits (entry_in q old.feeds)) (sym (rest q n))
            (stays_served (entry_in q old.feeds) (entry_in q senders) (d.each q)))

    -- the senders stay
    pub moves : (senders : List (ℕ × K)) → new.next_feed ≡ old.next_feed
        → AreSendersOf label sent old_fits old senders → IsServed label sent new_fits (entry_in id new.feeds)
        (entry_in id senders)
        → AreSendersOf label sent new_fits new senders
    moves senders next d mine = record {
      rising = d.rising;
      given = subst (λ (n : ℕ). All (λ (p : ℕ × K). p.0 < n) senders) (sym next) d.given;
      each = served senders senders d mine (λ q n. refl);
    }

    -- the feed's outbox changes
    pub sender_changes : (senders : List (ℕ × K)) (change : K → K) → new.next_feed ≡ old.next_feed
        → AreSendersOf label sent old_fits old senders
        → IsServed label sent new_fits (entry_in id new.feeds) (option_map change (entry_in id senders))
        → AreSendersOf label sent new_fits new (with_change id change senders)
    sender_changes senders change next d mine = record {
      rising = rising_changed id change senders d.rising;
      given =
          subst (λ (n : ℕ). All (λ (p : ℕ × K). p.0 < n) (with_change id change senders)) (sym next)
          (below_changed id change old.next_feed senders d.given);
      each =
          served senders (with_change id change senders) d
          (subst (IsServed label sent new_fits (entry_in id new.feeds)) (sym (own_changed id change senders))
          mine) (λ q n. other_changed id change q n senders);
    }

    -- the feed was opened, and has a sender at the end
    pub sender_comes : (senders : List (ℕ × K)) (s : K)
        → id ≡ old.next_feed → new.next_feed ≡ id + 1 → AreSendersOf label sent old_fits old senders
        → IsServed label sent new_fits (entry_in id new.feeds) (Some s)
        → AreSendersOf label sent new_fits new (senders ++ (id, s) ∷ [])
    sender_comes senders s is next d mine =
        let below = subst (λ (n : ℕ). All (λ (p : ℕ × K). p.0 < n) senders) (sym is) d.given in
        record {
          rising = rising_added id s senders below d.rising;
          given =
              subst (λ (n : ℕ). All (λ (p : ℕ × K). p.0 < n) (senders ++ (id, s) ∷ [])) (sym next)
              (below_added id s senders below);
          each =
              served senders (senders ++ (id, s) ∷ []) d
              (subst (IsServed label sent new_fits (entry_in id new.feeds))
              (sym (own_added id s senders (none_above id senders below))) mine)
              (λ q n. other_added id s q n senders);
        }

    -- the feed was finished, and its sender is gone
    pub sender_goes : (senders : List (ℕ × K))
        → new.next_feed ≡ old.next_feed → AreSendersOf label sent old_fits old senders → entry_in id new.feeds
        ≡ None
        → AreSendersOf label sent new_fits new (without id senders)
    sender_goes senders next d none = record {
      rising = rising_without id senders d.rising;
      given =
          subst (λ (n : ℕ). All (λ (p : ℕ × K). p.0 < n) (without id senders)) (sym next)
          (below_without id old.next_feed senders d.given);
      each =
          served senders (without id senders) d (rw (none, own_without id senders) tt)
          (λ q n. other_without id q n senders);
    }

-- an outbox with the same label and the same sent items is the feed's too
pub sender_still : {R K : Type 0} (label : K → Label) (sent : K → List (Item R))
    (fits : Feed → List (Item R) → Type 0) (feed : Feed) (old new : K)
    → (label new ≡ label old) × (sent new ≡ sent old) → IsSenderOf label sent fits feed old
    → IsSenderOf label sent fits feed new
sender_still label sent fits feed old new same i = record {
  asks = ap (λ (l : Label). params_in l.asked) same.0 ∙ i.asks;
  begins = ap (λ (l : Label). l.since) same.0 ∙ i.begins;
  list = subst (λ items. fits feed items) (sym same.1) i.list;
}

-- feeds with their outboxes
module _ {R K : Type 0} (label : K → Label) (sent : K → List (Item R)) (fits : Feed → List (Item R) → Type 0)
  where
    -- a served feed has an outbox
    pub sender_of : (o : Option Feed) (s : Option K) (f : Feed) → o ≡ Some f → IsServed label sent fits o s
        → (x : K) × (s ≡ Some x) × IsSenderOf label sent fits f x
    sender_of None None f is i = absurd (none-some f is)
    sender_of None (Some s) f is i = absurd i
    sender_of (Some g) None f is i = absurd i
    sender_of (Some g) (Some s) f is i =
        (s, refl, subst (λ h. IsSenderOf label sent fits h s) (same_Some g f is) i)

    -- an outbox that changes, but keeps its label and its sent items, still serves its feed
    pub served_still : (change : K → K) → ((k : K) → (label (change k) ≡ label k)
        × (sent (change k) ≡ sent k))
        → (o : Option Feed) (s : Option K) → IsServed label sent fits o s
        → IsServed label sent fits o (option_map change s)
    served_still change same None None i = tt
    served_still change same None (Some s) i = absurd i
    served_still change same (Some f) None i = absurd i
    served_still change same (Some f) (Some s) i = sender_still label sent fits f s (change s) (same s) i

-- where one outbox changes, but keeps its label and its sent items, the outboxes still serve the feeds
pub senders_still : {R K : Type 0} (label : K → Label) (sent : K → List (Item R))
    (fits : Feed → List (Item R) → Type 0) (host : Hosted R) (id : ℕ) (senders : List (ℕ × K))
    (change : K → K)
    → ((k : K) → (label (change k) ≡ label k) × (sent (change k) ≡ sent k))
    → AreSendersOf label sent fits host senders
    → AreSendersOf label sent fits host (with_change id change senders)
senders_still label sent fits host id senders change same served =
    sender_changes label sent fits fits (λ feed items fit. fit) id host host (λ q n. refl) senders change refl
    served (served_still label sent fits change same (entry_in id host.feeds) (entry_in id senders)
    (served.each id))
