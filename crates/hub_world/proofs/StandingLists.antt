-- Entries by number, and the entries of the feeds that are not finished.
use Rattle.std.proofs.Common.{◌≡◌, ℕ, zero, suc, ◌+◌, ◌<◌, List, [], ◌∷◌, ◌++◌, length, map, Bool}
use Rattle.std.proofs.Common.{true, false, not, ap, refl, sym, ◌∙◌, arith, inl, inr}
use Rattle.std.specs.Prelude.{Option, Some, None, count_by, slice_get, slice_set, if◌then◌else◌}
use Rattle.std.proofs.lemmas.Bool.{cases_Bool, eq-eqb, ne_eqb}
use Rattle.std.proofs.lemmas.Option.{none-some, same_Some}
use Rattle.std.proofs.lemmas.List.Sums.{sum_by-cons}
use Rattle.hub_model.specs.Feed.{Status, Open, Ending, Ended, Finished, is_open}
use Rattle.hub_world.specs.Core.{unfinished_from}
use Rattle.hub_model.specs.Entries.{entry_in, with_change, without}
use Rattle.hub_model.proofs.Entries.{changed_absent, without_absent}
use Rattle.hub_world.specs.World.{Subscription, is_finished, ended_subscription}

-- this part of each feed that is not finished, by their numbers from n
abbrev pub shown : {A : Type 0} → (Subscription → A) → ℕ → List Subscription → List (ℕ × A)
shown part n subscriptions = map (λ p. (p.0, part p.1)) (unfinished_from n subscriptions)

-- this part of a feed, if there is one and it is not finished
abbrev pub seen : {A : Type 0} → (Subscription → A) → Option Subscription → Option A
seen part None = None
seen part (Some subscription) =
    if is_finished subscription.feed.status then None else Some (part subscription)

module _ {A : Type 0} (part : Subscription → A) where
  -- the entries of a feed and of the feeds after it
  abbrev entries : Bool → ℕ → Subscription → List Subscription → List (ℕ × A)
  entries b n subscription subscriptions =
      map (λ p. (p.0, part p.1))
      (if b then unfinished_from (n + 1) subscriptions else (n, subscription)
      ∷ unfinished_from (n + 1) subscriptions)

  -- no entry has a number below the first
  pub none_below : (n g : ℕ) (subscriptions : List Subscription) → g < n
      → entry_in g (shown part n subscriptions) ≡ None
  none_below n g [] h = refl
  none_below n g (subscription ∷ subscriptions) h =
      from (is_finished subscription.feed.status) (none_below (n + 1) g subscriptions (omega arith))
    where
      from : (b : Bool) → entry_in g (shown part (n + 1) subscriptions) ≡ None
          → entry_in g (entries b n subscription subscriptions) ≡ None
      from true e = e
      from false e = rw (ne_eqb n g (omega arith)) e

  -- the entry of a number is the part of the feed at its place
  pub looked : (n k g : ℕ) (subscriptions : List Subscription) → g ≡ n + k
      → entry_in g (shown part n subscriptions) ≡ seen part (slice_get subscriptions k)
  looked n k g [] h = refl
  looked n zero g (subscription ∷ subscriptions) h =
      from (is_finished subscription.feed.status) (none_below (n + 1) g subscriptions (omega arith))
    where
      from : (b : Bool) → entry_in g (shown part (n + 1) subscriptions) ≡ None
          → entry_in g (entries b n subscription subscriptions) ≡
          (if b then None else Some (part subscription))
      from true e = e
      from false e = rw (eq-eqb n g (omega arith)) refl
  looked n (suc k) g (subscription ∷ subscriptions) h =
      from (is_finished subscription.feed.status) (looked (n + 1) k g subscriptions (omega arith))
    where
      from : (b : Bool) → entry_in g (shown part (n + 1) subscriptions) ≡ seen part
          (slice_get subscriptions k)
          → entry_in g (entries b n subscription subscriptions) ≡ seen part (slice_get subscriptions k)
      from true e = e
      from false e = rw (ne_eqb n g (omega arith)) e

  -- a feed that is not finished changes, and so does its entry
  pub turned : (n k g : ℕ) (subscriptions : List Subscription) (change : A → A)
      (subscription new : Subscription) → g ≡ n + k
      → slice_get subscriptions k ≡ Some subscription → is_finished subscription.feed.status ≡ false
      → is_finished new.feed.status ≡ false
      → change (part subscription) ≡ part new
      → shown part n (slice_set subscriptions k new) ≡ with_change g change (shown part n subscriptions)
  turned n k g [] change subscription new h i stands stands' e = absurd (none-some subscription i)
  turned n zero g (other ∷ subscriptions) change subscription new h i stands stands' e =
      let same : other ≡ subscription = same_Some other subscription i in
      let rest : with_change g change (shown part (n + 1) subscriptions) ≡ shown part (n + 1) subscriptions =
      changed_absent g change (shown part (n + 1) subscriptions)
      (none_below (n + 1) g subscriptions (omega arith)) in
      rw (same, stands, stands', eq-eqb n g (omega arith), e, rest) refl
  turned n (suc k) g (other ∷ subscriptions) change subscription new h i stands stands' e =
      from (is_finished other.feed.status)
      (turned (n + 1) k g subscriptions change subscription new (omega arith) i stands stands' e)
    where
      from : (b : Bool) → shown part (n + 1) (slice_set subscriptions k new) ≡ with_change g change
          (shown part (n + 1) subscriptions)
          → entries b n other (slice_set subscriptions k new) ≡ with_change g change
          (entries b n other subscriptions)
      from true r = r
      from false r = rw (ne_eqb n g (omega arith)) (ap (λ (ps : List (ℕ × A)). (n, part other) ∷ ps) r)

  -- a feed finishes, and its entry is removed
  pub left_out : (n k g : ℕ) (subscriptions : List Subscription) (subscription new : Subscription) → g ≡ n + k
      → slice_get subscriptions k ≡ Some subscription → is_finished new.feed.status ≡ true
      → shown part n (slice_set subscriptions k new) ≡ without g (shown part n subscriptions)
  left_out n k g [] subscription new h i over = absurd (none-some subscription i)
  left_out n zero g (other ∷ subscriptions) subscription new h i over =
      rw over
      (from (is_finished other.feed.status)
      (without_absent g (shown part (n + 1) subscriptions)
      (none_below (n + 1) g subscriptions (omega arith))))
    where
      from : (b : Bool) → without g (shown part (n + 1) subscriptions) ≡ shown part (n + 1) subscriptions
          → shown part (n + 1) subscriptions ≡ without g (entries b n other subscriptions)
      from true r = sym r
      from false r = rw (eq-eqb n g (omega arith)) (sym r)
  left_out n (suc k) g (other ∷ subscriptions) subscription new h i over =
      from (is_finished other.feed.status)
      (left_out (n + 1) k g subscriptions subscription new (omega arith) i over)
    where
      from : (b : Bool) → shown part (n + 1) (slice_set subscriptions k new) ≡ without g
          (shown part (n + 1) subscriptions)
          → entries b n other (slice_set subscriptions k new) ≡ without g (entries b n other subscriptions)
      from true r = r
      from false r = rw (ne_eqb n g (omega arith)) (ap (λ (ps : List (ℕ × A)). (n, part other) ∷ ps) r)

  -- a feed is added, and its entry is added
  pub added : (n m : ℕ) (subscriptions : List Subscription) (subscription : Subscription)
      → m ≡ n + length subscriptions
      → is_finished subscription.feed.status ≡ false
      → shown part n (subscriptions ++ subscription ∷ []) ≡ shown part n subscriptions
      ++ (m, part subscription) ∷ []
  added n m [] subscription h stands = let here : n ≡ m = omega arith in rw (stands, here) refl
  added n m (other ∷ subscriptions) subscription h stands =
      from (is_finished other.feed.status) (added (n + 1) m subscriptions subscription (omega arith) stands)
    where
      from : (b : Bool) → shown part (n + 1) (subscriptions ++ subscription ∷ []) ≡ shown part
          (n + 1) subscriptions ++ (m, part subscription) ∷ []
          → entries b n other (subscriptions ++ subscription ∷ []) ≡ entries b n other subscriptions
          ++ (m, part subscription) ∷ []
      from true r = r
      from false r = ap (λ (ps : List (ℕ × A)). (n, part other) ∷ ps) r

  -- the number of entries
  pub counted : (n : ℕ) (subscriptions : List Subscription)
      → length (shown part n subscriptions) ≡ count_by
      (λ subscription. not (is_finished subscription.feed.status)) subscriptions
  counted n [] = refl
  counted n (subscription ∷ subscriptions) =
      from (is_finished subscription.feed.status) (counted (n + 1) subscriptions)
      ∙ sym (sum_by-cons (λ t. if not (is_finished t.feed.status) then 1 else 0) subscription subscriptions)
    where
      from : (b : Bool) → length (shown part (n + 1) subscriptions) ≡ count_by
          (λ t. not (is_finished t.feed.status)) subscriptions
          → length (entries b n subscription subscriptions)
          ≡ (if not b then 1 else 0) + count_by (λ t. not (is_finished t.feed.status)) subscriptions
      from true r = omega (arith, r)
      from false r = omega (arith, r)

-- an open feed is not finished
pub open_stands : (status : Status) → is_open status ≡ true → is_finished status ≡ false
open_stands Open t = refl
open_stands Ending t = refl
open_stands Ended t = refl
open_stands Finished t = sym t

-- the deletion of a database finishes no feed, and opens no finished feed again
pub ended_stands : (subscription : Subscription)
    → is_finished (ended_subscription subscription).feed.status ≡ is_finished subscription.feed.status
ended_stands subscription =
    elim (cases_Bool (is_open subscription.feed.status)) [
      | inl t ↦ rw t (sym (open_stands subscription.feed.status t))
      | inr t ↦ rw t refl
    ]

module _ {A : Type 0} (part : Subscription → A) where
  -- every feed ends, and every entry changes alike
  pub all_ended : (n : ℕ) (subscriptions : List Subscription) (change : ℕ × A → ℕ × A)
      → ((m : ℕ) (subscription : Subscription)
      → (m, part (ended_subscription subscription)) ≡ change (m, part subscription))
      → shown part n (map ended_subscription subscriptions) ≡ map change (shown part n subscriptions)
  all_ended n [] change e = refl
  all_ended n (subscription ∷ subscriptions) change e =
      rw (ended_stands subscription)
      (from (is_finished subscription.feed.status) (all_ended (n + 1) subscriptions change e))
    where
      from : (b : Bool) → shown part (n + 1) (map ended_subscription subscriptions) ≡ map change
          (shown part (n + 1) subscriptions) → map (λ p. (p.0, part p.1))
          (if b then unfinished_from (n + 1) (map ended_subscription subscriptions)
          else (n, ended_subscription subscription) ∷ unfinished_from (n + 1) (map ended_subscription subscriptions))
          ≡ map change
          (map (λ p. (p.0, part p.1))
          (if b then unfinished_from (n + 1) subscriptions else (n, subscription)
          ∷ unfinished_from (n + 1) subscriptions))
      from true r = r
      from false r = rw (e n subscription) (ap (λ (ps : List (ℕ × A)). change (n, part subscription) ∷ ps) r)
