-- Entries with numbers: the place of an entry, and the entries after one was changed, taken out or added.
use Rattle.std.proofs.Common.{◌≡◌, ◌≢◌, ℕ, zero, suc, ◌+◌, ◌<◌, ◌≤◌, List, [], ◌∷◌, ◌++◌}
use Rattle.std.proofs.Common.{length, Bool, true, false, ap, refl, sym, ◌∙◌, subst, arith, ◌⊎◌}
use Rattle.std.proofs.Common.{inl, inr, get_or, find, not, nat_eq, nat_lt, Result, Ok, Err}
use Rattle.std.specs.Prelude.{Some, None, slice_get, slice_set, option_map, position, All, if◌then◌else◌}
use Rattle.std.specs.List.{remove, position_or_len}
use Rattle.std.specs.List.Sorted.{IsSearchInRange, IsBinarySearchResult, IsNonDecreasingBy, IsPartitionPoint}
use Rattle.std.specs.Result.{result_ok}
use Rattle.std.specs.Ordering.{nat_cmp, ordering_index}
use Rattle.std.specs.declared.cmp.Ordering.TheVariants.{Less, Greater}
use Rattle.std.proofs.lemmas.Bool.{cases_Bool, cases_lt, eqb-true, eq-eqb}
use Rattle.std.proofs.lemmas.Bool.{ne_eqb, lt-ltb, ltb-true, ltb-false}
use Rattle.std.proofs.lemmas.Cmp.{ranked}
use Rattle.std.proofs.lemmas.Bool.Decides.{nat_tests}
use Rattle.std.proofs.lemmas.List.Folds.{find_at}
use Rattle.std.proofs.lemmas.List.Elements.{All-filter, All-map, All-push}
use Rattle.std.proofs.lemmas.List.Kept.{AllPairs-cons, AllPairs-filter}
use Rattle.std.proofs.lemmas.List.Quantifiers.{all_pairs_push}
use Rattle.std.proofs.lemmas.List.Sorted.{IsNonDecreasingBy-from_default}
use Rattle.std.proofs.lemmas.List.Sums.{position_or_len_is}
use Rattle.std.proofs.lemmas.Option.{none-some, same_Some, slice_get_past, slice_get_read}
use Rattle.hub_model.specs.Entries.{is_of, entry_in, with_change, without, AreRising}
use Rattle.hub_model.proofs.Shown.{find_is}

-- a search for the first element that passes a test
module _ {A : Type 0} (p : A → Bool) (xs : List A) where
  -- where the search gives a place, the element there is the first that passes
  pub place_found : (at : ℕ) → Some at ≡ position p xs → (x : A) → x ≡ get_or xs at x
      → (find p xs ≡ Some x) × (slice_get xs at ≡ Some x)
  place_found at e x is = from (nat_lt (position_or_len p xs) (length xs)) refl e
    where
      from : (b : Bool) → nat_lt (position_or_len p xs) (length xs) ≡ b
          → Some at ≡ (if b then Some (position_or_len p xs) else None)
          → (find p xs ≡ Some x) × (slice_get xs at ≡ Some x)
      from true t e =
          let same : position_or_len p xs ≡ at = sym (same_Some at (position_or_len p xs) e) in
          let low : position_or_len p xs < length xs = ltb-true (position_or_len p xs) (length xs) t in
          let there : slice_get xs at ≡ Some x =
          slice_get_read xs (length xs) at x refl (omega (arith, low, same)) is in
          (find_at p xs ∙ (ap (slice_get xs) same ∙ there), there)
      from false t e = absurd (none-some at (sym e))

  -- where the search gives no place, no element passes
  pub place_none : position p xs ≡ None → find p xs ≡ None
  place_none e = from (nat_lt (position_or_len p xs) (length xs)) refl e
    where
      from : (b : Bool) → nat_lt (position_or_len p xs) (length xs) ≡ b
          → (if b then Some (position_or_len p xs) else None) ≡ None → find p xs ≡ None
      from true t e = absurd (none-some (position_or_len p xs) (sym e))
      from false t e =
          find_at p xs
          ∙ slice_get_past xs (position_or_len p xs) (ltb-false (position_or_len p xs) (length xs) t)

  -- the place of the first element that passes, from the search, which gives the length where none passes
  position_is : (n : ℕ) → position_or_len p xs ≡ n → n < length xs → Some n ≡ position p xs
  position_is n e low = rw (e, lt-ltb n (length xs) low) refl

  no_position : position_or_len p xs ≡ length xs → None ≡ position p xs
  no_position e = rw (e, not_below (length xs)) refl
    where
      not_below : (n : ℕ) → nat_lt n n ≡ false
      not_below n = elim (cases_Bool (nat_lt n n)) [
        | inl t ↦ let low = ltb-true n n t in absurd (omega (arith, low))
        | inr t ↦ t
      ]

-- a binary search for a number, where numbers rise
module _ {A : Type 0} (number : ℕ) where
  compares_rise : (entries : List (ℕ × A)) → AreRising entries
      → IsNonDecreasingBy (λ (p : ℕ × A). ordering_index (nat_cmp p.0 number)) entries
  compares_rise [] rising = λ i j d le low. absurd (omega arith)
  compares_rise (q ∷ entries) rising =
      IsNonDecreasingBy-from_default (λ (p : ℕ × A). ordering_index (nat_cmp p.0 number)) (q ∷ entries) q
      (λ i j le low.
      let above : (i ≡ j) ⊎ ((get_or (q ∷ entries) i q).0 < (get_or (q ∷ entries) j q).0) =
      ordered i j le low in
      let numbers : (get_or (q ∷ entries) i q).0 ≤ (get_or (q ∷ entries) j q).0 = elim above [
        | inl same ↦ omega (arith, ap (λ k. (get_or (q ∷ entries) k q).0) same)
        | inr less ↦ omega (arith, less)
      ] in
      grind (arith, nat_tests))
    where
      ordered : (i j : ℕ) → i ≤ j → j < length (q ∷ entries)
          → (i ≡ j) ⊎ ((get_or (q ∷ entries) i q).0 < (get_or (q ∷ entries) j q).0)
      ordered i j le low =
          elim (cases_lt i j) [ inl l ↦ inr (rising i j q l low) | inr g ↦ inl (omega arith) ]

  -- the place of the entry with the number
  pub placed_at : (entries : List (ℕ × A)) (at : ℕ) (d : ℕ × A) → AreRising entries → at < length entries
      → (get_or entries at d).0 ≡ number → Some at ≡ position (is_of number) entries
  placed_at entries at d rising within here =
      position_is (is_of number) entries
      at (position_or_len_is (is_of number) entries at d (omega (arith, within))
      (λ k low.
      let below = rising k at d low within in
      ne_eqb (get_or entries k d).0 number (λ e. omega (arith, below, here, e)))
      (λ low. eq-eqb (get_or entries at d).0 number here)) within

  pub searched : (entries : List (ℕ × A)) (r : Result ℕ ℕ)
      → AreRising entries → IsSearchInRange r (length entries)
      → IsBinarySearchResult (λ (p : ℕ × A). nat_cmp p.0 number) entries r
      → result_ok r ≡ position (is_of number) entries
  searched [] (Ok at) rising within found = absurd (omega (arith, within))
  searched [] (Err at) rising within found = refl
  searched (q ∷ entries) (Ok at) rising within found =
      placed_at (q ∷ entries) at q rising within (ranked _ number _ (sym (found q)))
  searched (q ∷ entries) (Err at) rising within found =
      let parts = found (compares_rise (q ∷ entries) rising) in
      no_position (is_of number) (q ∷ entries)
      (position_or_len_is (is_of number) (q ∷ entries) (length (q ∷ entries)) q (omega arith) (others parts)
      (λ low. absurd (omega (arith, low))))
    where
      others : IsPartitionPoint (λ (p : ℕ × A). nat_cmp p.0 number ≡ Less)
          (λ (p : ℕ × A). nat_cmp p.0 number ≡ Greater) (q ∷ entries) at
          → (k : ℕ) → k < length (q ∷ entries) → is_of number (get_or (q ∷ entries) k q) ≡ false
      others parts k low =
          elim (cases_lt k at) [
            | inl l ↦
                let less = ranked _ number _ (sym (parts.0 k q (omega arith) l)) in
                ne_eqb (get_or (q ∷ entries) k q).0 number (λ e. omega (arith, less, e))
            | inr g ↦
                let more = ranked _ number _ (sym (parts.1 k q g low)) in
                ne_eqb (get_or (q ∷ entries) k q).0 number (λ e. omega (arith, more, e))
          ]

-- where numbers rise, the numbers after the first entry rise too, and are above its number
module _ {A : Type 0} (p : ℕ × A) (entries : List (ℕ × A)) (rising : AreRising (p ∷ entries)) where
  after_first : All (λ (q : ℕ × A). p.0 < q.0) entries
  after_first k d l = rising 0 (suc k) d (omega arith) (omega arith)

  rest_rises : AreRising entries
  rest_rises i j d l m = rising (suc i) (suc j) d (omega arith) (omega arith)

-- entries with other numbers stay where the entry with this number is changed or taken out
module _ {A : Type 0} (number : ℕ) where
  abbrev Others : List (ℕ × A) → Type 0
  Others entries = All (λ p. is_of number p ≡ false) entries

  others_changed : (change : A → A) (entries : List (ℕ × A)) → Others entries
      → with_change number change entries ≡ entries
  others_changed change [] others = refl
  others_changed change (q ∷ entries) others =
      rw (others 0 q (omega arith))
      (ap (λ qs. q ∷ qs) (others_changed change entries (λ k d l. others (suc k) d (omega arith))))

  others_kept : (entries : List (ℕ × A)) → Others entries → without number entries ≡ entries
  others_kept [] others = refl
  others_kept (q ∷ entries) others =
      rw (others 0 q (omega arith))
      (ap (λ qs. q ∷ qs) (others_kept entries (λ k d l. others (suc k) d (omega arith))))

  -- where no entry has this number, all entries have other numbers
  none_of : (entries : List (ℕ × A)) → entry_in number entries ≡ None → Others entries
  none_of [] none = λ k d l. absurd (omega arith)
  none_of (q ∷ entries) none =
      elim (cases_Bool (is_of number q)) [
        | inl t ↦ absurd (none-some q.1 (sym (rw t at none)))
        | inr t ↦ with_first t (none_of entries (rw t at none))
      ]
    where
      with_first : is_of number q ≡ false → Others entries → Others (q ∷ entries)
      with_first t others zero d l = t
      with_first t others (suc k) d l = others k d (omega arith)

  -- where numbers rise, the entries after the entry with this number have other numbers
  above : (p : ℕ × A) (entries : List (ℕ × A)) → p.0 ≡ number → All (λ (q : ℕ × A). p.0 < q.0) entries
      → Others entries
  above p entries own rising k d l =
      let r = rising k d l in ne_eqb (get_or entries k d).0 number (λ e. omega (arith, r, own, e))

  -- a change or a removal at the place of the entry with this number changes or takes out no other entry
  at_place : (change : A → A) (entries : List (ℕ × A)) (at : ℕ) (p : ℕ × A) → AreRising entries
      → slice_get entries at ≡ Some p → p.0 ≡ number
      → (slice_set entries at (p.0, change p.1) ≡ with_change number change entries)
      × (remove entries at ≡ without number entries)
  at_place change [] at p rising there own = absurd (none-some p there)
  at_place change (q ∷ entries) zero p rising there own =
      let same : q ≡ p = same_Some q p there in
      let others = above q entries (ap (λ (z : ℕ × A). z.0) same ∙ own) (after_first q entries rising) in
      let here : is_of number q ≡ true = eq-eqb q.0 number (ap (λ (z : ℕ × A). z.0) same ∙ own) in (
        rw (here, others_changed change entries others, same) refl,
        rw (here, others_kept entries others) refl,
      )
  at_place change (q ∷ entries) (suc at) p rising there own =
      let below : q.0 < p.0 = before entries at there (after_first q entries rising) in
      let other : is_of number q ≡ false = ne_eqb q.0 number (λ e. omega (arith, below, own, e)) in
      let rest = at_place change entries at p (rest_rises q entries rising) there own in
      rw other (ap (λ qs. q ∷ qs) rest.0, ap (λ qs. q ∷ qs) rest.1)
    where
      before : (entries : List (ℕ × A)) (at : ℕ) → slice_get entries at ≡ Some p
          → All (λ (b : ℕ × A). q.0 < b.0) entries → q.0 < p.0
      before [] at there all = absurd (none-some p there)
      before (r ∷ entries) zero there all =
          subst (λ (z : ℕ × A). q.0 < z.0) (same_Some r p there) (all 0 r (omega arith))
      before (r ∷ entries) (suc at) there all = before entries at there (λ k d l. all (suc k) d (omega arith))

put_back : {A : Type 0} (xs : List A) (k : ℕ) (x : A) → slice_get xs k ≡ Some x → slice_set xs k x ≡ xs
put_back [] k x e = refl
put_back (y ∷ xs) zero x e = ap (λ z. z ∷ xs) (sym (same_Some y x e))
put_back (y ∷ xs) (suc k) x e = ap (λ zs. y ∷ zs) (put_back xs k x e)

-- the entry with this number stands at this place
module _ {A : Type 0} (number : ℕ) (entries : List (ℕ × A)) (at : ℕ)
    (placed : Some at ≡ position (is_of number) entries) (p : ℕ × A) (is : p ≡ get_or entries at p) where
  there : slice_get entries at ≡ Some p
  there = (place_found (is_of number) entries at placed p is).1

  own : p.0 ≡ number
  own =
      eqb-true p.0 number
      (find_is (is_of number) entries p (place_found (is_of number) entries at placed p is).0).0

  pub entry_here : entry_in number entries ≡ Some p.1
  entry_here = ap (option_map (λ (q : ℕ × A). q.1)) (place_found (is_of number) entries at placed p is).0

  -- a change at its place is the change of the entry with this number
  pub changed_here : (change : A → A) (new : A) → AreRising entries → new ≡ change p.1
      → slice_set entries at (p.0, new) ≡ with_change number change entries
  changed_here change new rising e =
      ap (λ (a : A). slice_set entries at (p.0, a)) e
      ∙ (at_place number change entries at p rising there own).0

  -- its old value at its place changes nothing
  pub stays_here : (new : A) → new ≡ p.1 → slice_set entries at (p.0, new) ≡ entries
  stays_here new e = ap (λ (a : A). slice_set entries at (p.0, a)) e ∙ put_back entries at p there

  -- a removal at its place leaves the entries without it
  pub without_here : AreRising entries → remove entries at ≡ without number entries
  without_here rising = (at_place number (λ a. a) entries at p rising there own).1

-- no entry has this number
module _ {A : Type 0} (number : ℕ) (entries : List (ℕ × A)) where
  pub no_entry : position (is_of number) entries ≡ None → entry_in number entries ≡ None
  no_entry none = ap (option_map (λ (q : ℕ × A). q.1)) (place_none (is_of number) entries none)

-- where no entry has this number, none is changed, and none is left out
pub changed_absent : {A : Type 0} (number : ℕ) (change : A → A) (entries : List (ℕ × A))
    → entry_in number entries ≡ None → with_change number change entries ≡ entries
changed_absent number change entries none = others_changed number change entries (none_of number entries none)

pub without_absent : {A : Type 0} (number : ℕ) (entries : List (ℕ × A)) → entry_in number entries ≡ None
    → without number entries ≡ entries
without_absent number entries none = others_kept number entries (none_of number entries none)

-- the entry with this number, and the entries with others, after it was changed, taken out or added
module _ {A : Type 0} (id : ℕ) where
  pub own_changed : (change : A → A) (entries : List (ℕ × A))
      → entry_in id (with_change id change entries) ≡ option_map change (entry_in id entries)
  own_changed change [] = refl
  own_changed change (p ∷ entries) = elim (cases_Bool (nat_eq p.0 id)) [
    | inl t ↦ rw (t, t) refl
    | inr t ↦ rw (t, t) (own_changed change entries)
  ]

  pub other_changed : (change : A → A) (q : ℕ) → q ≢ id → (entries : List (ℕ × A))
      → entry_in q (with_change id change entries) ≡ entry_in q entries
  other_changed change q n [] = refl
  other_changed change q n (p ∷ entries) =
      elim (cases_Bool (nat_eq p.0 id)) [
        | inl t ↦ rw (t, ne_eqb p.0 q (λ e. n (sym e ∙ eqb-true p.0 id t))) (other_changed change q n entries)
        | inr t ↦ elim (cases_Bool (nat_eq p.0 q)) [
          | inl u ↦ rw (t, u) refl
          | inr u ↦ rw (t, u) (other_changed change q n entries)
        ]
      ]

  pub own_without : (entries : List (ℕ × A)) → entry_in id (without id entries) ≡ None
  own_without [] = refl
  own_without (p ∷ entries) = elim (cases_Bool (nat_eq p.0 id)) [
    | inl t ↦ rw t (own_without entries)
    | inr t ↦ rw (t, t) (own_without entries)
  ]

  pub other_without : (q : ℕ) → q ≢ id → (entries : List (ℕ × A))
      → entry_in q (without id entries) ≡ entry_in q entries
  other_without q n [] = refl
  other_without q n (p ∷ entries) =
      elim (cases_Bool (nat_eq p.0 id)) [
        | inl t ↦ rw (t, ne_eqb p.0 q (λ e. n (sym e ∙ eqb-true p.0 id t))) (other_without q n entries)
        | inr t ↦ elim (cases_Bool (nat_eq p.0 q)) [
          | inl u ↦ rw (t, u) refl
          | inr u ↦ rw (t, u) (other_without q n entries)
        ]
      ]

  pub own_added : (a : A) (entries : List (ℕ × A)) → entry_in id entries ≡ None
      → entry_in id (entries ++ (id, a) ∷ []) ≡ Some a
  own_added a [] none = rw (eq-eqb id id refl) refl
  own_added a (p ∷ entries) none =
      elim (cases_Bool (nat_eq p.0 id)) [
        | inl t ↦ absurd (none-some p.1 (sym (rw t at none)))
        | inr t ↦ rw t (own_added a entries (rw t at none))
      ]

  pub other_added : (a : A) (q : ℕ) → q ≢ id → (entries : List (ℕ × A))
      → entry_in q (entries ++ (id, a) ∷ []) ≡ entry_in q entries
  other_added a q n [] = rw (ne_eqb id q (λ e. n (sym e))) refl
  other_added a q n (p ∷ entries) =
      elim (cases_Bool (nat_eq p.0 q)) [ inl u ↦ rw u refl | inr u ↦ rw u (other_added a q n entries) ]

-- the numbers of entries rise, and stay below the next number
module _ {A : Type 0} where
  abbrev AreBelow : ℕ → List (ℕ × A) → Type 0
  AreBelow next entries = All (λ (p : ℕ × A). p.0 < next) entries

  -- no entry has the next number
  pub none_above : (next : ℕ) (entries : List (ℕ × A)) → AreBelow next entries → entry_in next entries ≡ None
  none_above next [] all = refl
  none_above next (p ∷ entries) all =
      rw (ne_eqb p.0 next (λ e. omega (arith, all 0 p (omega arith), e)))
      (none_above next entries (λ k d l. all (suc k) d (omega arith)))

  module _ (id : ℕ) (change : A → A) where
    abbrev changed_one : ℕ × A → ℕ × A
    changed_one p = if is_of id p then (p.0, change p.1) else p

    same_number : (p : ℕ × A) → (changed_one p).0 ≡ p.0
    same_number p = from (is_of id p)
      where
        from : (b : Bool) → (if b then (p.0, change p.1) else p).0 ≡ p.0
        from true = refl
        from false = refl

    pub below_changed : (next : ℕ) (entries : List (ℕ × A)) → AreBelow next entries
        → AreBelow next (with_change id change entries)
    below_changed next entries below =
        All-map (λ (p : ℕ × A). p.0 < next) changed_one entries
        (λ k d l. let g = below k d l in omega (arith, g, same_number (get_or entries k d)))

    pub rising_changed : (entries : List (ℕ × A)) → AreRising entries → AreRising (with_change id change entries)
    rising_changed [] rising = rising
    rising_changed (p ∷ entries) rising =
        let rest = rising_changed entries (rest_rises p entries rising) in
        AllPairs-cons (λ (a b : ℕ × A). a.0 < b.0) (changed_one p) (with_change id change entries)
        (All-map (λ (b : ℕ × A). (changed_one p).0 < b.0) changed_one entries (λ k d l.
        let f = after_first p entries rising k d l in
        omega (arith, f, same_number p, same_number (get_or entries k d)))) rest

  pub below_without : (id next : ℕ) (entries : List (ℕ × A)) → AreBelow next entries
      → AreBelow next (without id entries)
  below_without id next entries below =
      All-filter (λ (p : ℕ × A). not (is_of id p)) (λ (p : ℕ × A). p.0 < next) entries below

  pub rising_without : (id : ℕ) (entries : List (ℕ × A)) → AreRising entries → AreRising (without id entries)
  rising_without id entries rising =
      AllPairs-filter (λ (a b : ℕ × A). a.0 < b.0) (λ (p : ℕ × A). not (is_of id p)) entries rising

  pub below_added : (next : ℕ) (a : A) (entries : List (ℕ × A)) → AreBelow next entries
      → AreBelow (next + 1) (entries ++ (next, a) ∷ [])
  below_added next a entries below =
      All-push (λ (p : ℕ × A). p.0 < next + 1) entries (next, a)
      (λ k d l. let b = below k d l in omega (arith, b)) (omega arith)

  pub rising_added : (next : ℕ) (a : A) (entries : List (ℕ × A)) → AreBelow next entries → AreRising entries
      → AreRising (entries ++ (next, a) ∷ [])
  rising_added next a entries below rising =
      all_pairs_push (λ (x y : ℕ × A). x.0 < y.0) entries (next, a) rising below
