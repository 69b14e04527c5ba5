-- Places of lists, and the elements there after a list grew by one or one changed. And the images of a list's
-- elements: found, counted and filtered.
use Rattle.std.proofs.Common.{◌≡◌, ◌≢◌, ℕ, zero, suc, ◌+◌, ◌-◌, ◌<◌, List, [], ◌∷◌, ◌++◌, length, get_or}
use Rattle.std.proofs.Common.{Bool, true, false, ap, refl, sym, ◌∙◌, arith, inl, inr, ◌⊎◌, nat_eq, find, map}
use Rattle.std.proofs.Common.{reverse, Contains}
use Rattle.std.specs.Prelude.{Option, Some, None, slice_get, slice_set, option_map, filter, count_by}
use Rattle.std.specs.Prelude.{if◌then◌else◌}
use Rattle.std.specs.List.{All}
use Rattle.std.specs.Map.{update}
use Rattle.std.specs.Str.{bytes_eq}
use Rattle.std.proofs.lemmas.Bool.{cases_Bool, eqb-true}
use Rattle.std.proofs.lemmas.List.{map-append, reverse-append, length-reverse, get_or-reverse}
use Rattle.std.proofs.lemmas.List.Elements.{All-nil, All-cons, All-tail}
use Rattle.std.proofs.lemmas.List.Sums.{sum_by-cons}
use Rattle.std.proofs.lemmas.Option.{slice_get_read}
use Rattle.std.proofs.lemmas.Slice.Eq.{bytes_eq-Decides}
use Rattle.hub_model.proofs.Lists.{same_text}

-- ---- texts and numbers

pub text_same : (a b : List ℕ) → a ≡ b → bytes_eq a b ≡ true
text_same a b e = (bytes_eq-Decides a b).1 e

pub text_apart : (a b : List ℕ) → a ≢ b → bytes_eq a b ≡ false
text_apart a b n =
    elim (cases_Bool (bytes_eq a b)) [ inl t ↦ absurd (n ((bytes_eq-Decides a b).0 t)) | inr t ↦ t ]

pub number_apart : (m n : ℕ) → m ≢ n → nat_eq m n ≡ false
number_apart m n h = elim (cases_Bool (nat_eq m n)) [ inl t ↦ absurd (h (eqb-true m n t)) | inr t ↦ t ]

-- a number that was given and taken back
pub taken_back : {X : Type 0} (f g h : List ℕ → Option X) (id : List ℕ) (v : Option X)
    → ((q : List ℕ) → g q ≡ update bytes_eq f id v q) → ((q : List ℕ) → h q ≡ update bytes_eq g id None q)
    → f id ≡ None → (q : List ℕ) → h q ≡ f q
taken_back f g h id v given taken none q = taken q ∙ from (same_text id q)
  where
    from : (id ≡ q) ⊎ (id ≢ q) → update bytes_eq g id None q ≡ f q
    from (inl e) = ap (λ b. if b then None else g q) (text_same id q e) ∙ (sym none ∙ ap f e)
    from (inr n) =
        ap (λ b. if b then None else g q) (text_apart id q n)
        ∙ (given q ∙ ap (λ b. if b then v else f q) (text_apart id q n))

-- ---- places

module _ {A : Type 0} where
  pub at_place : (xs : List A) (k : ℕ) (d : A) → k < length xs → d ≡ get_or xs k d → slice_get xs k ≡ Some d
  at_place xs k d low is = slice_get_read xs (length xs) k d refl low is

  pub get_push : (xs : List A) (v : A) → slice_get (xs ++ v ∷ []) (length xs) ≡ Some v
  get_push [] v = refl
  get_push (x ∷ xs) v = get_push xs v

  pub get_push_other : (xs : List A) (v : A) (j : ℕ) → j ≢ length xs
      → slice_get (xs ++ v ∷ []) j ≡ slice_get xs j
  get_push_other [] v zero n = absurd (n refl)
  get_push_other [] v (suc j) n = refl
  get_push_other (x ∷ xs) v zero n = refl
  get_push_other (x ∷ xs) v (suc j) n = get_push_other xs v j (λ e. n (ap suc e))

  pub get_set : (xs : List A) (k : ℕ) (v : A) → k < length xs → slice_get (slice_set xs k v) k ≡ Some v
  get_set [] k v h = absurd (omega arith)
  get_set (x ∷ xs) zero v h = refl
  get_set (x ∷ xs) (suc k) v h = get_set xs k v (omega arith)

  pub get_set_other : (xs : List A) (k : ℕ) (v : A) (j : ℕ) → j ≢ k
      → slice_get (slice_set xs k v) j ≡ slice_get xs j
  get_set_other [] k v j n = refl
  get_set_other (x ∷ xs) zero v zero n = absurd (n refl)
  get_set_other (x ∷ xs) zero v (suc j) n = refl
  get_set_other (x ∷ xs) (suc k) v zero n = refl
  get_set_other (x ∷ xs) (suc k) v (suc j) n = get_set_other xs k v j (λ e. n (ap suc e))

  pub contains_reverse : (xs : List A) (x : A) → Contains (reverse xs) x → Contains xs x
  contains_reverse xs x (k, l, e) =
      let low : k < length xs = omega (arith, l, length-reverse xs) in
      (length xs - 1 - k, omega arith, sym (get_or-reverse xs k x low) ∙ e)

-- ---- the images of a list's elements

module _ {A B : Type 0} where
  -- two functions that agree at each place
  pub maps_agree : (f g : A → B) (xs : List A)
      → ((i : ℕ) (x : A) → slice_get xs i ≡ Some x → f x ≡ g x) → map f xs ≡ map g xs
  maps_agree f g [] h = refl
  maps_agree f g (x ∷ xs) h =
      ap (λ y. y ∷ map f xs) (h zero x refl)
      ∙ ap (λ ys. g x ∷ ys) (maps_agree f g xs (λ i y e. h (suc i) y e))

  pub map_reverse : (f : A → B) (xs : List A) → map f (reverse xs) ≡ reverse (map f xs)
  map_reverse f [] = refl
  map_reverse f (x ∷ xs) =
      ap (map f) (reverse-append (x ∷ []) xs)
      ∙ (map-append f (reverse xs) (x ∷ [])
      ∙ (ap (λ ys. ys ++ f x ∷ []) (map_reverse f xs)
      ∙ sym (reverse-append (f x ∷ []) (map f xs))))

  -- a filter of images, where each element that it leaves keeps its image
  pub filter_shown : (f g : A → B) (p : A → Bool) (q : B → Bool) (xs : List A)
      → ((i : ℕ) (x : A) → slice_get xs i ≡ Some x → (p x ≡ q (f x)) × (p x ≡ true → g x ≡ f x))
      → map g (filter p xs) ≡ filter q (map f xs)
  filter_shown f g p q [] h = refl
  filter_shown f g p q (x ∷ xs) h =
      from (filter_shown f g p q xs (λ i y e. h (suc i) y e)) (p x) refl
      ∙ ap (λ b. if b then (f x ∷ filter q (map f xs)) else filter q (map f xs)) (h zero x refl).0
    where
      from : map g (filter p xs) ≡ filter q (map f xs) → (b : Bool) → p x ≡ b
          → map g (if b then (x ∷ filter p xs) else filter p xs)
          ≡ (if b then (f x ∷ filter q (map f xs)) else filter q (map f xs))
      from rest true t = ap (λ y. y ∷ map g (filter p xs)) ((h zero x refl).1 t) ∙ ap (λ ys. f x ∷ ys) rest
      from rest false t = rest

  -- a statement on all images, as one on the elements
  pub all_shown : (P : B → Type 0) (f : A → B) (xs : List A) → All P (map f xs) → All (λ x. P (f x)) xs
  all_shown P f [] all = All-nil (λ x. P (f x))
  all_shown P f (x ∷ xs) all =
      let rest : All (λ x. P (f x)) xs = all_shown P f xs (All-tail P (f x) (map f xs) all) in
      All-cons (λ x. P (f x)) x xs (all 0 (f x) (omega arith)) rest

  module _ (p : B → Bool) (f : A → B) where
    -- the image that is found is that of the element that is found
    pub find_map : (xs : List A) → find p (map f xs) ≡ option_map f (find (λ x. p (f x)) xs)
    find_map [] = refl
    find_map (x ∷ xs) = from (p (f x)) (find_map xs)
      where
        from : (b : Bool) → find p (map f xs) ≡ option_map f (find (λ x. p (f x)) xs)
            → (if b then Some (f x) else find p (map f xs))
            ≡ option_map f (if b then Some x else find (λ x. p (f x)) xs)
        from true h = refl
        from false h = h

    -- as many images pass as elements with such an image
    pub count_map : (xs : List A) → count_by p (map f xs) ≡ count_by (λ x. p (f x)) xs
    count_map [] = refl
    count_map (x ∷ xs) =
        sum_by-cons (λ y. if p y then 1 else 0) (f x) (map f xs)
        ∙ (ap (λ n. (if p (f x) then 1 else 0) + n) (count_map xs)
        ∙ sym (sum_by-cons (λ y. if p (f y) then 1 else 0) x xs))
