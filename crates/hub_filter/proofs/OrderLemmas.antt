-- Texts in byte order: any texts have one list in this order.
use Rattle.std.proofs.Common.{◌≡◌, ℕ, suc, ◌+◌, ◌<◌, ◌≤◌, List, [], ◌∷◌, map, length}
use Rattle.std.proofs.Common.{get_or, string_bytes, String, Global, true, false, cond}
use Rattle.std.proofs.Common.{inl, inr, sym, ◌∙◌, ap, refl, Ordering, arith}
use Rattle.std.specs.List.{All, sum_by}
use Rattle.std.specs.List.Sorted.{IsPermutation, IsSorted}
use Rattle.std.specs.String.{string_cmp}
use Rattle.std.specs.Ordering.{nat_cmp, is_gt, is_lt, ordering_reverse}
use Rattle.std.specs.declared.cmp.Ordering.TheVariants.{Less, Equal, Greater}
use Rattle.std.specs.Cmp.Lexicographic.{slice_cmp}
use Rattle.std.proofs.lemmas.Bool.{cases_Bool}
use Rattle.std.proofs.lemmas.Cmp.{nat_list_cmp_total, tied_itself, upto}
use Rattle.std.proofs.lemmas.List.Elements.{All-tail}
use Rattle.std.proofs.lemmas.List.Sorted.{IsPermutation-map, sum_by-IsPermutation, sorted_far, ranks_by}
use Rattle.std.proofs.lemmas.List.Sums.{sum_by-cons}
use Rattle.std.proofs.lemmas.Map.Lookups.{exact_bytes}
use Rattle.hub_filter.specs.Listed.{put_in, in_order}

-- how texts compare
abbrev order : List ℕ → List ℕ → Ordering
order = slice_cmp nat_cmp

-- the text is above none of these texts
abbrev UpTo : List ℕ → List (List ℕ) → Type 0
UpTo x [] = Unit {0}
UpTo x (y ∷ ys) = (is_gt (order x y) ≡ false) × UpTo x ys

-- each text is above no later text
abbrev Rises : List (List ℕ) → Type 0
Rises [] = Unit {0}
Rises (x ∷ xs) = UpTo x xs × Rises xs

-- the order of two texts the other way round
turned : (x y : List ℕ) → order x y ≡ ordering_reverse (order y x)
turned = nat_list_cmp_total.antisymm

not_gt : (other ordering : Ordering) → ordering ≡ ordering_reverse other → is_gt other ≡ true
    → is_gt ordering ≡ false
not_gt Less ordering e t = absurd (cc)
not_gt Equal ordering e t = absurd (cc)
not_gt Greater ordering e t = rw e refl

not_lt : (other ordering : Ordering) → ordering ≡ ordering_reverse other → is_lt other ≡ false
    → is_gt ordering ≡ false
not_lt Less ordering e t = absurd (cc)
not_lt Equal ordering e t = rw e refl
not_lt Greater ordering e t = rw e refl

tied : (other ordering : Ordering) → ordering ≡ ordering_reverse other → is_gt other ≡ false
    → is_gt ordering ≡ false → other ≡ Equal
tied Less ordering e t u = absurd (clash (sym (ap is_gt e) ∙ u))
  where
    clash : true ≡ false → ⊥
    clash e = cc
tied Equal ordering e t u = refl
tied Greater ordering e t u = absurd (cc)

-- ---- insertion keeps the order and the texts

up_to_more : (x y : List ℕ) (ys : List (List ℕ)) → is_gt (order x y) ≡ false → UpTo y ys → UpTo x ys
up_to_more x y [] l u = tt
up_to_more x y (z ∷ zs) l u = (upto nat_list_cmp_total x y z l u.0, up_to_more x y zs l u.1)

put_up_to : (x id : List ℕ) (ys : List (List ℕ)) → is_gt (order x id) ≡ false → UpTo x ys
    → UpTo x (put_in id ys)
put_up_to x id [] l u = (l, tt)
put_up_to x id (y ∷ ys) l u =
    elim (cases_Bool (is_gt (order id y))) [
      | inl t ↦ rw t (u.0, put_up_to x id ys l u.1)
      | inr f ↦ rw f (l, u)
    ]

put_rises : (id : List ℕ) (ys : List (List ℕ)) → Rises ys → Rises (put_in id ys)
put_rises id [] r = (tt, tt)
put_rises id (y ∷ ys) r =
    elim (cases_Bool (is_gt (order id y))) [
      | inl t ↦
          rw t (put_up_to y id ys (not_gt (order id y) (order y id) (turned y id) t) r.0, put_rises id ys r.1)
      | inr f ↦ rw f ((f, up_to_more id y ys f r.0), r)
    ]

order_rises : (xs : List (List ℕ)) → Rises (in_order xs)
order_rises [] = tt
order_rises (x ∷ xs) = put_rises x (in_order xs) (order_rises xs)

put_sum : (f : List ℕ → ℕ) (id : List ℕ) (ys : List (List ℕ)) → sum_by f (put_in id ys) ≡ f id + sum_by f ys
put_sum f id [] = sum_by-cons f id []
put_sum f id (y ∷ ys) =
    elim (cases_Bool (is_gt (order id y))) [
      | inl t ↦ rw t (omega (arith, sum_by-cons f y (put_in id ys), put_sum f id ys, sum_by-cons f y ys))
      | inr g ↦ rw g (sum_by-cons f id (y ∷ ys))
    ]

order_sum : (f : List ℕ → ℕ) (xs : List (List ℕ)) → sum_by f (in_order xs) ≡ sum_by f xs
order_sum f [] = refl
order_sum f (x ∷ xs) = omega (arith, put_sum f x (in_order xs), order_sum f xs, sum_by-cons f x xs)

-- ---- two rising lists of the same texts are one

-- 1 for a text y below x, else 0
abbrev below : List ℕ → List ℕ → ℕ
below x y = cond (is_gt (order x y)) 1 0

none_below : (x : List ℕ) (ys : List (List ℕ)) → UpTo x ys → sum_by (below x) ys ≡ 0
none_below x [] u = refl
none_below x (y ∷ ys) u =
    let here : below x y ≡ 0 = rw u.0 refl in
    omega (arith, sum_by-cons (below x) y ys, here, none_below x ys u.1)

-- the first of a rising list is above no text of a list with the same texts
first_up_to : (x : List ℕ) (xs : List (List ℕ)) (y : List ℕ) (ys : List (List ℕ)) → UpTo x xs
    → sum_by (below x) (x ∷ xs) ≡ sum_by (below x) (y ∷ ys) → is_gt (order x y) ≡ false
first_up_to x xs y ys u same =
    let here : below x x ≡ 0 = rw (tied_itself nat_list_cmp_total x) refl in
    let there : below x y ≡ 0 =
    omega (arith, here, sum_by-cons (below x) x xs, none_below x xs u, same, sum_by-cons (below x) y ys) in
    elim (cases_Bool (is_gt (order x y))) [
      | inl t ↦ absurd (omega (arith, rw t at there))
      | inr f ↦ f
    ]

one_rises : (xs ys : List (List ℕ)) → Rises xs → Rises ys → ((f : List ℕ → ℕ) → sum_by f xs ≡ sum_by f ys)
    → xs ≡ ys
one_rises [] [] r s same = refl
one_rises [] (y ∷ ys) r s same = absurd (omega (arith, same (λ _. 1), sum_by-cons (λ _. 1) y ys))
one_rises (x ∷ xs) [] r s same = absurd (omega (arith, same (λ _. 1), sum_by-cons (λ _. 1) x xs))
one_rises (x ∷ xs) (y ∷ ys) r s same =
    let low = first_up_to x xs y ys r.0 (same (below x)) in
    let high = first_up_to y ys x xs s.0 (sym (same (below y))) in
    let first : x ≡ y = exact_bytes x y (tied (order x y) (order y x) (turned y x) low high) in
    let rest : xs ≡ ys =
    one_rises xs ys r.1 s.1
    (λ f. omega (arith, same f, sum_by-cons f x xs, sum_by-cons f y ys, ap f first)) in
    cc

-- ---- sorted texts

sorted_up_to : (x : String Global) (ys : List (String Global)) → All (λ y. is_lt (string_cmp y x) ≡ false) ys
    → UpTo (string_bytes x) (map string_bytes ys)
sorted_up_to x [] all = tt
sorted_up_to x (y ∷ ys) all = (
  not_lt (string_cmp y x) (string_cmp x y) (turned (string_bytes x) (string_bytes y)) (all 0 y (omega arith)),
  sorted_up_to x ys (All-tail (λ y. is_lt (string_cmp y x) ≡ false) y ys all),
)

sorted_rises : (xs : List (String Global))
    → ((i j : ℕ) (d : String Global) → i ≤ j → j < length xs
    → is_lt (string_cmp (get_or xs j d) (get_or xs i d)) ≡ false)
    → Rises (map string_bytes xs)
sorted_rises [] far = tt
sorted_rises (x ∷ xs) far = (
  sorted_up_to x xs (λ k d l. far 0 (suc k) d (omega arith) (omega arith)),
  sorted_rises xs (λ i j d l m. far (suc i) (suc j) d (omega arith) (omega arith)),
)

-- a sorted permutation is the list in order
pub sorted_is : (xs ys : List (String Global)) → IsPermutation xs ys → IsSorted string_cmp ys
    → map string_bytes ys ≡ in_order (map string_bytes xs)
sorted_is xs ys same sorted =
    one_rises (map string_bytes ys) (in_order (map string_bytes xs))
    (sorted_rises ys
    (sorted_far (λ a b. is_lt (string_cmp a b)) (ranks_by nat_list_cmp_total string_bytes) ys sorted))
    (order_rises (map string_bytes xs))
    (λ f. sum_by-IsPermutation f _ _ (IsPermutation-map string_bytes xs ys same)
    ∙ sym (order_sum f (map string_bytes xs)))
