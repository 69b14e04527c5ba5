-- Pages of numbers in the order of their ids: the page of an id, and all numbers after a page changed.
use Rattle.std.proofs.Common.{◌≡◌, ◌≢◌, ℕ, zero, suc, ◌+◌, ◌-◌, ◌<◌, ◌≤◌}
use Rattle.std.proofs.Common.{List, [], ◌∷◌, ◌++◌, length, get_or, Bool, true}
use Rattle.std.proofs.Common.{false, not, ap, refl, sym, ◌∙◌, subst, arith}
use Rattle.std.proofs.Common.{take, drop, set, filter, find, Contains}
use Rattle.std.specs.Prelude.{IsSomeAnd, Some, slice_get, Vec, Result, Ok, Err, OnOk, OnErr}
use Rattle.std.specs.List.{All, AllPairs, AllWithin, flat_map, insert}
use Rattle.std.specs.List.Sorted.{IsPartitionedBy}
use Rattle.std.specs.Ordering.{is_lt, is_le, is_gt}
use Rattle.std.specs.declared.cmp.Ordering.{Ordering}
use Rattle.std.specs.declared.cmp.Ordering.TheVariants.{Less, Equal, Greater}
use Rattle.std.proofs.lemmas.List.{take-append-drop, drop_more, get_or_default}
use Rattle.std.proofs.lemmas.List.{append_assoc, get_or-drop, length-drop}
use Rattle.std.proofs.lemmas.List.{set_split, length-append, take-append-le}
use Rattle.std.proofs.lemmas.List.{drop-append-le, append-nil, take_at}
use Rattle.std.proofs.lemmas.List.{get_or_append_left, get_or-take, length-take-le, take_more}
use Rattle.std.proofs.lemmas.List.Concat.{flat_map-append}
use Rattle.std.proofs.lemmas.List.Elements.{All-nil, All-cons, All-head, All-tail}
use Rattle.std.proofs.lemmas.List.Elements.{All-append, All-take, All-drop}
use Rattle.std.proofs.lemmas.List.Elements.{Contains-get_or, Contains-append_left, Contains-append_right}
use Rattle.std.proofs.lemmas.List.Elements.{All-weaker, filter-append}
use Rattle.hub_index.specs.Order.{IsOrder, id_at, id_cmp, has_id, number_in, is_below, with_number}
use Rattle.hub_index.specs.Order.{begins_up_to, IsNumberPage}
use Rattle.hub_index.proofs.OrderLemmas.{Rises, less_up_to, greater_less, pairs_right, pairs_across}
use Rattle.hub_index.proofs.OrderLemmas.{order_left, order_right, find_before, filter_drops}
use Rattle.hub_index.proofs.SlotLemmas.{find_behind}
use Rattle.hub_index.proofs.OrderLemmas.{not_below, not_above}
use Rattle.hub_index.proofs.IndexLemmas.{of_head, filter_keeps}
use Rattle.hub_index.proofs.ListLemmas.{at_place}

-- pages that show lists of numbers
module _ {A : Type 0} (f : A → List ℕ) where
  -- a statement that holds of each page's numbers holds of all numbers
  pub all_pages : (P : ℕ → Type 0) (pages : List A) → All (λ x. All P (f x)) pages → All P (flat_map f pages)
  all_pages P [] all = All-nil P
  all_pages P (x ∷ xs) all =
      All-append P (f x) (flat_map f xs) (All-head (λ y. All P (f y)) x xs all)
      (all_pages P xs (All-tail (λ y. All P (f y)) x xs all))

  -- a number of a page is one of all numbers
  pub page_has : (pages : List A) (j : ℕ) (d : A) (n : ℕ) → j < length pages
      → Contains (f (get_or pages j d)) n
      → Contains (flat_map f pages) n
  page_has [] j d n l there = absurd (omega arith)
  page_has (x ∷ xs) zero d n l there = Contains-append_left (f x) (flat_map f xs) n there
  page_has (x ∷ xs) (suc j) d n l there =
      Contains-append_right (f x) (flat_map f xs) n (page_has xs j d n (omega arith) there)

  -- the numbers of the pages before page k, those of page k, and those of the pages behind it
  pub cut_at : (pages : List A) (k : ℕ) (x : A) → k < length pages → x ≡ get_or pages k x
      → flat_map f pages ≡ flat_map f (take k pages) ++ (f x ++ flat_map f (drop (k + 1) pages))
  cut_at pages k x l is =
      ap (flat_map f)
      (sym (take-append-drop k pages)
      ∙ ap (λ ys. take k pages ++ ys) (drop_more pages k x l ∙ ap (λ y. y ∷ drop (k + 1) pages) (sym is)))
      ∙ flat_map-append f (take k pages) (x ∷ drop (k + 1) pages)

  module _ (ids : List (List ℕ)) where
    -- where all numbers are in order, the numbers of each page are
    pub each_order : (pages : List A) → IsOrder ids (flat_map f pages) → All (λ x. IsOrder ids (f x)) pages
    each_order [] order = All-nil (λ x. IsOrder ids (f x))
    each_order (x ∷ xs) order =
        All-cons (λ y. IsOrder ids (f y)) x xs (order_left ids (f x) (flat_map f xs) order)
        (each_order xs (order_right ids (f x) (flat_map f xs) order))

    module _ (id : List ℕ) where
      begins_before : (xs ys : List ℕ) → 0 < length xs
          → ((m n : ℕ) → Contains xs m → Contains ys n → Rises ids m n)
          → begins_up_to ids id ys ≡ true → begins_up_to ids id xs ≡ true
      begins_before [] ys some rises h = absurd (omega arith)
      begins_before (m ∷ xs) [] some rises h = absurd (cc)
      begins_before (m ∷ xs) (n ∷ ys) some rises h =
          up_to (id_cmp ids id m)
          (less_up_to (id_at ids m) (id_at ids n) id
          (rises m n (0, omega arith, refl) (0, omega arith, refl)) h)
        where
          up_to : (o : Ordering) → o ≡ Less → is_le o ≡ true
          up_to o e = ap is_le e

      pub firsts_parted : (pages : List A) → All (λ x. 0 < length (f x)) pages
          → AllPairs (Rises ids) (flat_map f pages) → IsPartitionedBy (λ x. begins_up_to ids id (f x)) pages
      firsts_parted [] some rising i j d i≤j l h = absurd (omega arith)
      firsts_parted (x ∷ xs) some rising zero zero d i≤j l h = h
      firsts_parted (x ∷ xs) some rising (suc i) zero d i≤j l h = absurd (omega arith)
      firsts_parted (x ∷ xs) some rising zero (suc j) d i≤j l h =
          begins_before (f x) (f (get_or xs j d)) (All-head (λ y. 0 < length (f y)) x xs some)
          (λ m n a b.
          pairs_across (Rises ids) (f x) (flat_map f xs) rising m n a (page_has xs j d n (omega arith) b)) h
      firsts_parted (x ∷ xs) some rising (suc i) (suc j) d i≤j l h =
          firsts_parted xs (All-tail (λ y. 0 < length (f y)) x xs some)
          (pairs_right (Rises ids) (f x) (flat_map f xs) rising) i j d (omega arith) (omega arith) h

      -- the numbers of a page that begins above the id lie above the id
      page_above : (xs : List ℕ) → 0 < length xs → AllPairs (Rises ids) xs → begins_up_to ids id xs ≡ false
          → All (λ n. is_gt (id_cmp ids id n) ≡ true) xs
      page_above [] some rising h = absurd (omega arith)
      page_above (m ∷ xs) some rising h =
          let first : is_gt (id_cmp ids id m) ≡ true = greater (id_cmp ids id m) h in
          All-cons (λ n. is_gt (id_cmp ids id n) ≡ true) m xs first
          (λ k d l. greater_less (id_at ids m) (id_at ids (get_or xs k d)) id first
          (of_head (Rises ids) m xs rising k d l))
        where
          greater : (o : Ordering) → is_le o ≡ false → is_gt o ≡ true
          greater Less e = absurd (cc)
          greater Equal e = absurd (cc)
          greater Greater e = refl

      pub above_from : (pages : List A) (k : ℕ) → All (λ x. 0 < length (f x)) pages
          → IsOrder ids (flat_map f pages)
          → AllWithin (λ x. begins_up_to ids id (f x) ≡ false) pages k (length pages)
          → All (λ n. is_gt (id_cmp ids id n) ≡ true) (flat_map f (drop k pages))
      above_from pages k some order high =
          all_pages (λ n. is_gt (id_cmp ids id n) ≡ true) (drop k pages)
          (λ j d l.
          let there : k + j < length pages = omega (arith, length-drop k pages) in
          rw get_or-drop
          (page_above (f (get_or pages (k + j) d)) (some (k + j) d there)
          (each_order pages order (k + j) d there).rising (high (k + j) d (omega arith) there)))

      -- the numbers of the pages before a page that begins with the id or below it lie below the id
      pub below_page : (pages : List A) (k : ℕ) (x : A) → k < length pages → x ≡ get_or pages k x
          → AllPairs (Rises ids) (flat_map f pages) → begins_up_to ids id (f x) ≡ true
          → All (λ n. is_below ids id n ≡ true) (flat_map f (take k pages))
      below_page pages k x l is rising h =
          below (flat_map f (take k pages)) (f x) (flat_map f (drop (k + 1) pages))
          (subst (AllPairs (Rises ids)) (cut_at pages k x l is) rising) h
        where
          below : (xs ys zs : List ℕ) → AllPairs (Rises ids) (xs ++ (ys ++ zs))
              → begins_up_to ids id ys ≡ true
              → All (λ n. is_below ids id n ≡ true) xs
          below xs [] zs pairs e j d m<l = absurd (cc)
          below xs (m ∷ ys) zs pairs e j d m<l =
              ap is_lt
              (less_up_to (id_at ids (get_or xs j d)) (id_at ids m) id
              (pairs_across (Rises ids) xs (m ∷ (ys ++ zs)) pairs (get_or xs j d) m
              (Contains-get_or xs j d m<l) (0, omega arith, refl)) e)

      -- where the first k pages begin with the id or below it, the numbers before page k - 1 lie below the id
      pub before_page : (pages : List A) (k : ℕ) → k ≤ length pages → AllPairs (Rises ids) (flat_map f pages)
          → AllWithin (λ x. begins_up_to ids id (f x) ≡ true) pages 0 k
          → All (λ n. is_below ids id n ≡ true) (flat_map f (take (k - 1) pages))
      before_page pages zero l rising low = All-nil (λ n. is_below ids id n ≡ true)
      before_page [] (suc k) l rising low = absurd (omega arith)
      before_page (p ∷ ps) (suc k) l rising low =
          let x = get_or (p ∷ ps) k p in
          let here : k < length (p ∷ ps) = omega arith in
          rw suc_less
          (below_page (p ∷ ps) k x here (get_or_default (p ∷ ps) k p x here) rising
          (low k p (omega arith) (omega arith)))
        where
          suc_less : suc k - 1 ≡ k
          suc_less = omega arith

      -- where the pages from k on begin above the id, the numbers behind page k - 1 lie above the id
      pub behind_page : (pages : List A) (k : ℕ) → All (λ x. 0 < length (f x)) pages
          → IsOrder ids (flat_map f pages)
          → AllWithin (λ x. begins_up_to ids id (f x) ≡ false) pages k (length pages)
          → All (λ n. is_gt (id_cmp ids id n) ≡ true) (flat_map f (drop (k - 1 + 1) pages))
      behind_page pages k some order high =
          above_from pages (k - 1 + 1) some order (λ j d a b. high j d (omega arith) b)

-- ---- a list with one more in it

insert_behind : (xs ys : List ℕ) (at n place : ℕ) → place ≡ length xs + at
    → insert (xs ++ ys) place n ≡ xs ++ insert ys at n
insert_behind [] ys at n place e = ap (λ p. insert ys p n) (omega arith)
insert_behind (x ∷ xs) ys at n zero e = absurd (omega arith)
insert_behind (x ∷ xs) ys at n (suc place) e = ap (λ l. x ∷ l) (insert_behind xs ys at n place (omega arith))

insert_before : (ys zs : List ℕ) (at n : ℕ) → at ≤ length ys → insert (ys ++ zs) at n ≡ insert ys at n ++ zs
insert_before ys zs at n l =
    ap (λ front. front ++ n ∷ drop at (ys ++ zs)) (take-append-le at ys zs l)
    ∙ (ap (λ back. take at ys ++ n ∷ back) (drop-append-le at ys zs l)
    ∙ sym (append_assoc (take at ys) (n ∷ drop at ys) zs))

-- a number goes to a place of the middle one of three lists
pub insert_inside : (xs ys zs : List ℕ) (at n : ℕ) → at ≤ length ys
    → insert (xs ++ (ys ++ zs)) (length xs + at) n ≡ xs ++ (insert ys at n ++ zs)
insert_inside xs ys zs at n l =
    insert_behind xs (ys ++ zs) at n (length xs + at) refl ∙ ap (λ l. xs ++ l) (insert_before ys zs at n l)

-- ---- a page that changes

module _ {A : Type 0} where
  -- a statement on the element at a place holds of the element that is read there
  pub some_at : (P : A → Type 0) (xs : List A) (k : ℕ) → IsSomeAnd (slice_get xs k) P
      → (k < length xs) × ((x : A) → x ≡ get_or xs k x → P x)
  some_at P [] k h = absurd h
  some_at P (y ∷ ys) zero h = (omega arith, λ x e. subst P (sym e) h)
  some_at P (y ∷ ys) (suc k) h =
      let rest = some_at P ys k h in
      let low : k < length ys = rest.0 in (omega arith, rest.1)

  pub at_some : (P : A → Type 0) (xs : List A) (k : ℕ) (x : A) → k < length xs → x ≡ get_or xs k x → P x
      → IsSomeAnd (slice_get xs k) P
  at_some P xs k x l is h = subst (λ o. IsSomeAnd o P) (sym (at_place xs k x l is)) h

module _ {A : Type 0} (f : A → List ℕ) where
  -- the numbers of the pages, where a page is changed
  page_set : (pages : List A) (k : ℕ) (y : A) → k < length pages
      → flat_map f (set pages k y) ≡ flat_map f (take k pages) ++ (f y ++ flat_map f (drop (k + 1) pages))
  page_set pages k y l =
      let next : suc k ≡ k + 1 = omega arith in
      ap (flat_map f) (set_split pages k y l ∙ ap (λ m. take k pages ++ y ∷ drop m pages) next)
      ∙ flat_map-append f (take k pages) (y ∷ drop (k + 1) pages)

  -- a page takes in a number, and so do the numbers of all pages
  pub page_put : (pages : List A) (k : ℕ) (x y : A) (at n : ℕ) → k < length pages → x ≡ get_or pages k x
      → at ≤ length (f x) → f y ≡ insert (f x) at n
      → flat_map f (set pages k y) ≡ insert (flat_map f pages) (length (flat_map f (take k pages)) + at) n
  page_put pages k x y at n l is low e =
      page_set pages k y l
      ∙ (ap (λ p. flat_map f (take k pages) ++ (p ++ flat_map f (drop (k + 1) pages))) e
      ∙ (sym (insert_inside (flat_map f (take k pages)) (f x) (flat_map f (drop (k + 1) pages)) at n low)
      ∙ ap (λ l. insert l (length (flat_map f (take k pages)) + at) n) (sym (cut_at f pages k x l is))))

  -- a page that keeps its numbers keeps the numbers of all pages
  pub page_same : (pages : List A) (k : ℕ) (x y : A) → k < length pages → x ≡ get_or pages k x → f y ≡ f x
      → flat_map f (set pages k y) ≡ flat_map f pages
  page_same pages k x y l is e =
      page_set pages k y l
      ∙ (ap (λ p. flat_map f (take k pages) ++ (p ++ flat_map f (drop (k + 1) pages))) e
      ∙ sym (cut_at f pages k x l is))

-- ---- a page that is cut in two

module _ {A : Type 0} where
  cut_is : (pages : List A) (k m : ℕ) (lower upper : A) → m ≡ k + 1 → k < length pages
      → set (insert pages m upper) k lower ≡ take k pages ++ lower ∷ upper ∷ drop m pages
  cut_is [] k m lower upper e l = absurd (omega arith)
  cut_is (p ∷ ps) zero zero lower upper e l = absurd (omega arith)
  cut_is (p ∷ ps) zero (suc zero) lower upper e l = refl
  cut_is (p ∷ ps) zero (suc (suc m)) lower upper e l = absurd (omega arith)
  cut_is (p ∷ ps) (suc k) zero lower upper e l = absurd (omega arith)
  cut_is (p ∷ ps) (suc k) (suc m) lower upper e l =
      ap (λ l. p ∷ l) (cut_is ps k m lower upper (omega arith) (omega arith))

  first_of_two : (xs ys : List A) (a b : A) (k : ℕ) → k ≡ length xs
      → slice_get (xs ++ a ∷ b ∷ ys) k ≡ Some a
  first_of_two [] ys a b zero e = refl
  first_of_two [] ys a b (suc k) e = absurd (omega arith)
  first_of_two (x ∷ xs) ys a b zero e = absurd (omega arith)
  first_of_two (x ∷ xs) ys a b (suc k) e = first_of_two xs ys a b k (omega arith)

  second_of_two : (xs ys : List A) (a b : A) (k : ℕ) → k ≡ length xs + 1
      → slice_get (xs ++ a ∷ b ∷ ys) k ≡ Some b
  second_of_two [] ys a b zero e = absurd (omega arith)
  second_of_two [] ys a b (suc zero) e = refl
  second_of_two [] ys a b (suc (suc k)) e = absurd (omega arith)
  second_of_two (x ∷ xs) ys a b zero e = absurd (omega arith)
  second_of_two (x ∷ xs) ys a b (suc k) e = second_of_two xs ys a b k (omega arith)

-- the pages of `pages`, where page k is cut into `lower` and `upper`
module _ {A : Type 0} (f : A → List ℕ) (pages : List A) (k : ℕ) (x y lower upper : A) (l : k < length pages)
    (is : x ≡ get_or pages k x) (full : length (f x) ≡ 256) (high : f upper ≡ drop 128 (f x))
    (there : y ≡ get_or (insert pages (k + 1) upper) k y) (low : f lower ≡ take 128 (f y)) where
  kept : y ≡ x
  kept =
      there
      ∙ (get_or_append_left (take (k + 1) pages) (upper ∷ drop (k + 1) pages) y k
      (omega (arith, length-take-le (k + 1) pages (omega arith)))
      ∙ (get_or-take (k + 1) pages k y (omega arith) ∙ (get_or_default pages k y x l ∙ sym is)))

  two : set (insert pages (k + 1) upper) k lower ≡ take k pages ++ lower ∷ upper ∷ drop (k + 1) pages
  two = cut_is pages k (k + 1) lower upper refl l

  at_k : k ≡ length (take k pages)
  at_k = omega (arith, length-take-le k pages (omega arith))

  lower_is : f lower ≡ take 128 (f x)
  lower_is = low ∙ ap (λ z. take 128 (f z)) kept

  pub cut_numbers : flat_map f (set (insert pages (k + 1) upper) k lower) ≡ flat_map f pages
  cut_numbers =
      ap (flat_map f) two
      ∙ (flat_map-append f (take k pages) (lower ∷ upper ∷ drop (k + 1) pages)
      ∙ (ap (λ l. flat_map f (take k pages) ++ l)
      (sym (append_assoc (f lower) (f upper) (flat_map f (drop (k + 1) pages))))
      ∙ (ap (λ l. flat_map f (take k pages) ++ (l ++ flat_map f (drop (k + 1) pages)))
      (ap (λ a. a ++ f upper) lower_is ∙ (ap (λ b. take 128 (f x) ++ b) high ∙ take-append-drop 128 (f x)))
      ∙ sym (cut_at f pages k x l is))))

  pub cut_before : take k (set (insert pages (k + 1) upper) k lower) ≡ take k pages
  cut_before = ap (take k) two ∙ take_at (take k pages) (lower ∷ upper ∷ drop (k + 1) pages) k (sym at_k)

  lower_size : length (f lower) ≡ 128
  lower_size = ap length lower_is ∙ length-take-le 128 (f x) (omega arith)

  upper_size : length (f upper) ≡ 128
  upper_size = omega (arith, ap (λ (l : List ℕ). length l) high, length-drop 128 (f x))

  pub cut_lower : IsSomeAnd (slice_get (set (insert pages (k + 1) upper) k lower) k) (λ v. length (f v) ≡ 128)
  cut_lower =
      subst (λ o. IsSomeAnd o (λ v. length (f v) ≡ 128))
      (sym (ap (λ l. slice_get l k) two
      ∙ first_of_two (take k pages) (drop (k + 1) pages) lower upper k at_k))
      lower_size

  pub cut_upper : IsSomeAnd (slice_get (set (insert pages (k + 1) upper) k lower) (k + 1))
      (λ v. length (f v) ≡ 128)
  cut_upper =
      subst (λ o. IsSomeAnd o (λ v. length (f v) ≡ 128))
      (sym (ap (λ l. slice_get l (k + 1)) two
      ∙ second_of_two (take k pages) (drop (k + 1) pages) lower upper (k + 1) (omega (arith, at_k))))
      upper_size

  pub cut_pages : (P : A → Type 0) → ((z : A) → length (f z) ≡ 128 → P z) → All P pages
      → All P (set (insert pages (k + 1) upper) k lower)
  cut_pages P good all =
      subst (All P) (sym two)
      (All-append P (take k pages) (lower ∷ upper ∷ drop (k + 1) pages) (All-take P k pages all)
      (All-cons P lower (upper ∷ drop (k + 1) pages) (good lower lower_size)
      (All-cons P upper (drop (k + 1) pages) (good upper upper_size) (All-drop P (k + 1) pages all))))

-- a place of the upper half among the numbers of all pages
pub place_behind : {A : Type 0} (f : A → List ℕ) (old new : List A) (k at : ℕ) → take k new ≡ take k old
    → IsSomeAnd (slice_get new k) (λ v. length (f v) ≡ 128) → 128 ≤ at
    → length (flat_map f (take (k + 1) new)) + (at - 128) ≡ length (flat_map f (take k old)) + at
place_behind f old [] k at e h l = absurd h
place_behind f old (p ∷ ps) k at e h l =
    let here = some_at (λ v. length (f v) ≡ 128) (p ∷ ps) k h in
    let x = get_or (p ∷ ps) k p in
    let size : length (f x) ≡ 128 = here.1 x (get_or_default (p ∷ ps) k p x here.0) in
    let more : length (flat_map f (take (k + 1) (p ∷ ps))) ≡ length (flat_map f (take k old)) + (128 + 0) =
    ap (λ l. length (flat_map f l)) (take_more (p ∷ ps) k p here.0)
    ∙ (ap length (flat_map-append f (take k (p ∷ ps)) (x ∷ []))
    ∙ (length-append (flat_map f (take k (p ∷ ps))) (f x ++ [])
    ∙ (ap (λ l. length (flat_map f l) + length (f x ++ [])) e
    ∙ ap (λ m. length (flat_map f (take k old)) + m) (length-append (f x) [] ∙ ap (λ m. m + 0) size)))) in
    omega arith

-- ---- the page of an id

-- a page that is not the number of pages is one of them
pub page_there : (k m n p : ℕ) → (0 < m → k < m) → (m ≡ 0 → k ≡ 0) → m ≡ p → m ≡ n → k ≢ n → k < p
page_there k zero n p within first e d apart = absurd (apart (first refl ∙ d))
page_there k (suc m) n p within first e d apart =
    let low : k < suc m = within (omega arith) in omega arith

module _ {A : Type 0} (f : A → List ℕ) (ids : List (List ℕ)) (id : List ℕ) (pages : List A) (k : ℕ) (x : A)
    (l : k < length pages) (is : x ≡ get_or pages k x)
    (below : All (λ n. is_below ids id n ≡ true) (flat_map f (take k pages)))
    (above : All (λ n. is_gt (id_cmp ids id n) ≡ true) (flat_map f (drop (k + 1) pages))) where
  pub page_order : IsOrder ids (flat_map f pages) → IsOrder ids (f x)
  page_order order =
      order_left ids (f x) (flat_map f (drop (k + 1) pages))
      (order_right ids (flat_map f (take k pages)) (f x ++ flat_map f (drop (k + 1) pages))
      (subst (IsOrder ids) (cut_at f pages k x l is) order))

  -- the number of the id stands on page k or nowhere
  pub page_finds : number_in ids (flat_map f pages) id ≡ number_in ids (f x) id
  page_finds =
      ap (find (has_id ids id)) (cut_at f pages k x l is)
      ∙ (find_behind (has_id ids id) (flat_map f (take k pages)) (f x ++ flat_map f (drop (k + 1) pages))
      (All-weaker (λ n. is_below ids id n ≡ true) (λ n. has_id ids id n ≡ false) (not_below ids id)
      (flat_map f (take k pages)) below)
      ∙ find_before (has_id ids id) (f x) (flat_map f (drop (k + 1) pages))
      (All-weaker (λ n. is_gt (id_cmp ids id n) ≡ true) (λ n. has_id ids id n ≡ false)
      (λ n h. (not_above ids id n h).0) (flat_map f (drop (k + 1) pages)) above))

  -- a number goes to the place of its id on the page
  pub page_takes : (at n : ℕ) → at ≤ length (f x) → take at (f x) ≡ filter (is_below ids id) (f x)
      → drop at (f x) ≡ filter (λ m. not (is_below ids id m)) (f x)
      → insert (flat_map f pages) (length (flat_map f (take k pages)) + at) n
      ≡ with_number ids (flat_map f pages) id n
  page_takes at n low before behind =
      let front = flat_map f (take k pages) in
      let back = flat_map f (drop (k + 1) pages) in
      let p = is_below ids id in
      let q : ℕ → Bool = λ m. not (is_below ids id m) in
      let high : All (λ m. p m ≡ false) back =
      All-weaker (λ m. is_gt (id_cmp ids id m) ≡ true) (λ m. p m ≡ false)
      (λ m h. (not_above ids id m h).1) back above in
      let lows : filter p (front ++ (f x ++ back)) ≡ front ++ take at (f x) =
      filter-append p front (f x ++ back)
      ∙ (ap (λ l. l ++ filter p (f x ++ back)) (filter_keeps p front below)
      ∙ ap (λ l. front ++ l) (filter-append p (f x) back
      ∙ (ap (λ l. filter p (f x) ++ l) (filter_drops p back high)
      ∙ (append-nil (filter p (f x)) ∙ sym before)))) in
      let highs : filter q (front ++ (f x ++ back)) ≡ drop at (f x) ++ back =
      filter-append q front (f x ++ back)
      ∙ (ap (λ l. l ++ filter q (f x ++ back)) (filter_drops q front (λ i d m. ap not (below i d m)))
      ∙ (filter-append q (f x) back
      ∙ (ap (λ l. l ++ filter q back) (sym behind)
      ∙ ap (λ l. drop at (f x) ++ l) (filter_keeps q back (λ i d m. ap not (high i d m)))))) in
      ap (λ l. insert l (length front + at) n) (cut_at f pages k x l is)
      ∙ (insert_inside front (f x) back at n low
      ∙ (ap (λ l. front ++ l) (append_assoc (take at (f x)) (n ∷ drop at (f x)) back)
      ∙ (sym (append_assoc front (take at (f x)) (n ∷ (drop at (f x) ++ back)))
      ∙ (ap (λ l. l ++ n ∷ (drop at (f x) ++ back)) (sym lows)
      ∙ (ap (λ l. filter p (front ++ (f x ++ back)) ++ n ∷ l) (sym highs)
      ∙ ap (λ l. with_number ids l id n) (sym (cut_at f pages k x l is)))))))

-- a page that took in a number, or found no memory for it
pub page_kept : {Y T E : Type 0} (r : Result T E) (x y : Vec ℕ Y) (at n : ℕ)
    → OnOk r (y.items ≡ insert x.items at n) → OnErr r (y.items ≡ x.items) → IsNumberPage x
    → at ≤ length x.items → length x.items < 256 → IsNumberPage y
page_kept (Ok u) x y at n ok err page l few =
    let size : length y.items ≡ length x.items + 1 =
    ap (λ (l : List ℕ). length l) ok
    ∙ omega (
      arith,
      length-append (take at x.items) (n ∷ drop at x.items),
      length-take-le at x.items l,
      length-drop at x.items,
    ) in
    record { some = omega arith; few = omega arith }
page_kept (Err e) x y at n ok err page l few =
    record {
      some = subst (λ (l : List ℕ). 0 < length l) (sym err) page.some;
      few = subst (λ (l : List ℕ). length l ≤ 256) (sym err) page.few;
    }
