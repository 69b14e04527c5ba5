-- Numbers in the order of their ids: the number that a search finds, and the place of a new number.
use Rattle.std.proofs.Common.{◌≡◌, ◌≢◌, ℕ, zero, suc, ◌+◌, ◌<◌, ◌≤◌, List}
use Rattle.std.proofs.Common.{[], ◌∷◌, ◌++◌, length, get_or, Bool, true}
use Rattle.std.proofs.Common.{false, not, ap, refl, sym, ◌∙◌, subst, arith, inl}
use Rattle.std.proofs.Common.{inr, ◌⊎◌, take, drop, find, filter, Contains}
use Rattle.std.specs.Prelude.{if◌then◌else◌}
use Rattle.std.specs.Prelude.{Some, None}
use Rattle.std.specs.Cmp.Lexicographic.{slice_cmp}
use Rattle.std.specs.List.{All, AllPairs, AllWithin}
use Rattle.std.specs.List.Sorted.{IsPartitionedBy}
use Rattle.std.specs.Ordering.{nat_cmp, is_lt, is_le, is_gt, is_eq, ordering_reverse}
use Rattle.std.specs.Map.{update}
use Rattle.std.specs.Str.{bytes_eq}
use Rattle.std.specs.declared.cmp.Ordering.{Ordering}
use Rattle.std.specs.declared.cmp.Ordering.TheVariants.{Less, Equal, Greater}
use Rattle.std.proofs.lemmas.Bool.{cases_lt}
use Rattle.std.proofs.lemmas.Cmp.{nat_list_cmp_total, alike_right, tied_itself}
use Rattle.std.proofs.lemmas.List.{get_or_default, get_or_append_left, get_or-append-add, length-append}
use Rattle.std.proofs.lemmas.List.{take-append-drop, drop_more, drop_all, get_or_at, length_push}
use Rattle.std.proofs.lemmas.Map.Text.{is_eq-slice_cmp}
use Rattle.std.proofs.lemmas.List.Elements.{All-nil, All-cons, All-head, All-tail, All-append}
use Rattle.std.proofs.lemmas.List.Elements.{All-contains, All-filter, All-weaker}
use Rattle.std.proofs.lemmas.List.Elements.{Contains-get_or, Contains-append_right, filter_passes}
use Rattle.std.proofs.lemmas.List.Kept.{AllPairs-filter, AllPairs-cons}
use Rattle.hub_model.proofs.Lists.{same_text}
use Rattle.hub_model.proofs.Sorted.{gt_is}
use Rattle.hub_model.proofs.Tests.{not_true}
use Rattle.hub_index.specs.Order.{IsOrder, id_at, id_cmp, has_id, number_in, is_below, with_number}
use Rattle.hub_index.proofs.ListLemmas.{text_apart, text_same}
use Rattle.hub_index.proofs.SlotLemmas.{find_behind}
use Rattle.hub_index.proofs.IndexLemmas.{find_nothing, filter_keeps, of_head, of_tail}

-- ---- texts in order

pub less_up_to : (x y z : List ℕ) → slice_cmp nat_cmp x y ≡ Less → is_le (slice_cmp nat_cmp y z) ≡ true
    → slice_cmp nat_cmp x z ≡ Less
less_up_to x y z xy yz = from (slice_cmp nat_cmp y z) refl yz
  where
    from : (ordering : Ordering) → slice_cmp nat_cmp y z ≡ ordering → is_le ordering ≡ true
        → slice_cmp nat_cmp x z ≡ Less
    from Less e h = nat_list_cmp_total.trans x y z xy e
    from Equal e h = sym (alike_right nat_list_cmp_total y z x e) ∙ xy
    from Greater e h = absurd (cc)

pub greater_less : (x y z : List ℕ) → is_gt (slice_cmp nat_cmp x z) ≡ true → slice_cmp nat_cmp x y ≡ Less
    → is_gt (slice_cmp nat_cmp y z) ≡ true
greater_less x y z xz xy = ap is_gt (nat_list_cmp_total.antisymm y z ∙ ap ordering_reverse zy)
  where
    zx : (ordering : Ordering) → slice_cmp nat_cmp x z ≡ ordering → is_gt ordering ≡ true
        → slice_cmp nat_cmp z x ≡ Less
    zx Less e h = absurd (cc)
    zx Equal e h = absurd (cc)
    zx Greater e h = nat_list_cmp_total.antisymm z x ∙ ap ordering_reverse e

    zy : slice_cmp nat_cmp z y ≡ Less
    zy = nat_list_cmp_total.trans z x y (zx (slice_cmp nat_cmp x z) refl xz) xy

-- texts that compare as different are not the same bytes
pub apart_by : (x y : List ℕ) (ordering : Ordering) → slice_cmp nat_cmp x y ≡ ordering → ordering ≢ Equal
    → bytes_eq x y ≡ false
apart_by x y ordering e n =
    text_apart x y
    (λ same. n (sym e ∙ (ap (slice_cmp nat_cmp x) (sym same) ∙ tied_itself nat_list_cmp_total x)))

-- ---- parts of a list whose pairs are related

module _ {X : Type 0} (R : X → X → Type 0) where
  pub pairs_left : (xs ys : List X) → AllPairs R (xs ++ ys) → AllPairs R xs
  pairs_left xs ys pairs i j d l m =
      let a : get_or (xs ++ ys) i d ≡ get_or xs i d = get_or_append_left xs ys d i (omega arith) in
      let b : get_or (xs ++ ys) j d ≡ get_or xs j d = get_or_append_left xs ys d j m in
      rw (← a, ← b) (pairs i j d l (omega (arith, length-append xs ys)))

  pub pairs_right : (xs ys : List X) → AllPairs R (xs ++ ys) → AllPairs R ys
  pairs_right [] ys pairs = pairs
  pairs_right (x ∷ xs) ys pairs = pairs_right xs ys (of_tail R x (xs ++ ys) pairs)

  -- each element of the first part is related to each of the second
  pub pairs_across : (xs ys : List X) → AllPairs R (xs ++ ys) → (x y : X) → Contains xs x → Contains ys y
      → R x y
  pairs_across [] ys pairs x y (k, l, e) there = absurd (omega arith)
  pairs_across (z ∷ xs) ys pairs x y (zero, l, e) there =
      subst (λ w. R w y) e
      (All-contains (R z) (xs ++ ys) y (of_head R z (xs ++ ys) pairs) (Contains-append_right xs ys y there))
  pairs_across (z ∷ xs) ys pairs x y (suc k, l, e) there =
      pairs_across xs ys (of_tail R z (xs ++ ys) pairs) x y (k, omega arith, e) there

  pub pairs_join : (xs ys : List X) → AllPairs R xs → AllPairs R ys
      → ((x y : X) → Contains xs x → Contains ys y → R x y) → AllPairs R (xs ++ ys)
  pairs_join [] ys left right across = right
  pairs_join (x ∷ xs) ys left right across =
      AllPairs-cons R x (xs ++ ys)
      (All-append (R x) xs ys (of_head R x xs left)
      (λ k d l. across x (get_or ys k d) (0, omega arith, refl) (Contains-get_or ys k d l)))
      (pairs_join xs ys (of_tail R x xs left) right
      (λ a b (k, l, e) there. across a b (suc k, omega arith, e) there))

module _ {X : Type 0} (p : X → Bool) where
  -- a filter that no element passes
  pub filter_drops : (xs : List X) → All (λ x. p x ≡ false) xs → filter p xs ≡ []
  filter_drops [] all = refl
  filter_drops (y ∷ xs) all =
      rw (All-head (λ x. p x ≡ false) y xs all) (filter_drops xs (All-tail (λ x. p x ≡ false) y xs all))

  pub find_before : (xs ys : List X) → All (λ x. p x ≡ false) ys → find p (xs ++ ys) ≡ find p xs
  find_before [] ys all = find_nothing p ys all
  find_before (x ∷ xs) ys all =
      ap (λ o. if p x then Some x else o) (find_before xs ys all)

  -- where an element passes, all up to it do
  pub passes_up_to : (xs : List X) (k m : ℕ) (x : X) → IsPartitionedBy p xs → k + 1 ≡ m → k < length xs
      → x ≡ get_or xs k x → p x ≡ true → AllWithin (λ y. p y ≡ true) xs 0 m
  passes_up_to xs k m x divided next l here passes i d a b =
      divided i k d (omega arith) l (ap p (get_or_default xs k d x l ∙ sym here) ∙ passes)

  -- where an element fails, all from it on do
  pub fails_from : (xs : List X) (k : ℕ) (x : X) → IsPartitionedBy p xs → x ≡ get_or xs k x → p x ≡ false
      → AllWithin (λ y. p y ≡ false) xs k (length xs)
  fails_from xs k x divided here fails i d a b = from (p (get_or xs i d)) refl
    where
      from : (t : Bool) → p (get_or xs i d) ≡ t → t ≡ false
      from true e =
          let l : k < length xs = omega arith in
          let passes : p x ≡ true = ap p (here ∙ get_or_default xs k x d l) ∙ divided k i d a b e in
          sym passes ∙ fails
      from false e = refl

  -- where the elements that pass stand before the others
  pub parted : (xs : List X) (k : ℕ) → k ≤ length xs → AllWithin (λ x. p x ≡ true) xs 0 k
      → AllWithin (λ x. p x ≡ false) xs k (length xs)
      → (take k xs ≡ filter p xs) × (drop k xs ≡ filter (λ x. not (p x)) xs)
  parted xs zero l low high =
      let none : All (λ x. p x ≡ false) xs = λ i d m. high i d (omega arith) m in
      (sym (filter_drops xs none), sym (filter_keeps (λ x. not (p x)) xs (λ i d m. ap not (none i d m))))
  parted [] (suc k) l low high = absurd (omega arith)
  parted (x ∷ xs) (suc k) l low high =
      let first : p x ≡ true = low 0 x (omega arith) (omega arith) in
      let rest =
      parted xs k (omega arith) (λ i d a b. low (suc i) d (omega arith) (omega arith))
      (λ i d a b. high (suc i) d (omega arith) (omega arith)) in
      (rw first (ap (λ ys. x ∷ ys) rest.0), rw first rest.1)

-- ---- numbers in order

module _ (ids : List (List ℕ)) where
  -- the first number's id lies below the second's
  abbrev pub Rises : ℕ → ℕ → Type 0
  Rises m n = id_cmp ids (id_at ids n) m ≡ Less

  -- parts of an order are orders
  pub order_left : (xs ys : List ℕ) → IsOrder ids (xs ++ ys) → IsOrder ids xs
  order_left xs ys order = record {
    known = λ k d l.
        rw (← get_or_append_left xs ys d k l) (order.known k d (omega (arith, length-append xs ys)));
    rising = pairs_left Rises xs ys order.rising;
  }

  pub order_right : (xs ys : List ℕ) → IsOrder ids (xs ++ ys) → IsOrder ids ys
  order_right xs ys order = record {
    known = λ k d l.
        rw (← get_or-append-add xs ys k d)
        (order.known (length xs + k) d (omega (arith, length-append xs ys)));
    rising = pairs_right Rises xs ys order.rising;
  }

  module _ (id : List ℕ) where
    lower_first : (m n : ℕ) → Rises m n → is_le (id_cmp ids id n) ≡ true → id_cmp ids id m ≡ Less
    lower_first m n = less_up_to (id_at ids m) (id_at ids n) id

    up_to_from_below : (o : Ordering) → is_lt o ≡ true → is_le o ≡ true
    up_to_from_below Less h = refl
    up_to_from_below Equal h = absurd (cc)
    up_to_from_below Greater h = absurd (cc)

    not_has : (o : Ordering) (n : ℕ) → id_cmp ids id n ≡ o → is_lt o ≡ true → has_id ids id n ≡ false
    not_has Less n e h = apart_by (id_at ids n) id Less e (λ q. cc)
    not_has Equal n e h = absurd (cc)
    not_has Greater n e h = absurd (cc)

    pub not_below : (n : ℕ) → is_below ids id n ≡ true → has_id ids id n ≡ false
    not_below n h = not_has (id_cmp ids id n) n refl h

    not_greater : (o : Ordering) (n : ℕ) → id_cmp ids id n ≡ o → is_gt o ≡ true
        → (has_id ids id n ≡ false) × (is_lt o ≡ false)
    not_greater Less n e h = absurd (cc)
    not_greater Equal n e h = absurd (cc)
    not_greater Greater n e h = (apart_by (id_at ids n) id Greater e (λ q. cc), refl)

    -- a number above the id neither has the id nor lies below it
    pub not_above : (n : ℕ) → is_gt (id_cmp ids id n) ≡ true
        → (has_id ids id n ≡ false) × (is_below ids id n ≡ false)
    not_above n h = not_greater (id_cmp ids id n) n refl h

    -- a number that neither has the id nor lies below it lies above the id
    pub above_else : (n : ℕ) → is_below ids id n ≡ false → has_id ids id n ≡ false
        → is_gt (id_cmp ids id n) ≡ true
    above_else n low apart = from (id_cmp ids id n) refl low
      where
        from : (o : Ordering) → id_cmp ids id n ≡ o → is_lt o ≡ false → is_gt o ≡ true
        from Less e h = absurd (cc)
        from Equal e h =
            absurd (true_not_false (sym (is_eq-slice_cmp (id_at ids n) id) ∙ ap is_eq e) apart)
          where
            true_not_false : bytes_eq (id_at ids n) id ≡ true → bytes_eq (id_at ids n) id ≡ false → ⊥
            true_not_false a b = cc
        from Greater e h = refl

    -- whether a number lies below the id, as a comparison of its text says
    pub below_read : (n : ℕ) (text : List ℕ) (o : Ordering) (b : Bool) → text ≡ id_at ids n
        → o ≡ slice_cmp nat_cmp text id → b ≡ is_lt o → is_below ids id n ≡ b
    below_read n text o b is cmp lt = sym (lt ∙ ap is_lt (cmp ∙ ap (λ t. slice_cmp nat_cmp t id) is))

    pub below_parted : (numbers : List ℕ) → AllPairs Rises numbers
        → IsPartitionedBy (is_below ids id) numbers
    below_parted numbers rising i j d i≤j l h = from (cases_lt i j)
      where
        from : (i < j) ⊎ (j ≤ i) → is_below ids id (get_or numbers i d) ≡ true
        from (inl low) =
            ap is_lt
            (lower_first (get_or numbers i d) (get_or numbers j d) (rising i j d low l)
            (up_to_from_below (id_cmp ids id (get_or numbers j d)) h))
        from (inr high) =
            let same : i ≡ j = omega arith in
            rw same h

    -- the number that a search finds at its place
    module _ (numbers : List ℕ) (at : ℕ) (rising : AllPairs Rises numbers)
        (before : take at numbers ≡ filter (is_below ids id) numbers)
        (behind : drop at numbers ≡ filter (λ n. not (is_below ids id n)) numbers) where
      from_place : number_in ids numbers id ≡ find (has_id ids id) (drop at numbers)
      from_place =
          ap (find (has_id ids id)) (sym (take-append-drop at numbers))
          ∙ find_behind (has_id ids id) (take at numbers) (drop at numbers)
          (subst (All (λ n. has_id ids id n ≡ false)) (sym before)
          (All-weaker (λ n. is_below ids id n ≡ true) (λ n. has_id ids id n ≡ false) not_below
          (filter (is_below ids id) numbers) (filter_passes (is_below ids id) numbers)))

      pub found_past : length numbers ≤ at → number_in ids numbers id ≡ None
      found_past l = from_place ∙ ap (find (has_id ids id)) (drop_all at numbers l)

      pub found_here : at < length numbers → (n : ℕ) → n ≡ get_or numbers at n
          → number_in ids numbers id ≡ (if has_id ids id n then Some n else None)
      found_here l n is = from_place ∙ (ap (find (has_id ids id)) split ∙ from (has_id ids id n) refl)
        where
          rest : List ℕ
          rest = drop (at + 1) numbers

          split : drop at numbers ≡ n ∷ rest
          split = drop_more numbers at n l ∙ ap (λ m. m ∷ rest) (sym is)

          passes : All (λ m. not (is_below ids id m) ≡ true) (n ∷ rest)
          passes =
              subst (All (λ m. not (is_below ids id m) ≡ true)) (sym behind ∙ split)
              (filter_passes (λ m. not (is_below ids id m)) numbers)

          above : has_id ids id n ≡ false → is_gt (id_cmp ids id n) ≡ true
          above =
              above_else n
              (not_true (is_below ids id n)
              (All-head (λ m. not (is_below ids id m) ≡ true) n rest passes))

          later : AllPairs Rises (n ∷ rest)
          later =
              subst (AllPairs Rises) split
              (pairs_right Rises (take at numbers) (drop at numbers)
              (subst (AllPairs Rises) (sym (take-append-drop at numbers)) rising))

          from : (b : Bool) → has_id ids id n ≡ b
              → (if b then Some n else find (has_id ids id) rest) ≡ (if b then Some n else None)
          from true e = refl
          from false e =
              find_nothing (has_id ids id) rest
              (All-weaker (Rises n) (λ m. has_id ids id m ≡ false)
              (λ m r. (not_above m (greater_less (id_at ids n) (id_at ids m) id (above e) r)).0) rest
              (of_head Rises n rest later))

-- ---- an order with one more number

module _ {X : Type 0} (p : X → Bool) where
  pub none_pass : (xs : List X) → find p xs ≡ None → All (λ x. p x ≡ false) xs
  none_pass [] e = All-nil (λ x. p x ≡ false)
  none_pass (x ∷ xs) e = from (none_pass xs) (p x) refl e
    where
      from : (find p xs ≡ None → All (λ y. p y ≡ false) xs) → (b : Bool) → p x ≡ b
          → (if b then Some x else find p xs) ≡ None → All (λ y. p y ≡ false) (x ∷ xs)
      from rest true h q = absurd (cc)
      from rest false h q = All-cons (λ y. p y ≡ false) x xs h (rest q)

less_is : (ordering : Ordering) → is_lt ordering ≡ true → ordering ≡ Less
less_is Less h = refl
less_is Equal h = absurd (cc)
less_is Greater h = absurd (cc)

module _ (ids : List (List ℕ)) (numbers : List ℕ) (id : List ℕ) (n : ℕ) (order : IsOrder ids numbers)
    (next : n ≡ length ids) (new : number_in ids numbers id ≡ None) where
  same_at : (m : ℕ) → m < length ids → id_at (ids ++ id ∷ []) m ≡ id_at ids m
  same_at m l = get_or_append_left ids (id ∷ []) [] m l

  own : id_at (ids ++ id ∷ []) n ≡ id
  own = get_or_at ids id [] [] n (sym next)

  rises : (a b : ℕ) → a < length ids → b < length ids → Rises ids a b → Rises (ids ++ id ∷ []) a b
  rises a b la lb r =
      ap (λ t. slice_cmp nat_cmp t (id_at (ids ++ id ∷ []) b)) (same_at a la)
      ∙ (ap (slice_cmp nat_cmp (id_at ids a)) (same_at b lb) ∙ r)

  all_rise : AllPairs (Rises (ids ++ id ∷ [])) numbers
  all_rise i j d l m =
      rises (get_or numbers i d) (get_or numbers j d) (order.known i d (omega arith)) (order.known j d m)
      (order.rising i j d l m)

  abbrev Low : ℕ → Type 0
  Low a = (a < length ids) × (id_cmp ids id a ≡ Less)

  abbrev High : ℕ → Type 0
  High b = (b < length ids) × (slice_cmp nat_cmp id (id_at ids b) ≡ Less)

  low : All Low (filter (is_below ids id) numbers)
  low k d l = (
    All-filter (is_below ids id) (λ m. m < length ids) numbers order.known k d l,
    less_is (id_cmp ids id (get_or (filter (is_below ids id) numbers) k d))
        (filter_passes (is_below ids id) numbers k d l),
  )

  high : All High (filter (λ m. not (is_below ids id m)) numbers)
  high k d l =
      let q : ℕ → Bool = λ m. not (is_below ids id m) in
      let b = get_or (filter q numbers) k d in
      let lies = not_true (is_below ids id b) (filter_passes q numbers k d l) in
      let apart =
      All-filter q (λ m. has_id ids id m ≡ false) numbers (none_pass (has_id ids id) numbers new) k d l in (
        All-filter q (λ m. m < length ids) numbers order.known k d l,
        nat_list_cmp_total.antisymm id (id_at ids b)
            ∙ ap ordering_reverse (gt_is (id_cmp ids id b) (above_else ids id b lies apart)),
      )

  before : (a : ℕ) → Low a → Rises (ids ++ id ∷ []) a n
  before a (l, e) =
      ap (λ t. slice_cmp nat_cmp t (id_at (ids ++ id ∷ []) n)) (same_at a l)
      ∙ (ap (slice_cmp nat_cmp (id_at ids a)) own ∙ e)

  behind : (b : ℕ) → High b → Rises (ids ++ id ∷ []) n b
  behind b (l, e) =
      ap (λ t. slice_cmp nat_cmp t (id_at (ids ++ id ∷ []) b)) own
      ∙ (ap (slice_cmp nat_cmp id) (same_at b l) ∙ e)

  pub order_more : IsOrder (ids ++ id ∷ []) (with_number ids numbers id n)
  order_more =
      let lows = filter (is_below ids id) numbers in
      let highs = filter (λ m. not (is_below ids id m)) numbers in
      let size : length (ids ++ id ∷ []) ≡ length ids + 1 = length_push ids id in
      record {
        known =
            All-append (λ m. m < length (ids ++ id ∷ [])) lows (n ∷ highs)
            (All-weaker Low (λ m. m < length (ids ++ id ∷ [])) (λ m (l, e). omega arith) lows low)
            (All-cons (λ m. m < length (ids ++ id ∷ [])) n highs (omega arith)
            (All-weaker High (λ m. m < length (ids ++ id ∷ [])) (λ m (l, e). omega arith) highs high));
        rising =
            pairs_join (Rises (ids ++ id ∷ [])) lows (n ∷ highs)
            (AllPairs-filter (Rises (ids ++ id ∷ [])) (is_below ids id) numbers all_rise)
            (AllPairs-cons (Rises (ids ++ id ∷ [])) n highs
            (All-weaker High (Rises (ids ++ id ∷ []) n) behind highs high)
            (AllPairs-filter (Rises (ids ++ id ∷ [])) (λ m. not (is_below ids id m)) numbers all_rise))
            across;
      }
    where
      across : (a y : ℕ) → Contains (filter (is_below ids id) numbers) a
          → Contains (n ∷ filter (λ m. not (is_below ids id m)) numbers) y → Rises (ids ++ id ∷ []) a y
      across a y here (zero, l, e) =
          subst (Rises (ids ++ id ∷ []) a) e
          (before a (All-contains Low (filter (is_below ids id) numbers) a low here))
      across a y here (suc k, l, e) =
          let la = All-contains Low (filter (is_below ids id) numbers) a low here in
          let hy =
          All-contains High (filter (λ m. not (is_below ids id m)) numbers) y high (k, omega arith, e) in
          rises a y la.0 hy.0 (nat_list_cmp_total.trans (id_at ids a) id (id_at ids y) la.1 hy.1)

-- ---- the number of an id, with one more number

module _ {X : Type 0} (p : X → Bool) where
  -- where the elements that pass stand before the others, those and then the others are the list
  pub parts_whole : (xs : List X) → IsPartitionedBy p xs → filter p xs ++ filter (λ x. not (p x)) xs ≡ xs
  parts_whole [] before = refl
  parts_whole (x ∷ xs) before =
      from (parts_whole xs (λ i j d i≤j l h. before (suc i) (suc j) d (omega arith) (omega arith) h))
      (p x) refl
    where
      from : filter p xs ++ filter (λ y. not (p y)) xs ≡ xs → (b : Bool) → p x ≡ b
          → filter p (x ∷ xs) ++ filter (λ y. not (p y)) (x ∷ xs) ≡ x ∷ xs
      from rest true h = rw h (ap (λ l. x ∷ l) rest)
      from rest false h =
          let none : All (λ y. p y ≡ false) (x ∷ xs) =
          λ k d l. fails (p (get_or (x ∷ xs) k d)) (λ t. before 0 k d (omega arith) l t) in
          ap (λ l. l ++ filter (λ y. not (p y)) (x ∷ xs)) (filter_drops p (x ∷ xs) none)
          ∙ filter_keeps (λ y. not (p y)) (x ∷ xs) (λ k d l. ap not (none k d l))
        where
          fails : (b : Bool) → (b ≡ true → p x ≡ true) → b ≡ false
          fails true f = let t = f refl in absurd (cc)
          fails false f = refl

-- tests that agree on each element of a list find the same element
pub find_agree : {X : Type 0} (p q : X → Bool) (xs : List X) → All (λ x. p x ≡ q x) xs → find p xs ≡ find q xs
find_agree p q [] all = refl
find_agree p q (x ∷ xs) all =
    ap (λ b. if b then Some x else find p xs) (All-head (λ y. p y ≡ q y) x xs all)
    ∙ ap (λ o. if q x then Some x else o) (find_agree p q xs (All-tail (λ y. p y ≡ q y) x xs all))

module _ (ids : List (List ℕ)) (numbers : List ℕ) (id : List ℕ) (n : ℕ) (order : IsOrder ids numbers)
    (next : n ≡ length ids) (new : number_in ids numbers id ≡ None) where
  -- the new number is found by its id, and the others are found as before
  pub number_more : (q : List ℕ)
      → number_in (ids ++ id ∷ []) (with_number ids numbers id n) q
      ≡ update bytes_eq (number_in ids numbers) id (Some n) q
  number_more q =
      from (same_text id q)
    where
      lows : List ℕ
      lows = filter (is_below ids id) numbers

      highs : List ℕ
      highs = filter (λ m. not (is_below ids id m)) numbers

      agrees : (m : ℕ) → m < length ids → has_id (ids ++ id ∷ []) q m ≡ has_id ids q m
      agrees m l = ap (λ t. bytes_eq t q) (get_or_append_left ids (id ∷ []) [] m l)

      as_before : find (has_id (ids ++ id ∷ []) q) (lows ++ highs) ≡ number_in ids numbers q
      as_before =
          ap (find (has_id (ids ++ id ∷ []) q))
          (parts_whole (is_below ids id) numbers (below_parted ids id numbers order.rising))
          ∙ find_agree (has_id (ids ++ id ∷ []) q) (has_id ids q) numbers
          (λ k d l. agrees (get_or numbers k d) (order.known k d l))

      own_id : id_at (ids ++ id ∷ []) n ≡ id
      own_id = get_or_at ids id [] [] n (sym next)

      none_low : id ≡ q → All (λ m. has_id (ids ++ id ∷ []) q m ≡ false) lows
      none_low e k d l =
          let m = get_or lows k d in
          let known : m < length ids =
          All-filter (is_below ids id) (λ z. z < length ids) numbers order.known k d l in
          agrees m known
          ∙ (ap (λ t. bytes_eq (id_at ids m) t) (sym e)
          ∙ not_below ids id m (filter_passes (is_below ids id) numbers k d l))

      skip : id ≢ q → (ls hs : List ℕ)
          → find (has_id (ids ++ id ∷ []) q) (ls ++ n ∷ hs) ≡ find (has_id (ids ++ id ∷ []) q) (ls ++ hs)
      skip apart [] hs =
          ap (λ b. if b then Some n else find (has_id (ids ++ id ∷ []) q) hs)
          (ap (λ t. bytes_eq t q) own_id ∙ text_apart id q apart)
      skip apart (x ∷ ls) hs = ap (λ o. if has_id (ids ++ id ∷ []) q x then Some x else o) (skip apart ls hs)

      from : (id ≡ q) ⊎ (id ≢ q)
          → number_in (ids ++ id ∷ []) (with_number ids numbers id n) q
          ≡ update bytes_eq (number_in ids numbers) id (Some n) q
      from (inl e) =
          find_behind (has_id (ids ++ id ∷ []) q) lows (n ∷ highs) (none_low e)
          ∙ (ap (λ b. if b then Some n else find (has_id (ids ++ id ∷ []) q) highs)
          (ap (λ t. bytes_eq t q) own_id ∙ text_same id q e)
          ∙ sym (ap (λ b. if b then Some n else number_in ids numbers q) (text_same id q e)))
      from (inr apart) =
          skip apart lows highs
          ∙ (as_before
          ∙ sym (ap (λ b. if b then Some n else number_in ids numbers q) (text_apart id q apart)))
