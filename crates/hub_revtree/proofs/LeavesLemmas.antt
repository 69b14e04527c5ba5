-- The order of leaves: there is one sorted list of them.
use Rattle.std.proofs.Common.{◌≡◌, ℕ, suc, ◌+◌, ◌<◌, ◌≤◌, List, [], ◌∷◌, length, get_or, reverse, Bool}
use Rattle.std.proofs.Common.{true, false, cond, inl, inr, sym, ◌∙◌, ap, ap₂, refl, Ordering, arith}
use Rattle.std.specs.List.{All, sum_by}
use Rattle.std.specs.List.Sorted.{IsPermutation, IsSortedBy}
use Rattle.std.specs.Cmp.{IsTotalOrder, IsStrictWeakOrder}
use Rattle.std.specs.Ordering.{is_gt, is_lt, ordering_reverse}
use Rattle.std.specs.declared.cmp.Ordering.TheVariants.{Less, Equal, Greater}
use Rattle.std.proofs.lemmas.Bool.{cases_Bool}
use Rattle.std.proofs.lemmas.Cmp.{back_total, on_total, tied_itself, upto}
use Rattle.std.proofs.lemmas.List.Elements.{All-tail}
use Rattle.std.proofs.lemmas.List.Sorted.{IsPermutation-reverse, sum_by-IsPermutation, sorted_far, ranks_by}
use Rattle.std.proofs.lemmas.List.Sums.{sum_by-cons}
use Rattle.hub_model.specs.Revision.{Revision}
use Rattle.hub_model.specs.Leaves.{Leaf, best_first, comes_before, leaf_cmp, leaves_with}
use Rattle.hub_model.proofs.Order.{leaf_equal, order_total}
use Rattle.hub_revtree.specs.declared.leaf.Winner.{Winner}
use Rattle.hub_revtree.specs.Winner.{winners_of}

-- the order of leaves, the best first
abbrev pub rank : Winner → Winner → Ordering
rank winner other = leaf_cmp other.deleted other.rev winner.deleted winner.rev

abbrev as_leaf : Winner → Leaf
as_leaf winner =
    record { rev = winner.rev; edit = record { id = []; path = []; deleted = winner.deleted; body = [] } }

abbrev one : Leaf → Winner
one leaf = record { rev = leaf.rev; deleted = leaf.edit.deleted }

rank_total : IsTotalOrder rank
rank_total = back_total (on_total as_leaf order_total)

marks_equal : (d : Bool) (revision : Revision) (e : Bool) (other : Revision)
    → leaf_cmp d revision e other ≡ Equal → d ≡ e
marks_equal true revision true other h = refl
marks_equal true revision false other h = absurd (cc)
marks_equal false revision true other h = absurd (cc)
marks_equal false revision false other h = refl

exact : (winner other : Winner) → rank winner other ≡ Equal → winner ≡ other
exact winner other h =
    ap₂ (λ (revision : Revision) (d : Bool). record { rev = revision; deleted = d })
    (sym (leaf_equal other.deleted other.rev winner.deleted winner.rev h))
    (sym (marks_equal other.deleted other.rev winner.deleted winner.rev h))

-- no leaf of the list is above this leaf
abbrev UpTo : Winner → List Winner → Type 0
UpTo other [] = Unit {0}
UpTo other (winner ∷ winners) = (is_gt (rank other winner) ≡ false) × UpTo other winners

-- no leaf of the list is above an earlier one
abbrev Rises : List Winner → Type 0
Rises [] = Unit {0}
Rises (winner ∷ winners) = UpTo winner winners × Rises winners

-- the order of two leaves the other way round
turned : (winner other : Winner) → rank winner other ≡ ordering_reverse (rank other winner)
turned = rank_total.antisymm

not_gt : (other ordering : Ordering) → ordering ≡ ordering_reverse other → is_gt other ≡ true
    → is_gt ordering ≡ false
not_gt Less ordering e t = absurd (cc)
not_gt Equal ordering e t = absurd (cc)
not_gt Greater ordering e t = rw e refl

not_lt : (other ordering : Ordering) → ordering ≡ ordering_reverse other → is_lt other ≡ false
    → is_gt ordering ≡ false
not_lt Less ordering e t = absurd (cc)
not_lt Equal ordering e t = rw e refl
not_lt Greater ordering e t = rw e refl

tied : (other ordering : Ordering) → ordering ≡ ordering_reverse other → is_gt other ≡ false
    → is_gt ordering ≡ false → other ≡ Equal
tied Less ordering e t u = absurd (clash (sym (ap is_gt e) ∙ u))
  where
    clash : true ≡ false → ⊥
    clash e = cc
tied Equal ordering e t u = refl
tied Greater ordering e t u = absurd (cc)

-- ---- a leaf put in its place keeps the order and the leaves

up_to_more : (x winner : Winner) (others : List Winner) → is_gt (rank x winner) ≡ false → UpTo winner others
    → UpTo x others
up_to_more x winner [] l u = tt
up_to_more x winner (other ∷ winners) l u =
    (upto rank_total x winner other l u.0, up_to_more x winner winners l u.1)

put_up_to : (winner : Winner) (other : Leaf) (leaves : List Leaf) → is_gt (rank winner (one other)) ≡ false
    → UpTo winner (winners_of leaves) → UpTo winner (winners_of (leaves_with other leaves))
put_up_to winner other [] low u = (low, tt)
put_up_to winner other (leaf ∷ leaves) low u = elim (cases_Bool (comes_before other leaf)) [
  | inl t ↦ rw t (low, u)
  | inr f ↦ rw f (u.0, put_up_to winner other leaves low u.1)
]

put_rises : (other : Leaf) (leaves : List Leaf) → Rises (winners_of leaves)
    → Rises (winners_of (leaves_with other leaves))
put_rises other [] r = (tt, tt)
put_rises other (leaf ∷ leaves) r = elim (cases_Bool (comes_before other leaf)) [
  | inl t ↦
      let low : is_gt (rank (one other) (one leaf)) ≡ false =
      not_gt (rank (one leaf) (one other)) (rank (one other) (one leaf)) (turned (one other) (one leaf)) t in
      rw t ((low, up_to_more (one other) (one leaf) (winners_of leaves) low r.0), r)
  | inr f ↦ rw f (put_up_to (one leaf) other leaves f r.0, put_rises other leaves r.1)
]

best_rises : (leaves : List Leaf) → Rises (winners_of (best_first leaves))
best_rises [] = tt
best_rises (leaf ∷ leaves) = put_rises leaf (best_first leaves) (best_rises leaves)

put_sum : (f : Winner → ℕ) (other : Leaf) (leaves : List Leaf)
    → sum_by f (winners_of (leaves_with other leaves)) ≡ f (one other) + sum_by f (winners_of leaves)
put_sum f other [] = sum_by-cons f (one other) []
put_sum f other (leaf ∷ leaves) = elim (cases_Bool (comes_before other leaf)) [
  | inl t ↦ rw t (sum_by-cons f (one other) (winners_of (leaf ∷ leaves)))
  | inr g ↦
      rw g
      (omega (
        arith,
        sum_by-cons f (one leaf) (winners_of (leaves_with other leaves)),
        put_sum f other leaves,
        sum_by-cons f (one leaf) (winners_of leaves),
      ))
]

best_sum : (f : Winner → ℕ) (leaves : List Leaf)
    → sum_by f (winners_of (best_first leaves)) ≡ sum_by f (winners_of leaves)
best_sum f [] = refl
best_sum f (leaf ∷ leaves) =
    omega (
      arith,
      put_sum f leaf (best_first leaves),
      best_sum f leaves,
      sum_by-cons f (one leaf) (winners_of leaves),
    )

-- ---- two rising lists of the same leaves are one

-- 1 for a leaf above winner, else 0
abbrev below : Winner → Winner → ℕ
below winner other = cond (is_gt (rank winner other)) 1 0

none_below : (other : Winner) (winners : List Winner) → UpTo other winners → sum_by (below other) winners ≡ 0
none_below other [] u = refl
none_below other (winner ∷ winners) u =
    let here : below other winner ≡ 0 = rw u.0 refl in
    omega (arith, sum_by-cons (below other) winner winners, here, none_below other winners u.1)

first_up_to : (winner : Winner) (winners : List Winner) (other : Winner) (others : List Winner)
    → UpTo winner winners
    → sum_by (below winner) (winner ∷ winners) ≡ sum_by (below winner) (other ∷ others)
    → is_gt (rank winner other) ≡ false
first_up_to winner winners other others u same =
    let here : below winner winner ≡ 0 = rw (tied_itself rank_total winner) refl in
    let there : below winner other ≡ 0 =
    omega (
      arith,
      here,
      sum_by-cons (below winner) winner winners,
      none_below winner winners u,
      same,
      sum_by-cons (below winner) other others,
    ) in
    elim (cases_Bool (is_gt (rank winner other))) [
      | inl t ↦ absurd (omega (arith, rw t at there))
      | inr f ↦ f
    ]

one_rises : (others winners : List Winner) → Rises others → Rises winners
    → ((f : Winner → ℕ) → sum_by f others ≡ sum_by f winners) → others ≡ winners
one_rises [] [] r s same = refl
one_rises [] (winner ∷ winners) r s same =
    absurd (omega (arith, same (λ _. 1), sum_by-cons (λ _. 1) winner winners))
one_rises (other ∷ others) [] r s same =
    absurd (omega (arith, same (λ _. 1), sum_by-cons (λ _. 1) other others))
one_rises (other ∷ others) (winner ∷ winners) r s same =
    let low = first_up_to other others winner winners r.0 (same (below other)) in
    let high = first_up_to winner winners other others s.0 (sym (same (below winner))) in
    let first : other ≡ winner = exact other winner
    (tied (rank other winner) (rank winner other) (turned winner other) low high) in
    let rest : others ≡ winners =
    one_rises others winners r.1 s.1
    (λ f. omega (arith, same f, sum_by-cons f other others, sum_by-cons f winner winners, ap f first)) in
    ap₂ (λ (z : Winner) (zs : List Winner). z ∷ zs) first rest

-- ---- sorted leaves

sorted_up_to : (other : Winner) (winners : List Winner)
    → All (λ winner. is_lt (rank winner other) ≡ false) winners → UpTo other winners
sorted_up_to other [] all = tt
sorted_up_to other (winner ∷ winners) all = (
  not_lt (rank winner other) (rank other winner) (turned other winner) (all 0 winner (omega arith)),
  sorted_up_to other winners (All-tail (λ winner. is_lt (rank winner other) ≡ false) winner winners all),
)

sorted_rises : (winners : List Winner)
    → ((i j : ℕ) (other : Winner) → i ≤ j → j < length winners
    → is_lt (rank (get_or winners j other) (get_or winners i other)) ≡ false) → Rises winners
sorted_rises [] far = tt
sorted_rises (winner ∷ winners) far = (
  sorted_up_to winner winners (λ k other l. far 0 (suc k) other (omega arith) (omega arith)),
  sorted_rises winners (λ i j other l m. far (suc i) (suc j) other (omega arith) (omega arith)),
)

-- the test by which leaves are sorted
abbrev pub is_before : Winner → Winner → Bool
is_before winner other = is_lt (rank winner other)

pub is_order : IsStrictWeakOrder is_before
is_order = ranks_by rank_total (λ (winner : Winner). winner)

-- sorted leaves that were found from the newest on are the leaves, best first
pub sorted_is : (leaves : List Leaf) (winners others : List Winner) → winners ≡ reverse (winners_of leaves)
    → IsPermutation winners others → IsSortedBy is_before others → others ≡ winners_of (best_first leaves)
sorted_is leaves winners others is same sorted =
    one_rises others (winners_of (best_first leaves))
    (sorted_rises others (sorted_far is_before is_order others sorted)) (best_rises leaves)
    (λ f. sum_by-IsPermutation f winners others same
    ∙ (ap (sum_by f) is
    ∙ (sum_by-IsPermutation f (winners_of leaves) (reverse (winners_of leaves))
    (IsPermutation-reverse (winners_of leaves))
    ∙ sym (best_sum f leaves))))
