-- Lemmas on the rows of pages.
use Rattle.std.proofs.Common.{◌≡◌, ◌≢◌, ℕ, suc, ◌+◌, ◌-◌, ◌*◌, ◌/◌, ◌%◌, ◌^◌, ◌<◌, ◌≤◌, List, [], ◌∷◌, ◌++◌}
use Rattle.std.proofs.Common.{length, get_or, set, take, drop, Bool, true, false, not, ◌||◌, cond}
use Rattle.std.proofs.Common.{nat_eq, nat_lt, Option, Some, None, find, filter, map, reverse}
use Rattle.std.proofs.Common.{◌⊎◌, count_by, is_some, sym, ◌∙◌, ap, refl, subst, inl, inr, arith}
use Rattle.std.specs.Prelude.{IsSomeAnd, slice_get}
use Rattle.std.specs.List.{All, AllPairs, AllWithin, list_any, remove}
use Rattle.std.specs.List.Sorted.{IsPartitionPoint, IsPartitionedBy}
use Rattle.std.specs.Option.{option_or}
use Rattle.std.specs.Map.{remove_entry}
use Rattle.std.specs.Set.{unique_keys, is_member}
use Rattle.std.proofs.lemmas.Bool.{cases_Bool, cases_order, both_ways, eqb-true, false_from_ne_true}
use Rattle.std.proofs.lemmas.Bool.{le-ltb, lt-ltb, ltb-true, ltb-false, eq-eqb, ne_eqb}
use Rattle.std.proofs.lemmas.List.{append-nil, append_assoc, reverse-append, length-set}
use Rattle.std.proofs.lemmas.List.{length-append, length-map, map-append, take-append-drop, take-set}
use Rattle.std.proofs.lemmas.List.{drop-set-lt, drop_more, drop_all, set_split, get_or_default}
use Rattle.std.proofs.lemmas.List.{get_or-take, get_or-drop, length-take-le, length-drop}
use Rattle.std.proofs.lemmas.List.Elements.{All-tail, All-cons, All-nil, All-append}
use Rattle.std.proofs.lemmas.List.Elements.{All-push, All-map, All-filter, All-set}
use Rattle.std.proofs.lemmas.List.Elements.{All-get_or, All-take, All-drop, filter-append}
use Rattle.std.proofs.lemmas.List.Kept.{AllPairs-filter}
use Rattle.std.proofs.lemmas.List.Folds.{find-append}
use Rattle.std.proofs.lemmas.List.Sums.{length-filter, sum_by-append}
use Rattle.std.proofs.lemmas.List.Concat.{flat_map-append}
use Rattle.std.proofs.lemmas.Option.{none-some}
use Rattle.hub_index.specs.Pages.{slot_rows, page_rows, rows_of, IsPage, ArePages, page_of, page_count}
use Rattle.hub_index.specs.Rows.{IsIndex}
use Rattle.hub_index.proofs.IdPageLemmas.{some_at}
use Rattle.hub_index.proofs.IndexLemmas.{filter_keeps, find_first, find_no_first}
use Rattle.hub_index.proofs.IndexLemmas.{filter_reverse, of_head, of_tail}
use Rattle.hub_index.proofs.SlotLemmas.{rows_within, rows_filled, rows_cleared, length_rows, at_seq, not_at}
use Rattle.hub_index.proofs.SlotLemmas.{is_at_same, remove_none, remove_left, remove_right, All_removed}

-- a page, as these lemmas name it: its number and its slots
abbrev pub Numbered : Type 0
Numbered = ℕ × List (Option ℕ)

-- the sequences of a page's rows
pub page_within : (page : Numbered) → length page.1 ≡ 256
    → All (λ (row : ℕ × ℕ). (256 * page.0 < row.0) × (row.0 ≤ 256 * page.0 + 256)) (page_rows page)
page_within page size k d l =
    let w = rows_within (256 * page.0 + 1) page.1 k d l in (omega (arith, w.0), omega (arith, w.1, size))

-- a page that an index keeps has a first row
pub page_has : (page : Numbered) → IsPage page
    → (row : ℕ × ℕ) × (rest : List (ℕ × ℕ)) × (page_rows page ≡ row ∷ rest)
page_has page is = from (page_rows page) refl
  where
    from : (rows : List (ℕ × ℕ)) → page_rows page ≡ rows
        → (row : ℕ × ℕ) × (rest : List (ℕ × ℕ)) × (page_rows page ≡ row ∷ rest)
    from [] e =
        absurd (omega (
          arith,
          is.live,
          length_rows (256 * page.0 + 1) page.1,
          ap (λ (rows : List (ℕ × ℕ)). length rows) e,
        ))
    from (row ∷ rest) e = (row, rest, e)

-- a statement on all rows of a page holds of one of them
pub page_row : (P : ℕ × ℕ → Type 0) (page : Numbered) → IsPage page → All P (page_rows page)
    → (row : ℕ × ℕ) × P row × (256 * page.0 < row.0) × (row.0 ≤ 256 * page.0 + 256)
page_row P page is all =
    let h = page_has page is in
    let w =
    subst (All (λ (row : ℕ × ℕ). (256 * page.0 < row.0) × (row.0 ≤ 256 * page.0 + 256))) h.2
    (page_within page is.size) in
    (h.0, subst (All P) h.2 all 0 h.0 (omega arith), (w 0 h.0 (omega arith)).0, (w 0 h.0 (omega arith)).1)

-- a statement on all elements of a list holds of the elements of a front, and of the elements of the rest
pub Each_front : {X : Type 0} (P : X → Type 0) (xs ys : List X) → All P (xs ++ ys) → All P xs
Each_front P [] ys all = All-nil P
Each_front P (x ∷ xs) ys all =
    All-cons P x xs (all 0 x (omega arith)) (Each_front P xs ys (All-tail P x (xs ++ ys) all))

pub Each_back : {X : Type 0} (P : X → Type 0) (xs ys : List X) → All P (xs ++ ys) → All P ys
Each_back P [] ys all = all
Each_back P (x ∷ xs) ys all = Each_back P xs ys (All-tail P x (xs ++ ys) all)

module _ (P : ℕ × ℕ → Type 0) where
  pub All_front : (xs ys : List (ℕ × ℕ)) → All P (xs ++ ys) → All P xs
  All_front = Each_front P

  pub All_back : (xs ys : List (ℕ × ℕ)) → All P (xs ++ ys) → All P ys
  All_back = Each_back P

  -- a statement on the rows of each page holds of all rows
  pub All_rows : (pages : List Numbered) → All (λ page. All P (page_rows page)) pages → All P (rows_of pages)
  All_rows [] all = All-nil P
  All_rows (page ∷ pages) all =
      All-append P (page_rows page) (rows_of pages) (all 0 page (omega arith))
      (All_rows pages (All-tail (λ page. All P (page_rows page)) page pages all))

pub at_is : (k n : ℕ) → at_seq k n ≡ true → n ≡ k
at_is k n t = elim (cases_order n k) [
  | inl q ↦ q
  | inr (inl l) ↦ absurd (both_ways (at_seq k n) (not_at k n (inr l)) t)
  | inr (inr g) ↦ absurd (both_ways (at_seq k n) (not_at k n (inl g)) t)
]

-- slots without a document have no row
pub no_slot : (n : ℕ) (s : List (Option ℕ)) → All (λ (o : Option ℕ). o ≡ None) s → slot_rows n s ≡ []
no_slot n [] all = refl
no_slot n (None ∷ s) all = no_slot (n + 1) s (All-tail (λ (o : Option ℕ). o ≡ None) None s all)
no_slot n (Some d ∷ s) all = absurd (none-some d (sym (all 0 (Some d) (omega arith))))

pub none_live : (n : ℕ) (s : List (Option ℕ)) → count_by is_some s ≡ 0 → slot_rows n s ≡ []
none_live n s e = from (slot_rows n s) refl
  where
    from : (rows : List (ℕ × ℕ)) → slot_rows n s ≡ rows → slot_rows n s ≡ []
    from [] q = q
    from (r ∷ rows) q = absurd (omega (arith, e, length_rows n s, ap (λ (l : List (ℕ × ℕ)). length l) q))

next_place : (n : ℕ) → suc n ≡ n + 1
next_place n = omega arith

-- pages in the order of their numbers
abbrev pub Rising : List Numbered → Type 0
Rising numbered = AllPairs (λ (other b : Numbered). other.0 < b.0) numbered

-- the rows of the pages before a place, of the page there, and of the pages behind it
module _ (numbered : List Numbered) (at : ℕ) (other : Numbered) (l : at < length numbered)
    (here : other ≡ get_or numbered at other) where
  pub cut_rows : rows_of numbered ≡ rows_of (take at numbered)
      ++ (page_rows other ++ rows_of (drop (at + 1) numbered))
  cut_rows =
      ap rows_of
      (sym (take-append-drop at numbered)
      ∙ ap (λ ys. take at numbered ++ ys)
      (drop_more numbered at other l ∙ ap (λ y. y ∷ drop (at + 1) numbered) (sym here)))
      ∙ flat_map-append page_rows (take at numbered) (other ∷ drop (at + 1) numbered)

  pub set_rows : (y : Numbered)
      → rows_of (set numbered at y) ≡ rows_of (take at numbered)
      ++ (page_rows y ++ rows_of (drop (at + 1) numbered))
  set_rows y =
      ap rows_of (set_split numbered at y l
      ∙ ap (λ n. take at numbered ++ y ∷ drop n numbered) (next_place at))
      ∙ flat_map-append page_rows (take at numbered) (y ∷ drop (at + 1) numbered)

  pub is_page : All IsPage numbered → IsPage other
  is_page pages = subst IsPage (sym here) (All-get_or IsPage numbered at other l pages)

  number : (d : Numbered) → (get_or numbered at d).0 ≡ other.0
  number d = ap (λ (e : Numbered). e.0) (get_or_default numbered at d other l ∙ sym here)

  lower : Rising numbered → All (λ (e : Numbered). e.0 < other.0) (take at numbered)
  lower rising k d m =
      let below : k < at = omega (arith, length-take-le at numbered (omega arith), m) in
      omega (
        arith,
        rising k at d below l,
        number d,
        ap (λ (e : Numbered). e.0) (get_or-take at numbered k d below),
      )

  higher : Rising numbered → All (λ (e : Numbered). other.0 < e.0) (drop (at + 1) numbered)
  higher rising k d m =
      let fits : at + 1 + k < length numbered = omega (arith, length-drop (at + 1) numbered, m) in
      omega (
        arith,
        rising at (at + 1 + k) d (omega arith) fits,
        number d,
        ap (λ (e : Numbered). e.0) (get_or-drop (at + 1) numbered k d),
      )

-- a page that was read twice
pub same_number : (numbered : List Numbered) (at k : ℕ) (x y : Numbered) → at < length numbered
    → x ≡ get_or numbered at x → y ≡ get_or numbered at y → y.0 ≡ k → x.0 ≡ k
same_number numbered at k x y l here there q =
    ap (λ (other : Numbered). other.0) (here ∙ (get_or_default numbered at x y l ∙ sym there)) ∙ q

-- a page that is removed, whatever was written to it before
pub remove_set : (numbered : List Numbered) (at : ℕ) (other : Numbered)
    → remove (set numbered at other) at ≡ remove numbered at
remove_set numbered at other =
    ap (λ ys. ys ++ drop (suc at) (set numbered at other)) (take-set numbered at other)
    ∙ ap (λ ys. take at numbered ++ ys) (drop-set-lt (suc at) numbered at other (omega arith))

-- the pages that are left after a removal
left_of : (numbered : List Numbered) (at : ℕ) → remove numbered at ≡ take at numbered
    ++ drop (at + 1) numbered
left_of numbered at = ap (λ n. take at numbered ++ drop n numbered) (next_place at)

pub dropped_is : (numbered : List Numbered) (at : ℕ) → All IsPage numbered → All IsPage (remove numbered at)
dropped_is numbered at pages =
    subst (All IsPage) (sym (left_of numbered at))
    (All-append IsPage (take at numbered) (drop (at + 1) numbered) (All-take IsPage at numbered pages)
    (All-drop IsPage (at + 1) numbered pages))

-- a page of this number parts the pages
pub place_is : (numbered : List Numbered) (k at : ℕ) → Rising numbered
    → IsSomeAnd (slice_get numbered at) (λ (other : Numbered). other.0 ≡ k)
    → (at < length numbered) × IsPartitionPoint (λ (other : Numbered). other.0 < k)
    (λ (other : Numbered). k ≤ other.0) numbered at
place_is numbered k at rising there = (
  is.0,
  (
    (λ z d from below. omega (arith, rising z at d below is.0, same d)),
    λ z d from below. upper z d from below,
  ),
)
  where
    is : (at < length numbered) × ((other : Numbered) → other ≡ get_or numbered at other → other.0 ≡ k)
    is = some_at (λ (other : Numbered). other.0 ≡ k) numbered at there

    same : (d : Numbered) → (get_or numbered at d).0 ≡ k
    same d = is.1 (get_or numbered at d) (get_or_default numbered at d (get_or numbered at d) is.0)

    upper : (z : ℕ) (d : Numbered) → at ≤ z → z < length numbered → k ≤ (get_or numbered z d).0
    upper z d from below = elim (cases_order at z) [
      | inl q ↦ omega (arith, same d, ap (λ n. (get_or numbered n d).0) q)
      | inr (inl less) ↦ omega (arith, rising at z d less below, same d)
      | inr (inr more) ↦ absurd (omega (arith, from, more))
    ]

-- the pages are parted by a number, as a search asks, and the answer of the search
pub numbers_parted : (numbered : List Numbered) (k : ℕ) → Rising numbered
    → IsPartitionedBy (λ (other : Numbered). nat_lt other.0 k) numbered
numbers_parted numbered k rising i j d from below passes =
    let less : (get_or numbered j d).0 < k = ltb-true (get_or numbered j d).0 k passes in
    lt-ltb (get_or numbered i d).0 k (elim (cases_order i j) [
      | inl q ↦ omega (arith, less, ap (λ n. (get_or numbered n d).0) q)
      | inr (inl before) ↦ omega (arith, less, rising i j d before below)
      | inr (inr behind) ↦ absurd (omega (arith, from, behind))
    ])

pub place_searched : (numbered : List Numbered) (k at : ℕ)
    → IsPartitionPoint (λ (other : Numbered). nat_lt other.0 k ≡ true)
    (λ (other : Numbered). nat_lt other.0 k ≡ false) numbered at
    → IsPartitionPoint (λ (other : Numbered). other.0 < k) (λ (other : Numbered). k ≤ other.0) numbered at
place_searched numbered k at point = (
  (λ z d from below. ltb-true (get_or numbered z d).0 k (point.0 z d from below)),
  λ z d from below. ltb-false (get_or numbered z d).0 k (point.1 z d from below),
)

-- no page has this number, where the pages are parted by it and the page there has another
pub none_there : (numbered : List Numbered) (k at : ℕ) → Rising numbered
    → IsPartitionPoint (λ (other : Numbered). other.0 < k) (λ (other : Numbered). k ≤ other.0) numbered at
    → ((d : Numbered) → at < length numbered → (get_or numbered at d).0 ≢ k)
    → All (λ (other : Numbered). other.0 ≢ k) numbered
none_there numbered k at rising point apart z d l q =
    elim (cases_order z at) [
      | inl same ↦ apart d (omega (arith, same, l)) (omega (arith, q, ap (λ n. (get_or numbered n d).0) same))
      | inr (inl less) ↦ omega (arith, q, point.0 z d (omega arith) less)
      | inr (inr more) ↦
          omega (arith, q, rising at z d more l, point.1 at d (omega arith) (omega (arith, more, l)))
    ]

-- the number after the one before a sequence, in 64 bits: the number before 0 is the last one of 64 bits
abbrev pub behind : ℕ → ℕ
behind seq = (seq + (2 ^ 64 - 1)) % 2 ^ 64 + 1

-- a removal at that number is a removal at the sequence: no row lies at 0 or at 2^64
pub row_behind : (seq : ℕ) → seq < 2 ^ 64 → (numbered : List Numbered) → All IsPage numbered
    → remove_entry (at_seq (behind seq)) (rows_of numbered) ≡ remove_entry (at_seq seq) (rows_of numbered)
row_behind seq fits numbered pages =
    elim (cases_order seq 0) [
      | inl q ↦
          remove_none (at_seq (behind seq)) (rows_of numbered) (all (behind seq) (inr (omega (arith, q))))
          ∙ sym (remove_none (at_seq seq) (rows_of numbered) (all seq (inl q)))
      | inr (inl l) ↦ absurd (omega (arith, l))
      | inr (inr more) ↦ ap (λ s. remove_entry (at_seq s) (rows_of numbered)) (omega (arith, more, fits))
    ]
  where
    apart : (s : ℕ) → (s ≡ 0) ⊎ (s ≡ 2 ^ 64) → (page : Numbered) → IsPage page
        → All (λ (row : ℕ × ℕ). at_seq s row.0 ≡ false) (page_rows page)
    apart s (inl q) page good k d l =
        not_at s _ (inl (omega (arith, q, (page_within page good.size k d l).0)))
    apart s (inr q) page good k d l = not_at s _ (inr (omega (arith, q, good.fits k d l)))

    all : (s : ℕ) → (s ≡ 0) ⊎ (s ≡ 2 ^ 64) → All (λ (row : ℕ × ℕ). at_seq s row.0 ≡ false) (rows_of numbered)
    all s none =
        All_rows (λ (row : ℕ × ℕ). at_seq s row.0 ≡ false) numbered
        (λ z d l. apart s none (get_or numbered z d) (pages z d l))

-- a sequence, the page of its number, and its slot there
module _ (k i seq : ℕ) (in' : i < 256) (is : 256 * k + i + 1 ≡ seq) where
  missed : (numbered : Numbered) → IsPage numbered → numbered.0 ≢ k
      → All (λ (row : ℕ × ℕ). at_seq seq row.0 ≡ false) (page_rows numbered)
  missed numbered page apart z d l =
      let w = page_within numbered page.size z d l in
      not_at seq _ (elim (cases_order numbered.0 k) [
        | inl q ↦ absurd (apart q)
        | inr (inl below) ↦ inr (omega (arith, w.1, is, below))
        | inr (inr above) ↦ inl (omega (arith, w.0, is, above))
      ])

  missed_all : (numbered : List Numbered) → All IsPage numbered
      → All (λ (other : Numbered). other.0 ≢ k) numbered
      → All (λ (row : ℕ × ℕ). at_seq seq row.0 ≡ false) (rows_of numbered)
  missed_all numbered pages apart =
      All_rows (λ (row : ℕ × ℕ). at_seq seq row.0 ≡ false) numbered
      (λ z d l. missed (get_or numbered z d) (pages z d l) (apart z d l))

  -- a sequence without a page has no row
  pub pages_missed : (numbered : List Numbered) → All IsPage numbered
      → All (λ (other : Numbered). other.0 ≢ k) numbered
      → rows_of numbered ≡ remove_entry (at_seq seq) (rows_of numbered)
  pages_missed numbered pages apart =
      sym (remove_none (at_seq seq) (rows_of numbered) (missed_all numbered pages apart))

  -- a row above all others, in a slot of its page
  pub slots_filled : (d : ℕ) (slots : List (Option ℕ))
      → length slots ≡ 256 → All (λ (row : ℕ × ℕ). row.0 < seq) (page_rows (k, slots))
      → page_rows (k, set slots i (Some d)) ≡ page_rows (k, slots) ++ (seq, d) ∷ []
  slots_filled d slots size low =
      rows_filled (256 * k + 1) i d slots (omega (arith, size)) (λ z row l. omega (arith, low z row l, is))
      ∙ ap (λ m. page_rows (k, slots) ++ (m, d) ∷ []) (omega (arith, is))

  pub filled_is : (d : ℕ) (slots : List (Option ℕ)) → k < 2 ^ 56 → length slots ≡ 256 → seq < 2 ^ 64
      → All (λ (row : ℕ × ℕ). row.0 < seq) (page_rows (k, slots)) → IsPage (k, set slots i (Some d))
  filled_is d slots low size bound below = record {
    low = low;
    size = omega (arith, length-set slots i (Some d), size);
    live = omega (
      arith,
      length_rows (256 * k + 1) (set slots i (Some d)),
      ap (λ (l : List (ℕ × ℕ)). length l) (slots_filled d slots size below),
      length-append (page_rows (k, slots)) ((seq, d) ∷ []),
    );
    fits =
        subst (All (λ (row : ℕ × ℕ). row.0 < 2 ^ 64)) (sym (slots_filled d slots size below))
        (All-push (λ (row : ℕ × ℕ). row.0 < 2 ^ 64) (page_rows (k, slots)) (seq, d)
        (λ z row l. omega (arith, below z row l, bound)) bound);
  }

  pub cleared_is : (slots : List (Option ℕ)) → IsPage (k, slots) → 0 < count_by is_some (set slots i None)
      → IsPage (k, set slots i None)
  cleared_is slots page live = record {
    low = page.low;
    size = omega (arith, length-set slots i None, page.size);
    live = live;
    fits =
        subst (All (λ (row : ℕ × ℕ). row.0 < 2 ^ 64)) (sym (rows_cleared (256 * k + 1) i slots))
        (All_removed (λ (row : ℕ × ℕ). row.0 < 2 ^ 64) (at_seq (256 * k + 1 + i))
        (page_rows (k, slots)) page.fits);
  }

  -- where all rows lie below the sequence, no page has a higher number
  numbers_upto : (numbered : List Numbered) → All IsPage numbered
      → All (λ (row : ℕ × ℕ). row.0 < seq) (rows_of numbered)
      → All (λ (other : Numbered). other.0 ≤ k) numbered
  numbers_upto [] pages low = All-nil (λ (other : Numbered). other.0 ≤ k)
  numbers_upto (other ∷ numbered) pages low =
      let row =
      page_row (λ (row : ℕ × ℕ). row.0 < seq) other (pages 0 other (omega arith))
      (All_front (λ (row : ℕ × ℕ). row.0 < seq) (page_rows other) (rows_of numbered) low) in
      All-cons (λ (other : Numbered). other.0 ≤ k) other numbered (omega (arith, row.1, row.2, is))
      (numbers_upto numbered (All-tail IsPage other numbered pages)
      (All_back (λ (row : ℕ × ℕ). row.0 < seq) (page_rows other) (rows_of numbered) low))

  -- where the last page has another number too, all pages have lower numbers
  pub below_new : (numbered : List Numbered) (at : ℕ) (x : Numbered) → at + 1 ≡ length numbered
      → x ≡ get_or numbered at x
      → x.0 ≢ k → Rising numbered → All IsPage numbered
      → All (λ (row : ℕ × ℕ). row.0 < seq) (rows_of numbered)
      → All (λ (other : Numbered). other.0 < k) numbered
  below_new numbered at x last here apart rising pages low z d l =
      elim (cases_order z at) [
        | inl q ↦
            omega (
              arith,
              less,
              ap (λ n. (get_or numbered n d).0) q,
              number numbered at x (omega (arith, last)) here d,
            )
        | inr (inl before) ↦ omega (
          arith,
          less,
          rising z at d before (omega (arith, last)),
          number numbered at x (omega (arith, last)) here d,
        )
        | inr (inr behind) ↦ absurd (omega (arith, l, last, behind))
      ]
    where
      less : x.0 < k
      less = elim (cases_order x.0 k) [
        | inl q ↦ absurd (apart q)
        | inr (inl h) ↦ h
        | inr (inr h) ↦
            absurd (omega (
              arith,
              h,
              numbers_upto numbered pages low at x (omega (arith, last)),
              number numbered at x (omega (arith, last)) here x,
            ))
      ]

  -- a new page, behind all others
  module _ (d : ℕ) (empty : List (Option ℕ)) (size : length empty ≡ 256)
      (none : All (λ (o : Option ℕ). o ≡ None) empty) where
    none_low : All (λ (r : ℕ × ℕ). r.0 < seq) (page_rows (k, empty))
    none_low =
        subst (All (λ (r : ℕ × ℕ). r.0 < seq)) (sym (no_slot (256 * k + 1) empty none))
        (All-nil (λ (r : ℕ × ℕ). r.0 < seq))

    pub rows_added : (es : List Numbered)
        → rows_of (es ++ (k, set empty i (Some d)) ∷ []) ≡ rows_of es ++ (seq, d) ∷ []
    rows_added es =
        flat_map-append page_rows es ((k, set empty i (Some d)) ∷ [])
        ∙ ap (λ rows. rows_of es ++ rows)
        (append-nil (page_rows (k, set empty i (Some d)))
        ∙ (slots_filled d empty size none_low
        ∙ ap (λ rows. rows ++ (seq, d) ∷ []) (no_slot (256 * k + 1) empty none)))

    pub added_is : (es : List Numbered) → seq < 2 ^ 64 → All IsPage es
        → All IsPage (es ++ (k, set empty i (Some d)) ∷ [])
    added_is es bound pages =
        All-push IsPage es (k, set empty i (Some d)) pages
        (filled_is d empty (omega (arith, bound, is)) size bound none_low)

-- a sequence of the page at a place
module _ (numbered : List Numbered) (at : ℕ) (other : Numbered) (l : at < length numbered)
    (here : other ≡ get_or numbered at other)
    (pages : All IsPage numbered) (i seq : ℕ) (in' : i < 256) (is : 256 * other.0 + i + 1 ≡ seq) where
  -- a slot that is emptied loses its row
  pub pages_cleared : Rising numbered
      → rows_of (set numbered at (other.0, set other.1 i None)) ≡ remove_entry (at_seq seq) (rows_of numbered)
  pages_cleared rising =
      set_rows numbered at other l here (other.0, set other.1 i None)
      ∙ sym
      (ap (remove_entry (at_seq seq)) (cut_rows numbered at other l here)
      ∙ (remove_right (at_seq seq) (rows_of (take at numbered))
      (page_rows other ++ rows_of (drop (at + 1) numbered))
      (missed_all other.0 i seq in' is (take at numbered) (All-take IsPage at numbered pages)
      (λ z d m q. omega (arith, lower numbered at other l here rising z d m, q)))
      ∙ ap (λ rows. rows_of (take at numbered) ++ rows)
      (remove_left (at_seq seq) (page_rows other) (rows_of (drop (at + 1) numbered))
      (missed_all other.0 i seq in' is (drop (at + 1) numbered) (All-drop IsPage (at + 1) numbered pages)
      (λ z d m q. omega (arith, higher numbered at other l here rising z d m, q)))
      ∙ ap (λ rows. rows ++ rows_of (drop (at + 1) numbered)) (sym own))))
    where
      own : slot_rows (256 * other.0 + 1) (set other.1 i None) ≡ remove_entry (at_seq seq) (page_rows other)
      own =
          rows_cleared (256 * other.0 + 1) i other.1
          ∙ ap (λ m. remove_entry (at_seq m) (page_rows other)) (omega (arith, is))

  -- an empty page may be removed with no change of the rows
  pub rows_dropped : (w : List (Option ℕ)) → count_by is_some w ≡ 0
      → rows_of (remove numbered at) ≡ rows_of (set numbered at (other.0, w))
  rows_dropped w none =
      ap rows_of (left_of numbered at)
      ∙ (flat_map-append page_rows (take at numbered) (drop (at + 1) numbered)
      ∙ (ap (λ rows. rows_of (take at numbered) ++ (rows ++ rows_of (drop (at + 1) numbered)))
      (sym (none_live (256 * other.0 + 1) w none))
      ∙ sym (set_rows numbered at other l here (other.0, w))))

  -- a row above all others, on the last page
  module _ (last : length numbered ≤ at + 1) (low : All (λ (r : ℕ × ℕ). r.0 < seq) (rows_of numbered)) where
    nothing_behind : (y : Numbered)
        → rows_of (take at numbered) ++ (page_rows y ++ rows_of (drop (at + 1) numbered))
        ≡ rows_of (take at numbered) ++ page_rows y
    nothing_behind y =
        ap (λ ys. rows_of (take at numbered) ++ (page_rows y ++ rows_of ys)) (drop_all (at + 1) numbered last)
        ∙ ap (λ rows. rows_of (take at numbered) ++ rows) (append-nil (page_rows y))

    own_low : All (λ (r : ℕ × ℕ). r.0 < seq) (page_rows other)
    own_low =
        All_back (λ (r : ℕ × ℕ). r.0 < seq) (rows_of (take at numbered)) (page_rows other)
        (subst (All (λ (r : ℕ × ℕ). r.0 < seq))
        (cut_rows numbered at other l here ∙ nothing_behind other) low)

    pub pages_filled : (d : ℕ)
        → rows_of (set numbered at (other.0, set other.1 i (Some d))) ≡ rows_of numbered ++ (seq, d) ∷ []
    pages_filled d =
        set_rows numbered at other l here (other.0, set other.1 i (Some d))
        ∙ (nothing_behind (other.0, set other.1 i (Some d))
        ∙ (ap (λ rows. rows_of (take at numbered) ++ rows)
        (slots_filled other.0 i seq in' is d other.1 (is_page numbered at other l here pages).size own_low)
        ∙ (sym (append_assoc (rows_of (take at numbered)) (page_rows other) ((seq, d) ∷ []))
        ∙ ap (λ rows. rows ++ (seq, d) ∷ [])
        (sym (cut_rows numbered at other l here ∙ nothing_behind other)))))

    pub pages_filled_are : (d : ℕ) → seq < 2 ^ 64
        → All IsPage (set numbered at (other.0, set other.1 i (Some d)))
    pages_filled_are d bound =
        let page = is_page numbered at other l here pages in
        All-set IsPage numbered at (other.0, set other.1 i (Some d))
        (filled_is other.0 i seq in' is d other.1 page.low page.size bound own_low) pages

-- the rows that pass a test, where the rows of the pages before a place or behind it do not pass
module _ (p : ℕ × ℕ → Bool) where
  none_pass : (rows : List (ℕ × ℕ)) → All (λ row. p row ≡ false) rows → filter p rows ≡ []
  none_pass [] all = refl
  none_pass (row ∷ rows) all =
      rw (all 0 row (omega arith)) (none_pass rows (All-tail (λ row. p row ≡ false) row rows all))

  rows_parted : (numbered : List Numbered) (at : ℕ)
      → filter p (rows_of numbered) ≡ filter p (rows_of (take at numbered))
      ++ filter p (rows_of (drop at numbered))
  rows_parted numbered at =
      ap (λ ys. filter p (rows_of ys)) (sym (take-append-drop at numbered))
      ∙ (ap (filter p) (flat_map-append page_rows (take at numbered) (drop at numbered))
      ∙ filter-append p (rows_of (take at numbered)) (rows_of (drop at numbered)))

module _ {X : Type 0} (p : X → Bool) (xs ys : List X) (same : filter p xs ≡ filter p ys) where
  -- where the same elements of two lists pass, the first one and the count are the same
  pub find_same : find p xs ≡ find p ys
  find_same = from (filter p ys) refl
    where
      from : (zs : List X) → filter p ys ≡ zs → find p xs ≡ find p ys
      from [] e = find_no_first p xs (same ∙ e) ∙ sym (find_no_first p ys e)
      from (z ∷ zs) e = find_first p xs z zs (same ∙ e) ∙ sym (find_first p ys z zs e)

  pub count_same : count_by p xs ≡ count_by p ys
  count_same = sym (length-filter p xs) ∙ (ap length same ∙ length-filter p ys)

-- where the same elements of two lists pass, the last one is the same
pub find_reverse_same : {X : Type 0} (p : X → Bool) (xs ys : List X) → filter p xs ≡ filter p ys
    → find p (reverse xs) ≡ find p (reverse ys)
find_reverse_same p xs ys same =
    find_same p (reverse xs) (reverse ys)
    (filter_reverse p xs ∙ (ap reverse same ∙ sym (filter_reverse p ys)))

-- the rows above a place lie on the pages from the number place / 256 on
pub from_page : (place at : ℕ) (numbered : List Numbered) → All IsPage numbered → at ≤ length numbered
    → AllWithin (λ (other : Numbered). other.0 < place / 256) numbered 0 at
    → filter (λ (row : ℕ × ℕ). nat_lt place row.0) (rows_of numbered)
    ≡ filter (λ (row : ℕ × ℕ). nat_lt place row.0) (rows_of (drop at numbered))
from_page place at numbered pages fits low =
    rows_parted (λ (row : ℕ × ℕ). nat_lt place row.0) numbered at
    ∙ ap (λ rows. rows ++ filter (λ (row : ℕ × ℕ). nat_lt place row.0) (rows_of (drop at numbered)))
    (none_pass (λ (row : ℕ × ℕ). nat_lt place row.0) (rows_of (take at numbered))
    (All_rows (λ (row : ℕ × ℕ). nat_lt place row.0 ≡ false) (take at numbered)
    (λ z d m. early (get_or (take at numbered) z d) (All-take IsPage at numbered pages z d m)
    (before z d m))))
  where
    before : All (λ (other : Numbered). other.0 < place / 256) (take at numbered)
    before z d m =
        let below : z < at = omega (arith, length-take-le at numbered fits, m) in
        omega (
          arith,
          low z d (omega arith) below,
          ap (λ (other : Numbered). other.0) (get_or-take at numbered z d below),
        )

    early : (other : Numbered) → IsPage other → other.0 < place / 256
        → All (λ (row : ℕ × ℕ). nat_lt place row.0 ≡ false) (page_rows other)
    early other page low z d l = le-ltb place _ (omega (arith, (page_within other page.size z d l).1, low))

-- the rows below a place lie on the pages up to the number place / 256
pub upto_page : (place at : ℕ) (numbered : List Numbered) → All IsPage numbered → at ≤ length numbered
    → AllWithin (λ (other : Numbered). place / 256 + 1 ≤ other.0) numbered at (length numbered)
    → filter (λ (row : ℕ × ℕ). nat_lt row.0 place) (rows_of numbered)
    ≡ filter (λ (row : ℕ × ℕ). nat_lt row.0 place) (rows_of (take at numbered))
upto_page place at numbered pages fits high =
    rows_parted (λ (row : ℕ × ℕ). nat_lt row.0 place) numbered at
    ∙ (ap (λ rows. filter (λ (row : ℕ × ℕ). nat_lt row.0 place) (rows_of (take at numbered)) ++ rows)
    (none_pass (λ (row : ℕ × ℕ). nat_lt row.0 place) (rows_of (drop at numbered))
    (All_rows (λ (row : ℕ × ℕ). nat_lt row.0 place ≡ false) (drop at numbered)
    (λ z d m. late (get_or (drop at numbered) z d) (All-drop IsPage at numbered pages z d m) (behind z d m))))
    ∙ append-nil (filter (λ (row : ℕ × ℕ). nat_lt row.0 place) (rows_of (take at numbered))))
  where
    behind : All (λ (other : Numbered). place / 256 < other.0) (drop at numbered)
    behind z d m = omega (
      arith,
      high (at + z) d (omega arith) (omega (arith, length-drop at numbered, m)),
      ap (λ (other : Numbered). other.0) (get_or-drop at numbered z d),
    )

    late : (other : Numbered) → IsPage other → place / 256 < other.0
        → All (λ (row : ℕ × ℕ). nat_lt row.0 place ≡ false) (page_rows other)
    late other page high z d l = le-ltb _ place (omega (arith, (page_within other page.size z d l).0, high))

-- rising rows between two numbers are fewer than the difference of the numbers
pub few : (n m : ℕ) (rows : List (ℕ × ℕ))
    → AllPairs (λ (other_row third_row : ℕ × ℕ). other_row.0 < third_row.0) rows
    → All (λ (row : ℕ × ℕ). n < row.0) rows → All (λ (row : ℕ × ℕ). row.0 < m) rows → n < m
    → n + length rows < m
few n m [] rising low high l = omega arith
few n m (row ∷ rows) rising low high l =
    omega (
      arith,
      low 0 row (omega arith),
      few row.0 m rows (of_tail (λ (other_row third_row : ℕ × ℕ). other_row.0 < third_row.0) row rows rising)
          (of_head (λ (other_row third_row : ℕ × ℕ). other_row.0 < third_row.0) row rows rising)
          (All-tail (λ (row : ℕ × ℕ). row.0 < m) row rows high)
          (high 0 row (omega arith)),
    )

pub few_rows : (numbered : List Numbered) → ArePages numbered → length (rows_of numbered) < 2 ^ 64
few_rows numbered pages = omega (
  arith,
  few 0 (2 ^ 64) (rows_of numbered) pages.index.rising pages.index.positive
      (All_rows (λ (row : ℕ × ℕ). row.0 < 2 ^ 64) numbered (λ z d l. (pages.each z d l).fits)) (omega arith),
)

-- the different numbers of equal numbers, and then of others
pub one_kind : (k : ℕ) (x : ℕ) (xs rest : List ℕ) → All (λ y. y ≡ k) (x ∷ xs)
    → is_member nat_eq rest k ≡ false → unique_keys nat_eq ((x ∷ xs) ++ rest) ≡ k ∷ unique_keys nat_eq rest
one_kind k x [] rest all out =
    ap (λ n. unique_keys nat_eq (n ∷ rest)) (all 0 x (omega arith))
    ∙ ap (λ b. cond b (unique_keys nat_eq rest) (k ∷ unique_keys nat_eq rest)) out
one_kind k x (y ∷ ys) rest all out =
    ap (λ b. cond b (unique_keys nat_eq ((y ∷ ys) ++ rest)) (x ∷ unique_keys nat_eq ((y ∷ ys) ++ rest)))
    (ap (λ b. b || list_any (nat_eq x) (ys ++ rest))
    (eq-eqb x y (all 0 x (omega arith) ∙ sym (all 1 y (omega arith)))))
    ∙ one_kind k y ys rest (All-tail (λ z. z ≡ k) x (y ∷ ys) all) out

-- an index has as many pages as there are pages on which its rows lie
pub pages_counted : (numbered : List Numbered) → Rising numbered → All IsPage numbered
    → page_count (rows_of numbered) ≡ length numbered
pages_counted numbered rising pages =
    ap length (numbers numbered rising pages) ∙ length-map numbered (λ (other : Numbered). other.0)
  where
    outside : (k : ℕ) (rows : List (ℕ × ℕ)) → All (λ (row : ℕ × ℕ). k < page_of row.0) rows
        → is_member nat_eq (map (λ (row : ℕ × ℕ). page_of row.0) rows) k ≡ false
    outside k [] all = refl
    outside k (row ∷ rows) all =
        ap (λ b. b || list_any (nat_eq k) (map (λ (row : ℕ × ℕ). page_of row.0) rows))
        (ne_eqb k (page_of row.0) (λ other. omega (arith, all 0 row (omega arith), other)))
        ∙ outside k rows (All-tail (λ (row : ℕ × ℕ). k < page_of row.0) row rows all)

    page_is : (other : Numbered) → IsPage other
        → All (λ (row : ℕ × ℕ). page_of row.0 ≡ other.0) (page_rows other)
    page_is other page z d l = let w = page_within other page.size z d l in omega (arith, w.0, w.1)

    higher : (k : ℕ) (numbered : List Numbered) → All IsPage numbered
        → All (λ (other : Numbered). k < other.0) numbered
        → All (λ (row : ℕ × ℕ). k < page_of row.0) (rows_of numbered)
    higher k numbered pages all =
        All_rows (λ (row : ℕ × ℕ). k < page_of row.0) numbered
        (λ z d l y c m. omega (arith, all z d l, page_is (get_or numbered z d) (pages z d l) y c m))

    first : (k : ℕ) (rows : List (ℕ × ℕ)) (rest : List ℕ)
        → ((row : ℕ × ℕ) × (others : List (ℕ × ℕ)) × (rows ≡ row ∷ others))
        → All (λ (row : ℕ × ℕ). page_of row.0 ≡ k) rows → is_member nat_eq rest k ≡ false
        → unique_keys nat_eq (map (λ (row : ℕ × ℕ). page_of row.0) rows ++ rest) ≡ k ∷ unique_keys nat_eq rest
    first k rows rest (row, others, other) all out =
        ap (λ rows. unique_keys nat_eq (map (λ (row : ℕ × ℕ). page_of row.0) rows ++ rest)) other
        ∙ one_kind k (page_of row.0) (map (λ (row : ℕ × ℕ). page_of row.0) others) rest
        (All-map (λ n. n ≡ k) (λ (row : ℕ × ℕ). page_of row.0) (row ∷ others)
        (subst (All (λ (row : ℕ × ℕ). page_of row.0 ≡ k)) other all)) out

    numbers : (numbered : List Numbered) → Rising numbered → All IsPage numbered
        → unique_keys nat_eq (map (λ (row : ℕ × ℕ). page_of row.0) (rows_of numbered)) ≡ map
        (λ (other : Numbered). other.0) numbered
    numbers [] rising pages = refl
    numbers (other ∷ numbered) rising pages =
        ap (unique_keys nat_eq) (map-append (λ (row : ℕ × ℕ). page_of row.0) (page_rows other)
        (rows_of numbered))
        ∙ (first other.0 (page_rows other) (map (λ (row : ℕ × ℕ). page_of row.0) (rows_of numbered))
        (page_has other (pages 0 other (omega arith))) (page_is other (pages 0 other (omega arith)))
        (outside other.0 (rows_of numbered)
        (higher other.0 numbered (All-tail IsPage other numbered pages)
        (of_head (λ (a b : Numbered). a.0 < b.0) other numbered rising))) ∙ ap (λ ns. other.0 ∷ ns)
        (numbers numbered (of_tail (λ (a b : Numbered). a.0 < b.0) other numbered rising)
        (All-tail IsPage other numbered pages)))

module _ (p : ℕ × ℕ → Bool) (numbered : Numbered) (others : List Numbered) where
  -- the first row that passes lies on the first page, or else behind it
  pub found_first : (row : ℕ × ℕ) → Some row ≡ find p (page_rows numbered)
      → find p (rows_of (numbered ∷ others)) ≡ Some row
  found_first row h =
      find-append p (page_rows numbered) (rows_of others)
      ∙ ap (λ o. option_or o (find p (rows_of others))) (sym h)

  pub found_later : None ≡ find p (page_rows numbered)
      → find p (rows_of (numbered ∷ others)) ≡ find p (rows_of others)
  found_later h =
      find-append p (page_rows numbered) (rows_of others)
      ∙ ap (λ o. option_or o (find p (rows_of others))) (sym h)

  -- the last row that passes lies on the last page, or else before it
  from_last : find p (reverse (rows_of (others ++ numbered ∷ [])))
      ≡ option_or (find p (reverse (page_rows numbered))) (find p (reverse (rows_of others)))
  from_last =
      ap (λ rows. find p (reverse rows))
      (flat_map-append page_rows others (numbered ∷ [])
      ∙ ap (λ rows. rows_of others ++ rows) (append-nil (page_rows numbered)))
      ∙ (ap (find p) (reverse-append (rows_of others) (page_rows numbered))
      ∙ find-append p (reverse (page_rows numbered)) (reverse (rows_of others)))

  pub found_last : (row : ℕ × ℕ) → Some row ≡ find p (reverse (page_rows numbered))
      → find p (reverse (rows_of (others ++ numbered ∷ []))) ≡ Some row
  found_last row h = from_last ∙ ap (λ o. option_or o (find p (reverse (rows_of others)))) (sym h)

  pub found_before : None ≡ find p (reverse (page_rows numbered))
      → find p (reverse (rows_of (others ++ numbered ∷ []))) ≡ find p (reverse (rows_of others))
  found_before h = from_last ∙ ap (λ o. option_or o (find p (reverse (rows_of others)))) (sym h)

  pub counted_first : count_by p (rows_of (numbered ∷ others)) ≡ count_by p (page_rows numbered) + count_by p
      (rows_of others)
  counted_first = sum_by-append (λ r. cond (p r) 1 0) (page_rows numbered) (rows_of others)

-- ---- rows without one row

-- the rows of an index without the row at a sequence
pub removed_is : (seq : ℕ) (rows : List (ℕ × ℕ))
    → AllPairs (λ (other_row third_row : ℕ × ℕ). other_row.0 < third_row.0) rows
    → remove_entry (at_seq seq) rows ≡ filter (λ (r : ℕ × ℕ). not (nat_eq r.0 seq)) rows
removed_is seq [] rising = refl
removed_is seq (row ∷ xs) rising =
    let rest = of_tail (λ (other_row third_row : ℕ × ℕ). other_row.0 < third_row.0) row xs rising in
    elim (cases_Bool (nat_eq row.0 seq)) [
      | inl t ↦
          ap (λ third_row. cond third_row xs (row ∷ remove_entry (at_seq seq) xs))
          (is_at_same seq row.0 (eqb-true row.0 seq t))
          ∙ (sym (filter_keeps (λ (r : ℕ × ℕ). not (nat_eq r.0 seq)) xs (others (eqb-true row.0 seq t)))
          ∙ ap (λ third_row. cond (not third_row) (row ∷ filter (λ (r : ℕ × ℕ). not (nat_eq r.0 seq)) xs)
          (filter (λ (r : ℕ × ℕ). not (nat_eq r.0 seq)) xs)) (sym t))
      | inr f ↦
          ap (λ third_row. cond third_row xs (row ∷ remove_entry (at_seq seq) xs))
          (false_from_ne_true (at_seq seq row.0)
          (λ h. both_ways (nat_eq row.0 seq) f (eq-eqb row.0 seq (at_is seq row.0 h))))
          ∙ (ap (λ l. row ∷ l) (removed_is seq xs rest)
          ∙ ap (λ third_row. cond (not third_row) (row ∷ filter (λ (r : ℕ × ℕ). not (nat_eq r.0 seq)) xs)
          (filter (λ (r : ℕ × ℕ). not (nat_eq r.0 seq)) xs)) (sym f))
    ]
  where
    others : row.0 ≡ seq → All (λ (r : ℕ × ℕ). not (nat_eq r.0 seq) ≡ true) xs
    others e k d l =
        ap not
        (ne_eqb (get_or xs k d).0 seq (λ q.
        let above = of_head (λ (other_row third_row : ℕ × ℕ). other_row.0 < third_row.0) row xs rising k d l
        in omega (arith, e, q, above)))

pub index_less : (p : ℕ × ℕ → Bool) (rows : List (ℕ × ℕ)) → IsIndex rows → IsIndex (filter p rows)
index_less p rows index = record {
  rising = AllPairs-filter (λ (row other_row : ℕ × ℕ). row.0 < other_row.0) p rows index.rising;
  once = AllPairs-filter (λ (row other_row : ℕ × ℕ). row.1 ≢ other_row.1) p rows index.once;
  positive = All-filter p (λ (third_row : ℕ × ℕ). 0 < third_row.0) rows index.positive;
}
