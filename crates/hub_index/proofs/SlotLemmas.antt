-- Lemmas on the rows of slots.
use Rattle.std.proofs.Common.{◌≡◌, ℕ, zero, suc, ◌+◌, ◌-◌, ◌<◌, ◌≤◌, List, [], ◌∷◌, ◌++◌}
use Rattle.std.proofs.Common.{length, get_or, set, take, drop, Bool, true, false, cond, nat_lt}
use Rattle.std.proofs.Common.{nat_le, Option, Some, None, find, filter, map, reverse, count_by}
use Rattle.std.proofs.Common.{is_some, sym, ◌∙◌, ap, refl, subst, inl, inr, ◌⊎◌, arith}
use Rattle.std.specs.Option.{option_map, option_or}
use Rattle.std.specs.List.{All}
use Rattle.std.specs.Map.{remove_entry}
use Rattle.std.specs.BTreeMap.{is_at}
use Rattle.std.specs.Ordering.{nat_cmp, is_eq}
use Rattle.std.specs.Cmp.{nat_cmp_is}
use Rattle.std.specs.declared.cmp.Ordering.TheVariants.{Less, Equal, Greater}
use Rattle.std.proofs.lemmas.Bool.{cases_Bool, cases_lt, lt-ltb, le-ltb, le-leb, lt-leb, ltb-true}
use Rattle.std.proofs.lemmas.List.{append-nil, reverse-append, drop_more, take_more}
use Rattle.std.proofs.lemmas.List.{take_all, length-take-le, take-append-drop, length-drop}
use Rattle.std.proofs.lemmas.List.Elements.{All-tail, All-cons, All-nil}
use Rattle.std.proofs.lemmas.List.Folds.{find-append}
use Rattle.std.proofs.lemmas.List.Sums.{sum_by-cons, sum_by-append}
use Rattle.hub_index.specs.Pages.{slot_rows}
use Rattle.hub_index.proofs.IndexLemmas.{find_nothing, filter_reverse, find_no_first, same_Some}
use Rattle.hub_index.proofs.ListLemmas.{find_map, map_reverse}

-- the rows of slots one behind the other
pub rows_append : (n : ℕ) (xs ys : List (Option ℕ))
    → slot_rows n (xs ++ ys) ≡ slot_rows n xs ++ slot_rows (n + length xs) ys
rows_append n [] ys = ap (λ m. slot_rows m ys) (omega arith)
rows_append n (None ∷ xs) ys =
    rows_append (n + 1) xs ys ∙ ap (λ m. slot_rows (n + 1) xs ++ slot_rows m ys) (omega arith)
rows_append n (Some d ∷ xs) ys =
    ap (λ rows. (n, d) ∷ rows)
    (rows_append (n + 1) xs ys ∙ ap (λ m. slot_rows (n + 1) xs ++ slot_rows m ys) (omega arith))

-- the sequences of the rows of slots
pub rows_within : (n : ℕ) (s : List (Option ℕ))
    → All (λ (row : ℕ × ℕ). (n ≤ row.0) × (row.0 < n + length s)) (slot_rows n s)
rows_within n [] = All-nil (λ (row : ℕ × ℕ). (n ≤ row.0) × (row.0 < n + length {A = Option ℕ} []))
rows_within n (None ∷ s) =
    λ k d l. let w = rows_within (n + 1) s k d l in (omega (arith, w.0), omega (arith, w.1))
rows_within n (Some v ∷ s) =
    All-cons (λ (row : ℕ × ℕ). (n ≤ row.0) × (row.0 < n + length (Some v ∷ s))) (n, v) (slot_rows (n + 1) s)
    (omega arith, omega arith)
    (λ k d l. let w = rows_within (n + 1) s k d l in (omega (arith, w.0), omega (arith, w.1)))

-- slots whose rows all lie below the first slot have no row
pub no_rows : (m n : ℕ) (s : List (Option ℕ)) → n ≤ m → All (λ (row : ℕ × ℕ). row.0 < n) (slot_rows m s)
    → slot_rows m s ≡ []
no_rows m n [] l all = refl
no_rows m n (None ∷ s) l all = no_rows (m + 1) n s (omega arith) all
no_rows m n (Some d ∷ s) l all = absurd (omega (arith, all 0 (m, d) (omega arith)))

-- rows moved by the same number
pub rows_shift : (b n : ℕ) (s : List (Option ℕ))
    → slot_rows (b + n) s ≡ map (λ (row : ℕ × ℕ). (b + row.0, row.1)) (slot_rows n s)
rows_shift b n [] = refl
rows_shift b n (None ∷ s) = ap (λ m. slot_rows m s) (omega arith) ∙ rows_shift b (n + 1) s
rows_shift b n (Some d ∷ s) =
    ap (λ rows. (b + n, d) ∷ rows) (ap (λ m. slot_rows m s) (omega arith) ∙ rows_shift b (n + 1) s)

module _ {X : Type 0} (p : X → Bool) where
  -- a found element is one of the list
  pub find_has : (P : X → Type 0) (xs : List X) (x : X) → All P xs → find p xs ≡ Some x → P x
  find_has P [] x all e = absurd (cc)
  find_has P (y ∷ xs) x all e =
      elim (cases_Bool (p y)) [
        | inl t ↦ subst P (same_Some y x (rw t at e)) (all 0 y (omega arith))
        | inr f ↦ find_has P xs x (All-tail P y xs all) (rw f at e)
      ]

  -- a found element passes
  pub find_passes : (xs : List X) (x : X) → find p xs ≡ Some x → p x ≡ true
  find_passes [] x e = absurd (cc)
  find_passes (y ∷ xs) x e =
      elim (cases_Bool (p y)) [
        | inl t ↦ subst (λ z. p z ≡ true) (same_Some y x (rw t at e)) t
        | inr f ↦ find_passes xs x (rw f at e)
      ]

  -- where no element of the first list passes, the search goes on in the second
  pub find_behind : (xs ys : List X) → All (λ x. p x ≡ false) xs → find p (xs ++ ys) ≡ find p ys
  find_behind xs ys all = find-append p xs ys ∙ ap (λ o. option_or o (find p ys)) (find_nothing p xs all)

  pub count_none : (xs : List X) → All (λ x. p x ≡ false) xs → count_by p xs ≡ 0
  count_none [] all = refl
  count_none (x ∷ xs) all =
      sum_by-cons (λ y. cond (p y) 1 0) x xs
      ∙ (ap (λ b. cond b 1 0 + count_by p xs) (all 0 x (omega arith))
      ∙ omega (arith, count_none xs (All-tail (λ x. p x ≡ false) x xs all)))

  -- where no element passes, none is found from the end either
  pub reverse_nothing : (xs : List X) → All (λ x. p x ≡ false) xs → find p (reverse xs) ≡ None
  reverse_nothing xs all =
      find_no_first p (reverse xs) (filter_reverse p xs ∙ ap reverse (filter_none xs all))
    where
      filter_none : (xs : List X) → All (λ x. p x ≡ false) xs → filter p xs ≡ []
      filter_none [] all = refl
      filter_none (y ∷ xs) all =
          rw (all 0 y (omega arith)) (filter_none xs (All-tail (λ x. p x ≡ false) y xs all))

-- the first row from a slot on
pub from_slot : (m n i : ℕ) (s : List (Option ℕ)) → n + i ≡ m
    → find (λ (row : ℕ × ℕ). nat_le m row.0) (slot_rows n s)
    ≡ find (λ (row : ℕ × ℕ). nat_le m row.0) (slot_rows m (drop i s))
from_slot m n zero s e = ap (λ k. find (λ (row : ℕ × ℕ). nat_le m row.0) (slot_rows k s)) (omega (arith, e))
from_slot m n (suc i) [] e = refl
from_slot m n (suc i) (None ∷ s) e = from_slot m (n + 1) i s (omega (arith, e))
from_slot m n (suc i) (Some d ∷ s) e =
    rw (lt-leb m n (omega (arith, e))) (from_slot m (n + 1) i s (omega (arith, e)))

module _ (s : List (Option ℕ)) (at : ℕ) (in' : at < length s) where
  -- the rows from a slot on, where it is empty, and where it has a document
  pub next_empty : get_or s at None ≡ None → slot_rows at (drop at s) ≡ slot_rows (at + 1) (drop (at + 1) s)
  next_empty e = ap (slot_rows at) (drop_more s at None in' ∙ ap (λ o. o ∷ drop (at + 1) s) e)

  pub next_full : (d : ℕ) → get_or s at None ≡ Some d
      → slot_rows at (drop at s) ≡ (at, d) ∷ slot_rows (at + 1) (drop (at + 1) s)
  next_full d e = ap (slot_rows at) (drop_more s at None in' ∙ ap (λ o. o ∷ drop (at + 1) s) e)

  -- the rows up to a slot, where it is empty, and where it has a document
  upto : (o : Option ℕ) → get_or s at None ≡ o
      → slot_rows 0 (take (at + 1) s) ≡ slot_rows 0 (take at s) ++ slot_rows at (o ∷ [])
  upto o e =
      ap (slot_rows 0) (take_more s at None in' ∙ ap (λ o. take at s ++ o ∷ []) e)
      ∙ (rows_append 0 (take at s) (o ∷ [])
      ∙ ap (λ m. slot_rows 0 (take at s) ++ slot_rows m (o ∷ []))
      (omega (arith, length-take-le at s (omega arith))))

  pub last_empty : get_or s at None ≡ None
      → reverse (slot_rows 0 (take (at + 1) s)) ≡ reverse (slot_rows 0 (take at s))
  last_empty e = ap reverse (upto None e ∙ append-nil (slot_rows 0 (take at s)))

  pub last_full : (d : ℕ) → get_or s at None ≡ Some d
      → reverse (slot_rows 0 (take (at + 1) s)) ≡ (at, d) ∷ reverse (slot_rows 0 (take at s))
  last_full d e = ap reverse (upto (Some d) e) ∙ reverse-append (slot_rows 0 (take at s)) ((at, d) ∷ [])

-- the last row below a slot
pub below_slot : (e m : ℕ) (s : List (Option ℕ)) → m ≤ length s → (m ≡ e) ⊎ (length s ≤ m)
    → find (λ (row : ℕ × ℕ). nat_lt row.0 e) (reverse (slot_rows 0 s))
    ≡ find (λ (row : ℕ × ℕ). nat_lt row.0 e) (reverse (slot_rows 0 (take m s)))
below_slot e m s l (inr h) =
    ap (λ t. find (λ (row : ℕ × ℕ). nat_lt row.0 e) (reverse (slot_rows 0 t))) (sym (take_all m s h))
below_slot e m s l (inl q) =
    ap (λ t. find p (reverse (slot_rows 0 t))) (sym (take-append-drop m s))
    ∙ (ap (λ rows. find p (reverse rows)) (rows_append 0 (take m s) (drop m s))
    ∙ (ap (find p) (reverse-append (slot_rows 0 (take m s)) later)
    ∙ (find-append p (reverse later) (reverse (slot_rows 0 (take m s)))
    ∙ ap (λ o. option_or o (find p (reverse (slot_rows 0 (take m s)))))
    (reverse_nothing p later (λ k d g. le-ltb _ e
    (omega (arith, q, length-take-le m s l, (rows_within (0 + length (take m s)) (drop m s) k d g).0)))))))
  where
    p : ℕ × ℕ → Bool
    p row = nat_lt row.0 e

    later : List (ℕ × ℕ)
    later = slot_rows (0 + length (take m s)) (drop m s)

-- the rows above a base: the slot i has the sequence base + i + 1
module _ (base : ℕ) where
  -- the row of a slot, by its place and document
  abbrev pub row_at : ℕ × ℕ → ℕ × ℕ
  row_at row = (base + 1 + row.0, row.1)

  behind : (s : List (Option ℕ)) → slot_rows (base + 1) s ≡ map row_at (slot_rows 0 s)
  behind s = ap (λ m. slot_rows m s) (omega arith) ∙ rows_shift (base + 1) 0 s

  above_same : (place i : ℕ) → nat_lt place (base + 1 + i) ≡ nat_le (place - base) i
  above_same place i =
      elim (cases_lt place (base + 1 + i)) [
        | inl l ↦ lt-ltb place (base + 1 + i) l ∙ sym (le-leb (place - base) i (omega (arith, l)))
        | inr g ↦ le-ltb place (base + 1 + i) g ∙ sym (lt-leb (place - base) i (omega (arith, g)))
      ]

  below_same : (place i : ℕ) → nat_lt (base + 1 + i) place ≡ nat_lt i (place - (base + 1))
  below_same place i =
      elim (cases_lt (base + 1 + i) place) [
        | inl l ↦ lt-ltb (base + 1 + i) place l ∙ sym (lt-ltb i (place - (base + 1)) (omega (arith, l)))
        | inr g ↦ le-ltb (base + 1 + i) place g ∙ sym (le-ltb i (place - (base + 1)) (omega (arith, g)))
      ]

  -- the first row above a place is that of the first slot from the place on
  pub first_row : (place : ℕ) (s : List (Option ℕ))
      → find (λ (row : ℕ × ℕ). nat_lt place row.0) (slot_rows (base + 1) s)
      ≡ option_map row_at (find (λ (row : ℕ × ℕ). nat_le (place - base) row.0) (slot_rows 0 s))
  first_row place s =
      ap (find (λ (row : ℕ × ℕ). nat_lt place row.0)) (behind s)
      ∙ (find_map (λ (row : ℕ × ℕ). nat_lt place row.0) row_at (slot_rows 0 s)
      ∙ ap (λ (p : ℕ → Bool). option_map row_at (find (λ (row : ℕ × ℕ). p row.0) (slot_rows 0 s)))
      (λ i n. above_same place n i))

  -- the last row below a place is that of the last slot below the place
  pub last_row : (place : ℕ) (s : List (Option ℕ))
      → find (λ (row : ℕ × ℕ). nat_lt row.0 place) (reverse (slot_rows (base + 1) s))
      ≡ option_map row_at (find (λ (row : ℕ × ℕ). nat_lt row.0 (place - (base + 1)))
      (reverse (slot_rows 0 s)))
  last_row place s =
      ap (λ rows. find (λ (row : ℕ × ℕ). nat_lt row.0 place) (reverse rows)) (behind s)
      ∙ (ap (find (λ (row : ℕ × ℕ). nat_lt row.0 place)) (sym (map_reverse row_at (slot_rows 0 s)))
      ∙ (find_map (λ (row : ℕ × ℕ). nat_lt row.0 place) row_at (reverse (slot_rows 0 s))
      ∙ ap (λ (p : ℕ → Bool). option_map row_at (find (λ (row : ℕ × ℕ). p row.0) (reverse (slot_rows 0 s))))
      (λ i n. below_same place n i)))

-- as many rows as slots that have a document
pub count_each : (p : ℕ × ℕ → Bool) (n : ℕ) (s : List (Option ℕ)) → All (λ r. p r ≡ true) (slot_rows n s)
    → count_by p (slot_rows n s) ≡ count_by is_some s
count_each p n [] all = refl
count_each p n (None ∷ s) all =
    omega (arith, count_each p (n + 1) s all, sum_by-cons (λ (o : Option ℕ). cond (is_some o) 1 0) None s)
count_each p n (Some d ∷ s) all =
    let rest : count_by p (slot_rows (n + 1) s) ≡ count_by is_some s =
    count_each p (n + 1) s (All-tail (λ r. p r ≡ true) (n, d) (slot_rows (n + 1) s) all) in
    sum_by-cons (λ r. cond (p r) 1 0) (n, d) (slot_rows (n + 1) s)
    ∙ (ap (λ b. cond b 1 0 + count_by p (slot_rows (n + 1) s)) (all 0 (n, d) (omega arith))
    ∙ (ap (λ m. 1 + m) rest ∙ sym (sum_by-cons (λ (o : Option ℕ). cond (is_some o) 1 0) (Some d) s)))

pub length_rows : (n : ℕ) (s : List (Option ℕ)) → length (slot_rows n s) ≡ count_by is_some s
length_rows n [] = refl
length_rows n (None ∷ s) =
    omega (arith, length_rows (n + 1) s, sum_by-cons (λ (o : Option ℕ). cond (is_some o) 1 0) None s)
length_rows n (Some d ∷ s) =
    omega (arith, length_rows (n + 1) s, sum_by-cons (λ (o : Option ℕ). cond (is_some o) 1 0) (Some d) s)

-- the number of rows above a place is the number of documents in the slots from the place on
pub count_behind : (base place i : ℕ) (s : List (Option ℕ))
    → i ≤ length s → (i ≡ place - base) ⊎ ((length s ≤ i) × (i ≤ place - base))
    → count_by (λ (row : ℕ × ℕ). nat_lt place row.0) (slot_rows (base + 1) s) ≡ count_by is_some (drop i s)
count_behind base place i s l h =
    ap (λ t. count_by p (slot_rows (base + 1) t)) (sym (take-append-drop i s))
    ∙ (ap (count_by p) (rows_append (base + 1) (take i s) (drop i s))
    ∙ (sum_by-append (λ row. cond (p row) 1 0) (slot_rows (base + 1) (take i s)) later
    ∙ (ap (λ n. n + count_by p later) (count_none p (slot_rows (base + 1) (take i s)) early)
    ∙ (omega (arith, count_each p (base + 1 + length (take i s)) (drop i s) (late h))))))
  where
    p : ℕ × ℕ → Bool
    p row = nat_lt place row.0

    later : List (ℕ × ℕ)
    later = slot_rows (base + 1 + length (take i s)) (drop i s)

    near : (i ≡ place - base) ⊎ ((length s ≤ i) × (i ≤ place - base)) → i ≤ place - base
    near (inl q) = omega (arith, q)
    near (inr g) = g.1

    early : All (λ row. p row ≡ false) (slot_rows (base + 1) (take i s))
    early k d g =
        le-ltb place _
        (omega (
          arith,
          near h,
          length-take-le i s l,
          (rows_within (base + 1) (take i s) k d g).1,
          (rows_within (base + 1) (take i s) k d g).0,
        ))

    late : (i ≡ place - base) ⊎ ((length s ≤ i) × (i ≤ place - base)) → All (λ row. p row ≡ true) later
    late (inl q) k d g =
        lt-ltb place _
        (omega (
          arith,
          q,
          length-take-le i s l,
          (rows_within (base + 1 + length (take i s)) (drop i s) k d g).0,
        ))
    late (inr (n, m)) k d g =
        absurd (omega (
          arith,
          n,
          length-drop i s,
          (rows_within (base + 1 + length (take i s)) (drop i s) k d g).0,
          (rows_within (base + 1 + length (take i s)) (drop i s) k d g).1,
        ))

-- a document in a slot above all rows adds a row at the end
pub rows_filled : (n i d : ℕ) (s : List (Option ℕ))
    → i < length s → All (λ (row : ℕ × ℕ). row.0 < n + i) (slot_rows n s)
    → slot_rows n (set s i (Some d)) ≡ slot_rows n s ++ (n + i, d) ∷ []
rows_filled n i d [] l all = absurd (omega (arith, l))
rows_filled n zero d (x ∷ s) l all =
    ap (λ rows. (n, d) ∷ rows) (none x all)
    ∙ (ap (λ m. (m, d) ∷ []) (omega arith)
    ∙ ap (λ rows. rows ++ (n + 0, d) ∷ [])
    (sym (no_rows n n (x ∷ s) (omega arith) (λ k z g. omega (arith, all k z g)))))
  where
    none : (x : Option ℕ) → All (λ (row : ℕ × ℕ). row.0 < n + 0) (slot_rows n (x ∷ s))
        → slot_rows (n + 1) s ≡ []
    none None all = no_rows (n + 1) n s (omega arith) (λ k z g. omega (arith, all k z g))
    none (Some v) all = absurd (omega (arith, all 0 (n, v) (omega arith)))
rows_filled n (suc i) d (None ∷ s) l all =
    rows_filled (n + 1) i d s (omega (arith, l)) (λ k z g. omega (arith, all k z g))
    ∙ ap (λ m. slot_rows (n + 1) s ++ (m, d) ∷ []) (omega arith)
rows_filled n (suc i) d (Some v ∷ s) l all =
    ap (λ rows. (n, v) ∷ rows)
    (rows_filled (n + 1) i d s (omega (arith, l))
    (λ k z g. omega (
      arith,
      All-tail (λ (row : ℕ × ℕ). row.0 < n + suc i) (n, v)
          (slot_rows (n + 1) s) all k z g,
    )) ∙ ap (λ m. slot_rows (n + 1) s ++ (m, d) ∷ []) (omega arith))

-- whether a row is at a sequence
abbrev pub at_seq : ℕ → ℕ → Bool
at_seq seq = is_at (nat_cmp seq)

pub not_at : (seq other : ℕ) → (seq < other) ⊎ (other < seq) → at_seq seq other ≡ false
not_at seq other (inl l) = ap is_eq (sym (nat_cmp_is seq other Less l))
not_at seq other (inr g) = ap is_eq (sym (nat_cmp_is seq other Greater g))

pub is_at_same : (seq other : ℕ) → other ≡ seq → at_seq seq other ≡ true
is_at_same seq other e = ap is_eq (sym (nat_cmp_is seq other Equal (sym e)))

module _ {X : Type 0} (t : ℕ → Bool) where
  -- no entry is removed where none passes
  pub remove_none : (es : List (ℕ × X)) → All (λ (e : ℕ × X). t e.0 ≡ false) es → remove_entry t es ≡ es
  remove_none [] all = refl
  remove_none (e ∷ es) all =
      rw (all 0 e (omega arith))
      (ap (λ l. e ∷ l) (remove_none es (All-tail (λ (e : ℕ × X). t e.0 ≡ false) e es all)))

  pub remove_left : (es fs : List (ℕ × X)) → All (λ (e : ℕ × X). t e.0 ≡ false) fs
      → remove_entry t (es ++ fs) ≡ remove_entry t es ++ fs
  remove_left [] fs all = remove_none fs all
  remove_left (e ∷ es) fs all =
      elim (cases_Bool (t e.0)) [
        | inl p ↦ rw p refl
        | inr n ↦ rw n (ap (λ l. e ∷ l) (remove_left es fs all))
      ]

  pub remove_right : (es fs : List (ℕ × X)) → All (λ (e : ℕ × X). t e.0 ≡ false) es
      → remove_entry t (es ++ fs) ≡ es ++ remove_entry t fs
  remove_right [] fs all = refl
  remove_right (e ∷ es) fs all =
      rw (all 0 e (omega arith))
      (ap (λ l. e ∷ l) (remove_right es fs (All-tail (λ (e : ℕ × X). t e.0 ≡ false) e es all)))

-- an emptied slot loses its row
pub rows_cleared : (n i : ℕ) (s : List (Option ℕ))
    → slot_rows n (set s i None) ≡ remove_entry (at_seq (n + i)) (slot_rows n s)
rows_cleared n i [] = refl
rows_cleared n zero (None ∷ s) =
    sym (remove_none (at_seq (n + 0)) (slot_rows (n + 1) s)
    (λ k d l. not_at (n + 0) _ (inl (omega (arith, (rows_within (n + 1) s k d l).0)))))
rows_cleared n zero (Some v ∷ s) = rw (is_at_same (n + 0) n (omega arith)) refl
rows_cleared n (suc i) (None ∷ s) =
    rows_cleared (n + 1) i s ∙ ap (λ m. remove_entry (at_seq m) (slot_rows (n + 1) s)) (omega arith)
rows_cleared n (suc i) (Some v ∷ s) =
    rw (not_at (n + suc i) n (inr (omega arith)))
    (ap (λ l. (n, v) ∷ l)
    (rows_cleared (n + 1) i s ∙ ap (λ m. remove_entry (at_seq m) (slot_rows (n + 1) s)) (omega arith)))

-- a statement on all entries holds of the entries that a removal leaves
pub All_removed : {X : Type 0} (P : ℕ × X → Type 0) (t : ℕ → Bool) (es : List (ℕ × X)) → All P es
    → All P (remove_entry t es)
All_removed P t [] all = all
All_removed P t (e ∷ es) all =
    elim (cases_Bool (t e.0)) [
      | inl p ↦ rw p (All-tail P e es all)
      | inr n ↦
          rw n
          (All-cons P e (remove_entry t es) (all 0 e (omega arith))
          (All_removed P t es (All-tail P e es all)))
    ]

-- a search by sequences on a page, from the search by places in its slots
module _ (base place from : ℕ) (now slots : List (Option ℕ)) (same : slots ≡ now) where
  module _ (is_from : from ≡ place - base) where
    row_from : option_map (row_at base) (find (λ (r : ℕ × ℕ). nat_le from r.0) (slot_rows 0 slots))
        ≡ find (λ (r : ℕ × ℕ). nat_lt place r.0) (slot_rows (base + 1) now)
    row_from =
        rw (same, is_from) (sym (first_row base place now))

    pub nothing_from : None ≡ find (λ (r : ℕ × ℕ). nat_le from r.0) (slot_rows 0 slots)
        → None ≡ find (λ (r : ℕ × ℕ). nat_lt place r.0) (slot_rows (base + 1) now)
    nothing_from e = ap (option_map (row_at base)) e ∙ row_from

    pub found_from : (at d : ℕ) → Some (at, d) ≡ find (λ (r : ℕ × ℕ). nat_le from r.0) (slot_rows 0 slots)
        → Some (base + (at + 1), d) ≡ find (λ (r : ℕ × ℕ). nat_lt place r.0) (slot_rows (base + 1) now)
    found_from at d e =
        ap (λ m. Some (m, d)) (omega arith) ∙ (ap (option_map (row_at base)) e ∙ row_from)

    pub fits_from : (at d n : ℕ) → All (λ (r : ℕ × ℕ). r.0 < n) (slot_rows (base + 1) now)
        → Some (at, d) ≡ find (λ (r : ℕ × ℕ). nat_le from r.0) (slot_rows 0 slots) → base + (at + 1) < n
    fits_from at d n all e =
        find_has (λ (r : ℕ × ℕ). nat_lt place r.0) (λ (r : ℕ × ℕ). r.0 < n) (slot_rows (base + 1) now)
        (base + (at + 1), d) all (sym (found_from at d e))

  module _ (is_from : from ≡ place - (base + 1)) where
    row_below : option_map (row_at base) (find (λ (r : ℕ × ℕ). nat_lt r.0 from) (reverse (slot_rows 0 slots)))
        ≡ find (λ (r : ℕ × ℕ). nat_lt r.0 place) (reverse (slot_rows (base + 1) now))
    row_below =
        rw (same, is_from) (sym (last_row base place now))

    pub nothing_below : None ≡ find (λ (r : ℕ × ℕ). nat_lt r.0 from) (reverse (slot_rows 0 slots))
        → None ≡ find (λ (r : ℕ × ℕ). nat_lt r.0 place) (reverse (slot_rows (base + 1) now))
    nothing_below e = ap (option_map (row_at base)) e ∙ row_below

    pub found_below : (at d : ℕ)
        → Some (at, d) ≡ find (λ (r : ℕ × ℕ). nat_lt r.0 from) (reverse (slot_rows 0 slots))
        → Some (base + (at + 1), d)
        ≡ find (λ (r : ℕ × ℕ). nat_lt r.0 place) (reverse (slot_rows (base + 1) now))
    found_below at d e =
        ap (λ m. Some (m, d)) (omega arith) ∙ (ap (option_map (row_at base)) e ∙ row_below)

    pub fits_below : (at d : ℕ)
        → Some (at, d) ≡ find (λ (r : ℕ × ℕ). nat_lt r.0 from) (reverse (slot_rows 0 slots))
        → base + (at + 1) < place
    fits_below at d e =
        ltb-true (base + (at + 1)) place
        (find_passes (λ (r : ℕ × ℕ). nat_lt r.0 place) (reverse (slot_rows (base + 1) now))
        (base + (at + 1), d) (sym (found_below at d e)))
