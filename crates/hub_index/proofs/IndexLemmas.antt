-- Lemmas on rows by sequence.
use Rattle.std.proofs.Common.{◌≡◌, ◌≢◌, ℕ, suc, ◌<◌, ◌≤◌, List, [], ◌∷◌, ◌++◌, length, get_or, Bool}
use Rattle.std.proofs.Common.{true, false, not, ◌&&◌, nat_eq, nat_lt, nat_le, Option, Some, None}
use Rattle.std.proofs.Common.{find, filter, reverse, cond, sym, ◌∙◌, ap, refl, subst, inl, inr, arith}
use Rattle.std.specs.List.{All, AllPairs}
use Rattle.std.specs.Map.{remove_entry}
use Rattle.std.specs.BTreeMap.{insert_entry, is_at}
use Rattle.std.specs.BTreeMap.Range.{range_contains, entries_between}
use Rattle.std.specs.Ordering.{nat_cmp, is_eq, is_le, is_lt, match_ordering}
use Rattle.std.specs.Cmp.{nat_cmp_is}
use Rattle.std.specs.declared.cmp.Ordering.TheVariants.{Less, Equal, Greater}
use Rattle.std.specs.declared.ops.Bound.TheVariants.{Excluded, Unbounded}
use Rattle.std.proofs.Math.Bool.{and-false}
use Rattle.std.proofs.lemmas.Bool.{cases_Bool, cases_order, both_ways, lt-ltb, le-ltb}
use Rattle.std.proofs.lemmas.Bool.{le-leb, lt-leb, eqb-true, eq-eqb, false_from_ne_true}
use Rattle.std.proofs.lemmas.List.{append-nil, reverse-append}
use Rattle.std.proofs.lemmas.List.Elements.{All-tail, All-filter, All-push, All-cons, All-nil, filter-append}
use Rattle.std.proofs.lemmas.List.Kept.{AllPairs-filter}
use Rattle.std.proofs.lemmas.List.Quantifiers.{all_pairs_push}
use Rattle.std.proofs.lemmas.List.Sums.{length-filter}
use Rattle.std.proofs.lemmas.Option.{none-some}
use Rattle.hub_index.specs.Rows.{IsIndex, seq_of, rows_after_move, is_within, next_after, last_before, count_after}

-- equal options have equal values
pub same_Some : {X : Type 0} (a b : X) → Some a ≡ Some b → a ≡ b
same_Some a b q = cc

-- a list whose pairs are related: its first element to each later one, and the later ones among themselves
module _ {X : Type 0} (R : X → X → Type 0) (x : X) (xs : List X) (pairs : AllPairs R (x ∷ xs)) where
  pub of_head : All (R x) xs
  of_head k d l = pairs 0 (suc k) d (omega arith) (omega arith)

  pub of_tail : AllPairs R xs
  of_tail i j d l m = pairs (suc i) (suc j) d (omega arith) (omega arith)

module _ {X : Type 0} (p : X → Bool) where
  -- where no element passes, none is found
  pub find_nothing : (xs : List X) → All (λ x. p x ≡ false) xs → find p xs ≡ None
  find_nothing [] all = refl
  find_nothing (y ∷ xs) all =
      rw (all 0 y (omega arith)) (find_nothing xs (All-tail (λ x. p x ≡ false) y xs all))

  -- the first of the elements that pass is found
  pub find_first : (xs : List X) (x : X) (rest : List X) → filter p xs ≡ x ∷ rest → find p xs ≡ Some x
  find_first [] x rest e = absurd (cc)
  find_first (y ∷ xs) x rest e =
      elim (cases_Bool (p y)) [
        | inl t ↦ rw t (same_head y (filter p xs) (rw t at e))
        | inr f ↦ rw f (find_first xs x rest (rw f at e))
      ]
    where
      same_head : (a : X) (others : List X) → a ∷ others ≡ x ∷ rest → Some a ≡ Some x
      same_head a others q = cc

  pub find_no_first : (xs : List X) → filter p xs ≡ [] → find p xs ≡ None
  find_no_first [] e = refl
  find_no_first (y ∷ xs) e =
      elim (cases_Bool (p y)) [
        | inl t ↦ absurd (not_empty y (filter p xs) (rw t at e))
        | inr f ↦ rw f (find_no_first xs (rw f at e))
      ]
    where
      not_empty : (a : X) (others : List X) → a ∷ others ≡ [] → ⊥
      not_empty a others q = cc

  -- a filter that every element passes
  pub filter_keeps : (xs : List X) → All (λ x. p x ≡ true) xs → filter p xs ≡ xs
  filter_keeps [] all = refl
  filter_keeps (y ∷ xs) all =
      rw (all 0 y (omega arith)) (ap (λ l. y ∷ l) (filter_keeps xs (All-tail (λ x. p x ≡ true) y xs all)))

  -- the elements that a filter leaves pass it
  pub filter_passes : (xs : List X) → All (λ x. p x ≡ true) (filter p xs)
  filter_passes [] = All-nil (λ x. p x ≡ true)
  filter_passes (y ∷ xs) =
      elim (cases_Bool (p y)) [
        | inl t ↦ rw t (All-cons (λ x. p x ≡ true) y (filter p xs) t (filter_passes xs))
        | inr f ↦ rw f (filter_passes xs)
      ]

  pub filter_reverse : (xs : List X) → filter p (reverse xs) ≡ reverse (filter p xs)
  filter_reverse [] = refl
  filter_reverse (x ∷ xs) =
      ap (filter p) (reverse-append (x ∷ []) xs)
      ∙ (filter-append p (reverse xs) (x ∷ []) ∙ elim (cases_Bool (p x)) [
        | inl t ↦ rw (t, filter_reverse xs) (sym (reverse-append (x ∷ []) (filter p xs)))
        | inr f ↦ rw (f, filter_reverse xs) (append-nil (reverse (filter p xs)))
      ])

module _ {X : Type 0} (p q : X → Bool) (same : (x : X) → p x ≡ q x) where
  pub filter_as : (xs : List X) → filter p xs ≡ filter q xs
  filter_as [] = refl
  filter_as (y ∷ xs) = rw (same y, filter_as xs) refl

-- the tree's test of sequences above a place
above_is : (place seq : ℕ) → range_contains nat_cmp (Excluded place) Unbounded seq ≡ nat_lt place seq
above_is place seq =
    elim (cases_order place seq) [
      | inl e ↦
          ap (λ o. is_lt o && true) (sym (nat_cmp_is place seq Equal e))
          ∙ sym (le-ltb place seq (omega (arith, e)))
      | inr (inl l) ↦ ap (λ o. is_lt o && true) (sym (nat_cmp_is place seq Less l)) ∙ sym (lt-ltb place seq l)
      | inr (inr g) ↦
          ap (λ o. is_lt o && true) (sym (nat_cmp_is place seq Greater g))
          ∙ sym (le-ltb place seq (omega (arith, g)))
    ]

pub above : (place : ℕ) (rows : List (ℕ × ℕ))
    → entries_between nat_cmp (Excluded place) Unbounded rows ≡ filter
    (λ (row : ℕ × ℕ). nat_lt place row.0) rows
above place rows =
    filter_as (λ (row : ℕ × ℕ). range_contains nat_cmp (Excluded place) Unbounded row.0)
    (λ (row : ℕ × ℕ). nat_lt place row.0) (λ row. above_is place row.0) rows

-- the tree's test of sequences below a place
below_is : (place seq : ℕ) → range_contains nat_cmp Unbounded (Excluded place) seq ≡ nat_lt seq place
below_is place seq =
    elim (cases_order place seq) [
      | inl e ↦
          ap (λ o. not (is_le o)) (sym (nat_cmp_is place seq Equal e))
          ∙ sym (le-ltb seq place (omega (arith, e)))
      | inr (inl l) ↦
          ap (λ o. not (is_le o)) (sym (nat_cmp_is place seq Less l))
          ∙ sym (le-ltb seq place (omega (arith, l)))
      | inr (inr g) ↦
          ap (λ o. not (is_le o)) (sym (nat_cmp_is place seq Greater g)) ∙ sym (lt-ltb seq place g)
    ]

pub below : (place : ℕ) (rows : List (ℕ × ℕ))
    → entries_between nat_cmp Unbounded (Excluded place) rows ≡ filter
    (λ (row : ℕ × ℕ). nat_lt row.0 place) rows
below place rows =
    filter_as (λ (row : ℕ × ℕ). range_contains nat_cmp Unbounded (Excluded place) row.0)
    (λ (row : ℕ × ℕ). nat_lt row.0 place) (λ row. below_is place row.0) rows

-- the last one of the rows below a place
module _ (rows found : List (ℕ × ℕ)) (place : ℕ)
    (is : found ≡ entries_between nat_cmp Unbounded (Excluded place) rows) where
  from_last : filter (λ (row : ℕ × ℕ). nat_lt row.0 place) (reverse rows) ≡ reverse found
  from_last =
      filter_reverse (λ (row : ℕ × ℕ). nat_lt row.0 place) rows ∙ ap reverse (sym (is ∙ below place rows))

  pub last_none : found ≡ [] → last_before rows place ≡ None
  last_none e = find_no_first (λ (row : ℕ × ℕ). nat_lt row.0 place) (reverse rows) (from_last ∙ ap reverse e)

  pub last_found : (front : List (ℕ × ℕ)) (row : ℕ × ℕ) → found ≡ front ++ row ∷ []
      → last_before rows place ≡ Some row
  last_found front row e =
      find_first (λ (row : ℕ × ℕ). nat_lt row.0 place) (reverse rows) row (reverse front)
      (from_last ∙ (ap reverse e ∙ reverse-append front (row ∷ [])))

-- the first row above a place, where it is not above the bound
module _ (place bound : ℕ) where
  pub within : (rows : List (ℕ × ℕ)) (row : ℕ × ℕ)
      → find (λ (row : ℕ × ℕ). nat_lt place row.0) rows ≡ Some row
      → row.0 ≤ bound → next_after rows place (Some bound) ≡ Some row
  within [] row e l = absurd (none-some row e)
  within (other_row ∷ rows) row e l =
      elim (cases_Bool (nat_lt place other_row.0)) [
        | inl t ↦ rw (t, le-leb other_row.0 bound (upto row (rw t at e) l)) (rw t at e)
        | inr f ↦ rw f (within rows row (rw f at e) l)
      ]
    where
      upto : (row : ℕ × ℕ) → Some other_row ≡ Some row → row.0 ≤ bound → other_row.0 ≤ bound
      upto row q l = subst (λ (third_row : ℕ × ℕ). third_row.0 ≤ bound) (sym (same_Some other_row row q)) l

  pub beyond : (rows : List (ℕ × ℕ)) (row : ℕ × ℕ)
      → AllPairs (λ (third_row b : ℕ × ℕ). third_row.0 < b.0) rows
      → find (λ (row : ℕ × ℕ). nat_lt place row.0) rows ≡ Some row → bound < row.0
      → next_after rows place (Some bound) ≡ None
  beyond [] row rising e l = refl
  beyond (other_row ∷ rows) row rising e l =
      elim (cases_Bool (nat_lt place other_row.0)) [
        | inl t ↦
            find_nothing (λ (z : ℕ × ℕ). is_within place (Some bound) z.0) (other_row ∷ rows)
            (All-cons (λ (z : ℕ × ℕ). is_within place (Some bound) z.0 ≡ false) other_row rows
            (out other_row.0 (first row (rw t at e) l)) (λ k d m. out _ (later row (rw t at e) l k d m)))
        | inr f ↦ rw f (beyond rows row
            (of_tail (λ (third_row b : ℕ × ℕ). third_row.0 < b.0) other_row rows rising) (rw f at e) l)
      ]
    where
      out : (seq : ℕ) → bound < seq → (nat_lt place seq && nat_le seq bound) ≡ false
      out seq l = ap (λ b. nat_lt place seq && b) (lt-leb seq bound l) ∙ and-false (nat_lt place seq)

      first : (row : ℕ × ℕ) → Some other_row ≡ Some row → bound < row.0 → bound < other_row.0
      first row q l = subst (λ (z : ℕ × ℕ). bound < z.0) (sym (same_Some other_row row q)) l

      later : (row : ℕ × ℕ) → Some other_row ≡ Some row → bound < row.0
          → All (λ (z : ℕ × ℕ). bound < z.0) rows
      later row q l k d m =
          omega (
            arith,
            first row q l,
            of_head (λ (third_row b : ℕ × ℕ). third_row.0 < b.0) other_row rows rising k d m,
          )

pub nothing : (rows : List (ℕ × ℕ)) (place : ℕ) (bound : Option ℕ)
    → find (λ (other_row : ℕ × ℕ). nat_lt place other_row.0) rows ≡ None → next_after rows place bound ≡ None
nothing rows place None e = e
nothing [] place (Some bound) e = refl
nothing (row ∷ rows) place (Some bound) e =
    elim (cases_Bool (nat_lt place row.0)) [
      | inl t ↦ absurd (none-some row (sym (rw t at e)))
      | inr f ↦ rw f (nothing rows place (Some bound) (rw f at e))
    ]

-- the first one of the rows above a place
module _ (rows found : List (ℕ × ℕ)) (place : ℕ)
    (is : found ≡ entries_between nat_cmp (Excluded place) Unbounded rows) where
  first_above : (row : ℕ × ℕ) (rest : List (ℕ × ℕ)) → found ≡ row ∷ rest
      → find (λ (row : ℕ × ℕ). nat_lt place row.0) rows ≡ Some row
  first_above row rest e =
      find_first (λ (row : ℕ × ℕ). nat_lt place row.0) rows row rest (sym (above place rows) ∙ (sym is ∙ e))

  pub next_none : (bound : Option ℕ) → found ≡ [] → next_after rows place bound ≡ None
  next_none bound e =
      nothing rows place bound
      (find_no_first (λ (row : ℕ × ℕ). nat_lt place row.0) rows (sym (above place rows) ∙ (sym is ∙ e)))

  pub next_beyond : IsIndex rows → (bound : ℕ) (row : ℕ × ℕ) (rest : List (ℕ × ℕ)) → found ≡ row ∷ rest
      → bound < row.0 → next_after rows place (Some bound) ≡ None
  next_beyond index bound row rest e l = beyond place bound rows row index.rising (first_above row rest e) l

  pub next_within : (bound : Option ℕ) (row : ℕ × ℕ) (rest : List (ℕ × ℕ)) → found ≡ row ∷ rest
      → ((b : ℕ) → bound ≡ Some b → row.0 ≤ b) → next_after rows place bound ≡ Some row
  next_within None row rest e l = first_above row rest e
  next_within (Some b) row rest e l = within place b rows row (first_above row rest e) (l b refl)

  pub counted : length found ≡ count_after rows place
  counted = ap length (is ∙ above place rows) ∙ length-filter (λ (row : ℕ × ℕ). nat_lt place row.0) rows

-- a row above all others goes to the end
pub insert_last : {X : Type 0} (rows : List (ℕ × X)) (seq : ℕ) (document : X)
    → All (λ (r : ℕ × X). r.0 < seq) rows
    → insert_entry nat_cmp rows seq document ≡ rows ++ (seq, document) ∷ []
insert_last [] seq document all = refl
insert_last (x ∷ rows) seq document all =
    ap (λ o. match_ordering o ((seq, document) ∷ x ∷ rows) ((x.0, document) ∷ rows)
    (x ∷ insert_entry nat_cmp rows seq document))
    (sym (nat_cmp_is seq x.0 Greater (all 0 x (omega arith))))
    ∙ ap (λ l. x ∷ l) (insert_last rows seq document (All-tail (λ r. r.0 < seq) x rows all))

module _ (document : ℕ) where
  -- whether a row is of another document
  abbrev is_other : ℕ × ℕ → Bool
  is_other row = not (nat_eq row.1 document)

  none_of : (rows : List (ℕ × ℕ)) → seq_of document rows ≡ None → All (λ r. is_other r ≡ true) rows
  none_of [] e = All-nil (λ r. is_other r ≡ true)
  none_of (row ∷ rows) e =
      elim (cases_Bool (nat_eq row.1 document)) [
        | inl t ↦ absurd (none-some row.0 (sym (rw t at e)))
        | inr f ↦ All-cons (λ r. is_other r ≡ true) row rows (ap not f) (none_of rows (rw f at e))
      ]

  -- a document that has no row loses none
  pub moved_new : (rows : List (ℕ × ℕ)) (seq : ℕ) → seq_of document rows ≡ None
      → rows ++ (seq, document) ∷ [] ≡ rows_after_move rows document seq
  moved_new rows seq e =
      ap (λ l. l ++ (seq, document) ∷ []) (sym (filter_keeps is_other rows (none_of rows e)))

  pub seq_has : (P : ℕ → Type 0) (rows : List (ℕ × ℕ)) (old : ℕ)
      → All (λ (other_row : ℕ × ℕ). P other_row.0) rows → seq_of document rows ≡ Some old → P old
  seq_has P [] old all e = absurd (none-some old e)
  seq_has P (row ∷ rows) old all e =
      elim (cases_Bool (nat_eq row.1 document)) [
        | inl t ↦ subst P (same_Some row.0 old (rw t at e)) (all 0 row (omega arith))
        | inr f ↦ seq_has P rows old (All-tail (λ (other_row : ℕ × ℕ). P other_row.0) row rows all)
            (rw f at e)
      ]

  without : (rows : List (ℕ × ℕ)) (old seq : ℕ)
      → AllPairs (λ (other_row third_row : ℕ × ℕ). other_row.0 < third_row.0) rows
      → AllPairs (λ (other_row third_row : ℕ × ℕ). other_row.1 ≢ third_row.1) rows
      → seq_of document rows ≡ Some old
      → remove_entry (is_at (nat_cmp old)) (rows ++ (seq, document) ∷ []) ≡ rows_after_move rows document seq
  without [] old seq rising once e = absurd (none-some old e)
  without (row ∷ rows) old seq rising once e =
      elim (cases_Bool (nat_eq row.1 document)) [
        | inl t ↦
            ap (λ third_row. cond third_row (rows ++ (seq, document) ∷ [])
            (row ∷ remove_entry (is_at (nat_cmp old)) (rows ++ (seq, document) ∷ [])))
            (ap is_eq (sym (nat_cmp_is old row.0 Equal (sym (same_Some row.0 old (rw t at e))))))
            ∙ (ap (λ l. l ++ (seq, document) ∷ [])
            (sym (filter_keeps is_other rows (others (eqb-true row.1 document t))))
            ∙ ap (λ third_row. cond (not third_row) (row ∷ filter is_other rows) (filter is_other rows)
            ++ (seq, document) ∷ [])
            (sym t))
        | inr f ↦
            ap (λ third_row. cond third_row (rows ++ (seq, document) ∷ [])
            (row ∷ remove_entry (is_at (nat_cmp old)) (rows ++ (seq, document) ∷ [])))
            (ap is_eq
            (sym (nat_cmp_is old row.0 Greater
            (seq_has (λ z. row.0 < z) rows old
            (of_head (λ (other_row third_row : ℕ × ℕ). other_row.0 < third_row.0) row rows rising)
            (rw f at e))))) ∙ (ap (λ l. row ∷ l)
            (without rows old seq (of_tail
            (λ (other_row third_row : ℕ × ℕ). other_row.0 < third_row.0) row rows rising)
            (of_tail (λ (other_row third_row : ℕ × ℕ). other_row.1 ≢ third_row.1) row rows once) (rw f at e))
            ∙ ap (λ third_row. cond (not third_row) (row ∷ filter is_other rows) (filter is_other rows)
            ++ (seq, document) ∷ [])
            (sym f))
      ]
    where
      others : row.1 ≡ document → All (λ r. is_other r ≡ true) rows
      others q k d m =
          ap not
          (false_from_ne_true _
          (λ h. of_head (λ (other_row third_row : ℕ × ℕ). other_row.1 ≢ third_row.1) row rows once k d m
          (q ∙ sym (eqb-true _ document h))))

  -- a document that has a row loses that row
  pub moved_old : (rows : List (ℕ × ℕ)) (old seq : ℕ) → IsIndex rows → seq_of document rows ≡ Some old
      → remove_entry (is_at (nat_cmp old)) (rows ++ (seq, document) ∷ []) ≡ rows_after_move rows document seq
  moved_old rows old seq index e = without rows old seq index.rising index.once e

  -- the rows after a move are those of an index
  pub index_moved : (rows : List (ℕ × ℕ)) (seq : ℕ) → IsIndex rows → 0 < seq
      → All (λ (row : ℕ × ℕ). row.0 < seq) rows → IsIndex (rows_after_move rows document seq)
  index_moved rows seq index positive all = record {
    rising =
        all_pairs_push (λ (other_row third_row : ℕ × ℕ). other_row.0 < third_row.0) (filter is_other rows)
        (seq, document)
        (AllPairs-filter (λ (other_row third_row : ℕ × ℕ). other_row.0 < third_row.0) is_other rows
        index.rising)
        (All-filter is_other (λ (row : ℕ × ℕ). row.0 < seq) rows all);
    once =
        all_pairs_push (λ (other_row third_row : ℕ × ℕ). other_row.1 ≢ third_row.1) (filter is_other rows)
        (seq, document)
        (AllPairs-filter (λ (other_row third_row : ℕ × ℕ). other_row.1 ≢ third_row.1) is_other rows
        index.once)
        (λ k d m. other (get_or (filter is_other rows) k d) (filter_passes is_other rows k d m));
    positive =
        All-push (λ (row : ℕ × ℕ). 0 < row.0) (filter is_other rows) (seq, document)
        (All-filter is_other (λ (row : ℕ × ℕ). 0 < row.0) rows index.positive) positive;
  }
    where
      other : (row : ℕ × ℕ) → is_other row ≡ true → row.1 ≢ document
      other row h e = both_ways (is_other row) (ap not (eq-eqb row.1 document e)) h

-- rows that were seen as a value, and those after an insertion and a removal
module _ (document seq : ℕ) (value rows inserted : List (ℕ × ℕ))
    (seen : rows ≡ value) (above_all : All (λ (row : ℕ × ℕ). row.0 < seq) value)
    (by_insert : inserted ≡ insert_entry nat_cmp rows seq document) where
  at_end : inserted ≡ value ++ (seq, document) ∷ []
  at_end =
      by_insert
      ∙ (ap (λ l. insert_entry nat_cmp l seq document) seen ∙ insert_last value seq document above_all)

  pub after_insert : (old : Option ℕ) → seq_of document value ≡ old → old ≡ None
      → inserted ≡ rows_after_move value document seq
  after_insert old own is = at_end ∙ moved_new document value seq (own ∙ is)

  pub after_remove : (removed : List (ℕ × ℕ)) (old : Option ℕ) (key : ℕ) → IsIndex rows
      → seq_of document value ≡ old → old ≡ Some key → removed ≡ remove_entry (is_at (nat_cmp key)) inserted
      → removed ≡ rows_after_move value document seq
  after_remove removed old key index own is by_remove =
      by_remove
      ∙ (ap (remove_entry (is_at (nat_cmp key))) at_end
      ∙ moved_old document value key seq (subst IsIndex seen index) (own ∙ is))

pub index_after : (document seq : ℕ) (value rows after : List (ℕ × ℕ)) → rows ≡ value → IsIndex rows
    → 0 < seq → All (λ (row : ℕ × ℕ). row.0 < seq) value → after ≡ rows_after_move value document seq → IsIndex after
index_after document seq value rows after seen index positive all is =
    subst IsIndex (sym is) (index_moved document value seq (subst IsIndex seen index) positive all)
