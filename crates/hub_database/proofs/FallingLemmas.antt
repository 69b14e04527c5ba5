-- Rows from the last down, a row at a time.
use Rattle.std.proofs.Common.{◌≡◌, ℕ, zero, suc, ◌+◌, ◌-◌, ◌<◌, ◌≤◌, List, [], ◌∷◌, ◌++◌, length, Bool, true}
use Rattle.std.proofs.Common.{false, ◌&&◌, ap, refl, sym, ◌∙◌, subst, arith, inl, inr, find, filter, map}
use Rattle.std.proofs.Common.{nat_lt, Contains, AllPairs, append_assoc}
use Rattle.std.specs.Prelude.{Option, Some, None, get_or, slice_get, take, reverse, max, count_by}
use Rattle.std.specs.Prelude.{if◌then◌else◌}
use Rattle.std.proofs.lemmas.Bool.{and_parts, cases_Bool, ltb-true, ltb-false, lt-ltb, le-ltb}
use Rattle.std.proofs.lemmas.List.{append-nil, length_push, reverse-append, length-reverse}
use Rattle.std.proofs.lemmas.List.Elements.{All-contains, All-contains_itself}
use Rattle.std.proofs.lemmas.List.Quantifiers.{all_pairs_push}
use Rattle.std.proofs.lemmas.List.Sums.{length-filter, sum_by-cons}
use Rattle.std.proofs.lemmas.Option.{same_Some, none-some}
use Rattle.hub_index.proofs.IndexLemmas.{of_head, of_tail, filter_reverse}
use Rattle.hub_model.specs.Current.{Current, current_from, current, pending, is_edited}
use Rattle.hub_model.specs.Descending.{Descending, at_most, descending, falling, falling_rows, lowest}
use Rattle.hub_model.specs.Feed.{Params, since_of}
use Rattle.hub_model.specs.Filter.{is_passing}
use Rattle.hub_model.specs.Journal.{Edit}
use Rattle.hub_model.specs.Row.{ChangeRow, row_of}
use Rattle.hub_model.proofs.Lists.{contains_none, contains_here, contains_there, contains_cases}
use Rattle.hub_model.proofs.Laws.{rows_rise}
use Rattle.hub_model.proofs.Shown.{find_is}
use Rattle.hub_model.proofs.Tests.{filter_in}
use Rattle.hub_database.specs.Falling.{lowest_row, most_of}
use Rattle.hub_database.specs.Laid.{rows_below}
use Rattle.hub_index.proofs.ListLemmas.{contains_reverse}
use Rattle.hub_database.proofs.ListLemmas.{count_filter}

pub filter_agree : {A : Type 0} (p q : A → Bool) (xs : List A) → ((x : A) → Contains xs x → p x ≡ q x)
    → filter p xs ≡ filter q xs
filter_agree p q [] h = refl
filter_agree p q (x ∷ xs) h =
    ap (λ b. if b then (x ∷ filter p xs) else filter p xs) (h x (contains_here x xs))
    ∙ ap (λ ys. if q x then (x ∷ ys) else ys) (filter_agree p q xs (λ y c. h y (contains_there x y xs c)))

filter_nothing : {A : Type 0} (p : A → Bool) (xs : List A) → ((x : A) → Contains xs x → p x ≡ false)
    → filter p xs ≡ []
filter_nothing p [] h = refl
filter_nothing p (x ∷ xs) h =
    ap (λ b. if b then (x ∷ filter p xs) else filter p xs) (h x (contains_here x xs))
    ∙ filter_nothing p xs (λ y c. h y (contains_there x y xs c))

pairs_reverse : {A : Type 0} (R : A → A → Type 0) (xs : List A) → AllPairs R xs
    → AllPairs (λ a b. R b a) (reverse xs)
pairs_reverse R [] pairs = λ i j d a b. absurd (omega arith)
pairs_reverse R (x ∷ xs) pairs =
    subst (AllPairs (λ a b. R b a)) (sym (reverse-append (x ∷ []) xs))
    (all_pairs_push (λ a b. R b a) (reverse xs) x (pairs_reverse R xs (of_tail R x xs pairs)) (λ k d l.
    All-contains (R x) xs (get_or (reverse xs) k d) (of_head R x xs pairs)
    (contains_reverse xs (get_or (reverse xs) k d) (All-contains_itself (reverse xs) k d l))))

take_nothing : {A : Type 0} (n : ℕ) → take {A = A} n [] ≡ []
take_nothing zero = refl
take_nothing (suc n) = refl

contains_take : {A : Type 0} (n : ℕ) (xs : List A) (x : A) → Contains (take n xs) x → Contains xs x
contains_take n [] x h = subst (λ ys. Contains ys x) (take_nothing n) h
contains_take zero (y ∷ xs) x h = absurd (contains_none x h)
contains_take (suc n) (y ∷ xs) x h =
    elim (contains_cases y x (take n xs) h) [
      | inl e ↦ subst (λ z. Contains (y ∷ xs) z) e (contains_here y xs)
      | inr m ↦ contains_there y x xs (contains_take n xs x m)
    ]

contains_most : {A : Type 0} (limit : Option ℕ) (xs : List A) (x : A) → Contains (at_most limit xs) x
    → Contains xs x
contains_most None xs x h = h
contains_most (Some limit) xs x h = contains_take (max 1 limit) xs x h

-- the rows from the last down
abbrev pub falling_all : List Edit → List Current
falling_all journal = reverse (current journal)

-- the rows below a place that pass a test
abbrev pub below : (Current → Bool) → ℕ → List Current → List Current
below q place rows = filter (λ (row : Current). nat_lt row.seq place && q row) rows

module _ (q : Current → Bool) where
  -- of rows that fall, a step finds the first below a place, and the rest of them lies below this row
  step_some : (rows : List Current) (place : ℕ) (row : Current)
      → AllPairs (λ (a b : Current). b.seq < a.seq) rows
      → find (λ (row : Current). nat_lt row.seq place) rows ≡ Some row
      → below q place rows ≡ (if q row then (row ∷ below q row.seq rows) else below q row.seq rows)
  step_some [] place row falls e = absurd (none-some row e)
  step_some (other ∷ rows) place row falls e =
      elim (cases_Bool (nat_lt other.seq place)) [
        | inl t ↦ here t (same_Some other row (rw t at e))
        | inr f ↦
            there f (rw f at e)
            (step_some rows place row (of_tail (λ (a b : Current). b.seq < a.seq) other rows falls)
            (rw f at e))
      ]
    where
      lower : (d : Current) → Contains rows d → d.seq < other.seq
      lower d h =
          All-contains (λ (d : Current). d.seq < other.seq) rows d
          (of_head (λ (a b : Current). b.seq < a.seq) other rows falls) h

      not_itself : (n : ℕ) → nat_lt n n ≡ false
      not_itself n = le-ltb n n (omega arith)

      here : nat_lt other.seq place ≡ true → other ≡ row
          → below q place (other ∷ rows)
          ≡ (if q row then (row ∷ below q row.seq (other ∷ rows)) else below q row.seq (other ∷ rows))
      here t s =
          let high : other.seq < place = ltb-true other.seq place t in
          let rest : below q place rows ≡ below q other.seq rows =
          filter_agree (λ (d : Current). nat_lt d.seq place && q d)
          (λ (d : Current). nat_lt d.seq other.seq && q d) rows
          (λ d h.
          let l = lower d h in
          ap (λ b. b && q d) (lt-ltb d.seq place (omega (arith, l, high)) ∙ sym (lt-ltb d.seq other.seq l)))
          in
          let own : below q other.seq (other ∷ rows) ≡ below q other.seq rows =
          ap (λ b. if b && q other then (other ∷ below q other.seq rows) else below q other.seq rows)
          (not_itself other.seq) in
          ap (λ b. if b && q other then (other ∷ below q place rows) else below q place rows) t
          ∙ (ap (λ (ys : List Current). if q other then (other ∷ ys) else ys) (rest ∙ sym own)
          ∙ ap (λ (z : Current). if q z then (z ∷ below q z.seq (other ∷ rows)) else
          below q z.seq (other ∷ rows)) s)

      there : nat_lt other.seq place ≡ false → find (λ (row : Current). nat_lt row.seq place) rows ≡ Some row
          → below q place rows ≡ (if q row then (row ∷ below q row.seq rows) else below q row.seq rows)
          → below q place (other ∷ rows)
          ≡ (if q row then (row ∷ below q row.seq (other ∷ rows)) else below q row.seq (other ∷ rows))
      there f found rest =
          let l = lower row (find_is (λ (row : Current). nat_lt row.seq place) rows row found).1 in
          let own : below q row.seq (other ∷ rows) ≡ below q row.seq rows =
          ap (λ b. if b && q other then (other ∷ below q row.seq rows) else below q row.seq rows)
          (le-ltb other.seq row.seq (omega (arith, l))) in
          ap (λ b. if b && q other then (other ∷ below q place rows) else below q place rows) f
          ∙ (rest ∙ ap (λ (ys : List Current). if q row then (row ∷ ys) else ys) (sym own))

  -- where a step finds no row, no row is left
  step_none : (rows : List Current) (place : ℕ)
      → find (λ (other : Current). nat_lt other.seq place) rows ≡ None → below q place rows ≡ []
  step_none [] place e = refl
  step_none (row ∷ rows) place e =
      elim (cases_Bool (nat_lt row.seq place)) [
        | inl t ↦ absurd (none-some row (sym (rw t at e)))
        | inr f ↦
            ap (λ b. if b && q row then (row ∷ below q place rows) else below q place rows) f
            ∙ step_none rows place (rw f at e)
      ]

-- whether a row passes, and lies above the feed's beginning
abbrev pub is_shown : Params → ℕ → Current → Bool
is_shown asked since row = nat_lt since row.seq && is_passing asked.filter row.id

current_few : (n : ℕ) (journal : List Edit) → length (current_from n journal) ≤ length journal
current_few n [] = omega arith
current_few n (edit ∷ journal) = from (is_edited edit.id journal) (current_few (n + 1) journal)
  where
    from : (b : Bool) → length (current_from (n + 1) journal) ≤ length journal
        → length (if b then current_from (n + 1) journal
        else (record { seq = n; id = edit.id } ∷ current_from (n + 1) journal))
        ≤ length (edit ∷ journal)
    from true h = omega (arith, h)
    from false h = omega (arith, h)

take_all : {A : Type 0} (n : ℕ) (xs : List A) → length xs ≤ n → take n xs ≡ xs
take_all n [] h = take_nothing n
take_all zero (x ∷ xs) h = absurd (omega arith)
take_all (suc n) (x ∷ xs) h = ap (λ ys. x ∷ ys) (take_all n xs (omega arith))

module _ (journal : List Edit) (asked : Params) (since : ℕ) where
  abbrev pub show : Current → ChangeRow
  show row = row_of journal asked.style asked.include_docs row

  abbrev pub left : ℕ → List Current
  left place = below (is_shown asked since) place (falling_all journal)

  -- all rows that are shown
  abbrev pub all_shown : ℕ → List ChangeRow
  all_shown most = map show (take most (filter (is_shown asked since) (falling_all journal)))

  falls : AllPairs (λ (row other : Current). other.seq < row.seq) (falling_all journal)
  falls = pairs_reverse (λ (row other : Current). row.seq < other.seq) (current journal) (rows_rise journal)

  -- at the beginning all rows are left
  pub begins : (most place : ℕ) → place ≡ length journal + 1
      → all_shown most ≡ [] ++ map show (take (most - 0) (left place))
  begins most place e =
      let whole : most ≡ most - 0 = omega arith in
      ap (λ cs. map show (take most cs))
      (filter_agree (is_shown asked since)
      (λ (row : Current). nat_lt row.seq place && is_shown asked since row)
      (falling_all journal) (λ row h.
      let w = rows_below journal row (contains_reverse (current journal) row h) in
      sym (ap (λ b. b && is_shown asked since row) (lt-ltb row.seq place (omega (arith, w, e))))))
      ∙ ap (λ n. map show (take n (left place))) whole

  module _ (place : ℕ) (c : Current)
      (found : Some c ≡ find (λ (c : Current). nat_lt c.seq place) (falling_all journal)) where
    pub goes_down : c.seq < place
    goes_down =
        ltb-true c.seq place (find_is (λ (c : Current). nat_lt c.seq place) (falling_all journal) c
        (sym found)).0

    pub is_current : Contains (current journal) c
    is_current =
        contains_reverse (current journal) c
        (find_is (λ (c : Current). nat_lt c.seq place) (falling_all journal) c (sym found)).1

    step : left place ≡ (if is_shown asked since c then (c ∷ left c.seq) else left c.seq)
    step = step_some (is_shown asked since) (falling_all journal) place c falls (sym found)

    -- a row that does not pass leaves the rows below it
    pub passed_by : since < c.seq → is_passing asked.filter c.id ≡ false → left place ≡ left c.seq
    passed_by h f =
        step
        ∙ ap (λ b. if b then (c ∷ left c.seq) else left c.seq)
        (ap (λ b. b && is_passing asked.filter c.id) (lt-ltb since c.seq h) ∙ f)

    -- and a row that passes is taken up
    pub taken_up : since < c.seq → is_passing asked.filter c.id ≡ true → left place ≡ c ∷ left c.seq
    taken_up h t =
        step
        ∙ ap (λ b. if b then (c ∷ left c.seq) else left c.seq)
        (ap (λ b. b && is_passing asked.filter c.id) (lt-ltb since c.seq h) ∙ t)

    -- where the row does not lie above the feed's beginning, no row is left
    pub past_since : c.seq ≤ since → left place ≡ []
    past_since h =
        step
        ∙ (ap (λ b. if b then (c ∷ left c.seq) else left c.seq)
        (ap (λ b. b && is_passing asked.filter c.id) (le-ltb since c.seq h))
        ∙ filter_nothing (λ (d : Current). nat_lt d.seq c.seq && is_shown asked since d)
        (falling_all journal) (λ d m. low d))
      where
        low : (d : Current) → (nat_lt d.seq c.seq && (nat_lt since d.seq && is_passing asked.filter d.id)) ≡ false
        low d = elim (cases_Bool (nat_lt d.seq c.seq)) [
          | inl t ↦
              ap (λ b. b && is_shown asked since d) t
              ∙ ap (λ b. b && is_passing asked.filter d.id)
              (le-ltb since d.seq (let l : d.seq < c.seq = ltb-true d.seq c.seq t in omega (arith, l, h)))
          | inr f ↦ ap (λ b. b && is_shown asked since d) f
        ]

  -- no row is left
  pub none_left : (place : ℕ) → None ≡ find (λ (row : Current). nat_lt row.seq place) (falling_all journal)
      → left place ≡ []
  none_left place e = step_none (is_shown asked since) (falling_all journal) place (sym e)

  take_none : (n : ℕ) → map show (take n []) ≡ []
  take_none zero = refl
  take_none (suc n) = refl

  -- where no row is left, the rows so far are all rows
  pub rows_all : (most : ℕ) (rows : List ChangeRow) (place : ℕ)
      → all_shown most ≡ rows ++ map show (take (most - length rows) (left place)) → left place ≡ []
      → rows ≡ all_shown most
  rows_all most rows place h e =
      sym
      (h
      ∙ (ap (λ cs. rows ++ map show (take (most - length rows) cs)) e
      ∙ (ap (λ rs. rows ++ rs) (take_none (most - length rows)) ∙ append-nil rows)))

  -- where there are enough rows, the rows so far are all rows
  pub rows_enough : (most : ℕ) (rows : List ChangeRow) (place : ℕ)
      → all_shown most ≡ rows ++ map show (take (most - length rows) (left place)) → most ≤ length rows
      → rows ≡ all_shown most
  rows_enough most rows place h e =
      let none : most - length rows ≡ 0 = omega (arith, e) in
      sym (h ∙ (ap (λ n. rows ++ map show (take n (left place))) none ∙ append-nil rows))

  -- one row more was taken up
  pub rows_more : (most : ℕ) (rows rows' : List ChangeRow) (place : ℕ) (c : Current) (row : ChangeRow)
      → length rows < most → all_shown most ≡ rows ++ map show (take (most - length rows) (left place))
      → left place ≡ c ∷ left c.seq
      → row ≡ show c → rows' ≡ rows ++ row ∷ []
      → all_shown most ≡ rows' ++ map show (take (most - length rows') (left c.seq))
  rows_more most rows rows' place c row few h e is more =
      let longer : length rows' ≡ length rows + 1 = ap length more ∙ length_push rows row in
      let one : most - length rows ≡ suc (most - length rows') = omega (arith, longer, few) in
      h
      ∙ (ap (λ cs. rows ++ map show (take (most - length rows) cs)) e
      ∙ (ap (λ n. rows ++ map show (take n (c ∷ left c.seq))) one
      ∙ (sym (append_assoc rows (show c ∷ []) (map show (take (most - length rows') (left c.seq))))
      ∙ ap (λ rs. rs ++ map show (take (most - length rows') (left c.seq)))
      (ap (λ r. rows ++ r ∷ []) (sym is) ∙ sym more))))

  more_than_none : (rows : List ChangeRow) (row : ChangeRow) (more : List ChangeRow) → rows ++ row ∷ more ≡ []
      → ⊥
  more_than_none [] row more e = absurd (cc)
  more_than_none (x ∷ rows) row more e = absurd (cc)

  -- a row that is taken up while there are too few is one of the rows that are shown
  row_shown : (most : ℕ) (rows : List ChangeRow) (place : ℕ) (row : Current) → length rows < most
      → all_shown most ≡ rows ++ map show (take (most - length rows) (left place))
      → left place ≡ row ∷ left row.seq → ¬ (all_shown most ≡ [])
  row_shown most rows place row few h e = λ none.
      let one : most - length rows ≡ suc (most - length rows - 1) = omega (arith, few) in
      more_than_none rows (show row) (map show (take (most - length rows - 1) (left row.seq)))
      (ap (λ n. rows ++ map show (take n (row ∷ left row.seq))) (sym one)
      ∙ (ap (λ cs. rows ++ map show (take (most - length rows) cs)) (sym e) ∙ (sym h ∙ none)))

  -- all rows that are shown are the rows of the answer
  pub shown_all : all_shown (most_of asked.limit (length journal)) ≡ map show
      (falling_rows journal asked since)
  shown_all =
      ap (map show)
      (ap (take (most_of asked.limit (length journal)))
      (filter_reverse (is_shown asked since) (current journal)) ∙ from asked.limit)
    where
      few : length (reverse (filter (is_shown asked since) (current journal))) ≤ length journal
      few =
          omega (
            arith,
            length-reverse (filter (is_shown asked since) (current journal)),
            count_filter (is_shown asked since) (current journal),
            current_few 1 journal,
          )

      from : (limit : Option ℕ)
          → take (most_of limit (length journal)) (reverse (filter (is_shown asked since) (current journal)))
          ≡ at_most limit (reverse (filter (is_shown asked since) (current journal)))
      from None = take_all (length journal) (reverse (filter (is_shown asked since) (current journal))) few
      from (Some limit) = refl

  -- so where a row is taken up the answer has a row
  pub row_due : (most : ℕ) (rows : List ChangeRow) (place : ℕ) (row : Current)
      → most ≡ most_of asked.limit (length journal) → length rows < most
      → all_shown most ≡ rows ++ map show (take (most - length rows) (left place))
      → left place ≡ row ∷ left row.seq
      → ¬ (falling_rows journal asked since ≡ [])
  row_due most rows place row is few h e =
      λ none. row_shown most rows place row few h e (ap all_shown is ∙ (shown_all ∙ ap (map show) none))

  nothing_shown : (rows : List Current) → map show rows ≡ [] → rows ≡ []
  nothing_shown [] e = refl
  nothing_shown (row ∷ rows) e = absurd (cc)

  -- the answer has a row where the falling rows are not empty
  pub answer_some : (life : ℕ) → since ≡ since_of asked.since (length journal) life
      → ¬ (falling_rows journal asked since ≡ [])
      → ¬ ((descending journal life asked).rows ≡ [])
  answer_some life begin some =
      λ e. some (nothing_shown (falling_rows journal asked since)
      (ap (λ n. map (row_of journal asked.style asked.include_docs) (falling_rows journal asked n)) begin
      ∙ e))

  -- each row of the answer lies above the feed's beginning
  pub rows_above : (row : Current) → Contains (falling_rows journal asked since) row → since < row.seq
  rows_above row h =
      let i =
      filter_in (is_shown asked since) (current journal) row
      (contains_reverse (filter (is_shown asked since) (current journal)) row
      (contains_most asked.limit (reverse (filter (is_shown asked since) (current journal))) row h)) in
      ltb-true since row.seq (and_parts (nat_lt since row.seq) (is_passing asked.filter row.id) i.1).0

  -- the lowest row that is shown
  lowest_shown : (rows : List Current) → lowest_row since (map show rows) ≡ lowest since rows
  lowest_shown [] = refl
  lowest_shown (row ∷ []) = refl
  lowest_shown (row ∷ other ∷ rows) = lowest_shown (other ∷ rows)

  lowest_high : (rows : List Current) → ((row : Current) → Contains rows row → since < row.seq)
      → since ≤ lowest since rows
  lowest_high [] h = omega arith
  lowest_high (row ∷ []) h = let l = h row (contains_here row []) in omega (arith, l)
  lowest_high (row ∷ other ∷ rows) h =
      lowest_high (other ∷ rows) (λ e m. h e (contains_there row e (other ∷ rows) m))

  module _ (rows : List ChangeRow) (last : ℕ) (all : rows ≡ map show (falling_rows journal asked since))
      (low : last ≡ lowest_row since rows) where
    last_is : last ≡ lowest since (falling_rows journal asked since)
    last_is = low ∙ (ap (lowest_row since) all ∙ lowest_shown (falling_rows journal asked since))

    pub last_high : since ≤ last
    last_high = let l = lowest_high (falling_rows journal asked since) rows_above in omega (arith, l, last_is)

    -- the whole answer
    pub answer_is : (life count : ℕ)
        → count ≡ count_by (λ (c : Current). nat_lt since c.seq && nat_lt c.seq last) (current journal)
        → since ≡ since_of asked.since (length journal) life
        → ◌≡◌ {A = Descending} (record { rows = rows; last_seq = last; pending = count; life = life })
        (descending journal life asked)
    answer_is life count many begin =
        ap (λ (n : ℕ). record { rows = rows; last_seq = last; pending = n; life = life }) many
        ∙ (ap (λ (n : ℕ). record {
          rows = rows;
          last_seq = n;
          pending = count_by (λ (c : Current). nat_lt since c.seq && nat_lt c.seq n) (current journal);
          life = life;
        }) last_is
        ∙ (ap (λ (rs : List ChangeRow). record {
          rows = rs;
          last_seq = lowest since (falling_rows journal asked since);
          pending =
              count_by (λ (c : Current).
              nat_lt since c.seq && nat_lt c.seq (lowest since (falling_rows journal asked since)))
              (current journal);
          life = life;
        }) all
        ∙ ap (λ (n : ℕ). falling journal life asked n (falling_rows journal asked n)) begin))

-- the last of falling rows is the lowest
pub lowest_last : (since : ℕ) (rows : List ChangeRow) (k : ℕ) (row : ChangeRow) → k ≡ length rows - 1
    → Some row ≡ slice_get rows k → row.seq ≡ lowest_row since rows
lowest_last since [] k row e g = absurd (none-some row (sym g))
lowest_last since (other ∷ []) zero row e g = ap (λ (z : ChangeRow). z.seq) (same_Some row other g)
lowest_last since (other ∷ []) (suc k) row e g = absurd (omega arith)
lowest_last since (other ∷ y ∷ rows) zero row e g = absurd (omega arith)
lowest_last since (other ∷ y ∷ rows) (suc k) row e g = lowest_last since (y ∷ rows) k row (omega arith) g

-- the number of rows between two places
abbrev one : Bool → ℕ
one b = if b then 1 else 0

module _ (p q : Current → Bool) where
  few_count : ((other : Current) → one (p other) ≤ one (q other)) → (rows : List Current)
      → count_by p rows ≤ count_by q rows
  few_count h [] = omega arith
  few_count h (row ∷ rows) =
      let rest = few_count h rows in
      let here = h row in
      omega (
        arith,
        rest,
        here,
        sum_by-cons (λ (other : Current). one (p other)) row rows,
        sum_by-cons (λ (other : Current). one (q other)) row rows,
      )

  split_count : (r : Current → Bool) → ((other : Current) → one (p other) ≡ one (q other) + one (r other))
      → (rows : List Current) → count_by p rows ≡ count_by q rows + count_by r rows
  split_count r h [] = omega arith
  split_count r h (row ∷ rows) =
      let rest = split_count r h rows in
      let here = h row in
      omega (
        arith,
        rest,
        here,
        sum_by-cons (λ (other : Current). one (p other)) row rows,
        sum_by-cons (λ (other : Current). one (q other)) row rows,
        sum_by-cons (λ (other : Current). one (r other)) row rows,
      )

module _ (since low : ℕ) where
  abbrev is_between : Current → Bool
  is_between row = nat_lt since row.seq && nat_lt row.seq low

  -- where the two places are the same, no row lies between
  none_between : since ≡ low → (row : Current) → is_between row ≡ false
  none_between e row = elim (cases_Bool (nat_lt since row.seq)) [
    | inl t ↦
        ap (λ b. b && nat_lt row.seq low) t
        ∙ le-ltb row.seq low (let l : since < row.seq = ltb-true since row.seq t in omega (arith, l, e))
    | inr f ↦ ap (λ b. b && nat_lt row.seq low) f
  ]

  parts : since < low → (row : Current)
      → one (nat_lt since row.seq) ≡ one (is_between row) + one (nat_lt (low - 1) row.seq)
  parts h row = elim (cases_Bool (nat_lt row.seq low)) [
    | inl t ↦
        let l : row.seq < low = ltb-true row.seq low t in
        rw (t, le-ltb (low - 1) row.seq (omega (arith, l))) (under (nat_lt since row.seq))
    | inr f ↦
        let l : low ≤ row.seq = ltb-false row.seq low f in
        rw (f, lt-ltb (low - 1) row.seq (omega (arith, l, h)), lt-ltb since row.seq (omega (arith, l, h)))
        refl
  ]
    where
      under : (b : Bool) → one b ≡ one (b && true) + 0
      under true = refl
      under false = refl

  pub between : (rows : List Current) → since ≤ low
      → pending rows since - pending rows (low - 1) ≡ count_by is_between rows
  between rows h = elim (cases_Bool (nat_lt since low)) [
    | inl t ↦
        let s =
        split_count (λ (row : Current). nat_lt since row.seq) is_between
        (λ (row : Current). nat_lt (low - 1) row.seq)
        (parts (ltb-true since low t)) rows in
        omega (arith, s)
    | inr f ↦ let e : since ≡ low = let l : low ≤ since = ltb-false since low f in omega (arith, l, h) in
        let none : count_by is_between rows ≡ 0 = count_nothing rows (none_between e) in
        let few =
        few_count (λ (row : Current). nat_lt since row.seq)
        (λ (row : Current). nat_lt (low - 1) row.seq) (lower e) rows in
        omega (arith, none, few)
  ]
    where
      count_nothing : (rows : List Current) → ((row : Current) → is_between row ≡ false)
          → count_by is_between rows ≡ 0
      count_nothing rows h =
          sym (length-filter is_between rows) ∙ ap length (filter_nothing is_between rows (λ row m. h row))

      lower : since ≡ low → (row : Current) → one (nat_lt since row.seq) ≤ one (nat_lt (low - 1) row.seq)
      lower e row = elim (cases_Bool (nat_lt since row.seq)) [
        | inl t ↦
            let l : since < row.seq = ltb-true since row.seq t in
            rw (t, lt-ltb (low - 1) row.seq (omega (arith, l, e))) (omega arith)
        | inr f ↦ rw f (omega arith)
      ]
