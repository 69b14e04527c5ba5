-- The rows of a feed of listed documents: how they are found and searched, and which steps keep them.
use Rattle.std.proofs.Common.{◌≡◌, ◌≢◌, ℕ, suc, zero, ◌+◌, ◌-◌, ◌<◌, ◌≤◌, List, [], ◌∷◌, ◌++◌, length, map}
use Rattle.std.proofs.Common.{Bool, true, false, ◌&&◌, nat_lt, nat_le, nat_eq, inl, inr, refl, sym, ◌∙◌, ap}
use Rattle.std.proofs.Common.{subst, arith, take, String, Global, string_bytes, Bor, HoldsAt, MatchOption}
use Rattle.std.specs.Prelude.{Option, Some, None, option_map, filter, find, Contains, IfSome, get_or}
use Rattle.std.specs.Prelude.{slice_get, ◌⊎◌, if◌then◌else◌}
use Rattle.std.specs.List.{AllPairs, cons_option, filter_map, list_any}
use Rattle.std.specs.Option.{option_copied}
use Rattle.std.specs.List.Sorted.{IsPartitionPoint, IsPartitionedBy}
use Rattle.std.specs.Str.{bytes_eq}
use Rattle.std.proofs.lemmas.Bool.{cases_Bool, both_ways, and_parts, lt-ltb, le-ltb, leb-true, leb-false}
use Rattle.std.proofs.lemmas.Bool.{le-leb, lt-leb}
use Rattle.std.proofs.lemmas.List.{get_or_default, map-append, take_more}
use Rattle.std.proofs.lemmas.List.Elements.{filter_map-append}
use Rattle.std.proofs.lemmas.List.Kept.{AllPairs-filter}
use Rattle.std.proofs.lemmas.Option.{none-some, same_Some}
use Rattle.std.proofs.lemmas.Slice.Eq.{bytes_eq-Decides}
use Rattle.hub_model.specs.Current.{Current, current}
use Rattle.hub_model.specs.Entries.{with_change, entry_in, without}
use Rattle.hub_model.specs.Feed.{Due, DueEnd, DueGone, DueNothing, DueRow, Ending, Feed, Params, feed_after_due}
use Rattle.hub_model.specs.Feed.{after_nothing, next_due, end, expired_feed, is_in_reach, is_open, is_within, is_waiting_mode}
use Rattle.hub_model.specs.Filter.{Design, DocIds, Everything, Filter, is_passing}
use Rattle.hub_model.specs.Journal.{Edit}
use Rattle.hub_document.proofs.PlaceLemmas.{copied_at}
use Rattle.hub_index.proofs.IndexLemmas.{find_nothing}
use Rattle.hub_model.proofs.Due.{within_below}
use Rattle.hub_model.proofs.Entries.{other_added, other_changed, other_without, own_changed, own_without}
use Rattle.hub_model.proofs.Laws.{rows_rise}
use Rattle.hub_model.proofs.Lists.{contains_none, contains_here, contains_there, contains_cases, same_number}
use Rattle.hub_model.proofs.Rows.{current_within}
use Rattle.hub_model.proofs.Shown.{find_is}
use Rattle.hub_model.proofs.Tests.{any_at, at_any, filter_in, in_filter}
use Rattle.hub_model.specs.declared.feeds.Style.{Style}
use Rattle.hub_feed.specs.Feeds.{FeedList, ended_entry, feeds_of, over}
use Rattle.hub_feed.specs.Host.{hosted_after_next, feeds_behind, hosted_after_hand}
use Rattle.hub_feed.specs.Reach.{IsFirst, first_listed, listed_in}
use Rattle.hub_feed.specs.declared.next.Next.{Next}
use Rattle.hub_feed.specs.declared.next.Next.TheVariants.{Give, Gone, Nothing}
use Rattle.hub_feed.proofs.CurrentLemmas.{contains_map, next_ahead}
use Rattle.hub_feed.proofs.FeedsLemmas.{pairs_map}
use Rattle.hub_feed.proofs.ListedLemmas.{one_parts}
use Rattle.hub_database.specs.Listing.{IsListing, IsPartedAt, passing_sequences, seq_of_row}
use Rattle.hub_database.specs.declared.listing.Listing.{Listing}

-- of rising numbers those after the first are above it, and they rise
above_first : (x : ℕ) (xs : List ℕ) → AllPairs (λ m n. m < n) (x ∷ xs) → (n : ℕ) → Contains xs n → x < n
above_first x xs rise n (k, l, e) = subst (λ z. x < z) e (rise 0 (suc k) n (omega arith) (omega arith))

rest_rises : (x : ℕ) (xs : List ℕ) → AllPairs (λ m n. m < n) (x ∷ xs) → AllPairs (λ m n. m < n) xs
rest_rises x xs rise i j d lt inside = rise (suc i) (suc j) d (omega arith) (omega arith)

-- of two lists that rise and have the same numbers the first numbers are the same, and so are the others
first_same : (x y : ℕ) (xs ys : List ℕ) → AllPairs (λ m n. m < n) (x ∷ xs) → AllPairs (λ m n. m < n) (y ∷ ys)
    → Contains (y ∷ ys) x → Contains (x ∷ xs) y → x ≡ y
first_same x y xs ys a b there here =
    elim (contains_cases y x ys there) [
      | inl e ↦ sym e
      | inr m ↦ elim (contains_cases x y xs here) [
        | inl e ↦ e
        | inr k ↦ let low = above_first y ys b x m in
            let high = above_first x xs a y k in absurd (omega (arith, low, high))
      ]
    ]

rest_in : (x y : ℕ) (xs ys : List ℕ) → x ≡ y → AllPairs (λ m n. m < n) (x ∷ xs)
    → ((n : ℕ) → Contains (x ∷ xs) n → Contains (y ∷ ys) n) → (n : ℕ) → Contains xs n → Contains ys n
rest_in x y xs ys e rise all n h =
    elim (contains_cases y n ys (all n (contains_there x n xs h))) [
      | inl i ↦ let low = above_first x xs rise n h in absurd (omega (arith, low, e, i))
      | inr m ↦ m
    ]

same_rising : (xs ys : List ℕ) → AllPairs (λ m n. m < n) xs → AllPairs (λ m n. m < n) ys
    → ((n : ℕ) → Contains xs n → Contains ys n) → ((n : ℕ) → Contains ys n → Contains xs n) → xs ≡ ys
same_rising [] [] a b f g = refl
same_rising [] (y ∷ ys) a b f g = absurd (contains_none y (g y (contains_here y ys)))
same_rising (x ∷ xs) [] a b f g = absurd (contains_none x (f x (contains_here x xs)))
same_rising (x ∷ xs) (y ∷ ys) a b f g =
    let e = first_same x y xs ys a b (f x (contains_here x xs)) (g y (contains_here y ys)) in
    let rest = same_rising xs ys (rest_rises x xs a) (rest_rises y ys b) (rest_in x y xs ys e a f)
    (rest_in y x ys xs (sym e) b g) in
    ap (λ z. z ∷ xs) e ∙ ap (λ zs. y ∷ zs) rest

-- an element of an image comes from an element of the list: for a map, and for a map that may leave out
module _ {A B : Type 0} where
  in_map : (f : A → B) (xs : List A) (b : B) → Contains (map f xs) b → (a : A) × Contains xs a × (f a ≡ b)
  in_map f [] b h = absurd (contains_none b h)
  in_map f (x ∷ xs) b h =
      elim (contains_cases (f x) b (map f xs) h) [
        | inl e ↦ (x, contains_here x xs, e)
        | inr m ↦ let i = in_map f xs b m in (i.0, contains_there x i.0 xs i.1, i.2)
      ]

  in_some : (h : A → Option B) (xs : List A) (b : B) → Contains (filter_map h xs) b
      → (a : A) × Contains xs a × (h a ≡ Some b)
  in_some h [] b m = absurd (contains_none b m)
  in_some h (x ∷ xs) b m =
      from (h x) refl m (λ k. let i = in_some h xs b k in (i.0, contains_there x i.0 xs i.1, i.2))
    where
      from : (o : Option B) → h x ≡ o → Contains (cons_option o (filter_map h xs)) b
          → (Contains (filter_map h xs) b → (a : A) × Contains (x ∷ xs) a × (h a ≡ Some b))
          → (a : A) × Contains (x ∷ xs) a × (h a ≡ Some b)
      from None e k later = later k
      from (Some y) e k later =
          elim (contains_cases y b (filter_map h xs) k) [
            | inl i ↦ (x, contains_here x xs, e ∙ ap Some i)
            | inr j ↦ later j
          ]

  some_in : (h : A → Option B) (xs : List A) (a : A) (b : B) → Contains xs a → h a ≡ Some b
      → Contains (filter_map h xs) b
  some_in h [] a b m e = absurd (contains_none a m)
  some_in h (x ∷ xs) a b m e = from (h x) refl (contains_cases x a xs m) (λ k. some_in h xs a b k e)
    where
      from : (o : Option B) → h x ≡ o → (x ≡ a) ⊎ Contains xs a
          → (Contains xs a → Contains (filter_map h xs) b)
          → Contains (cons_option o (filter_map h xs)) b
      from None i (inl s) later = absurd (none-some b (sym i ∙ (ap h s ∙ e)))
      from None i (inr k) later = later k
      from (Some y) i (inl s) later =
          subst (λ z. Contains (y ∷ filter_map h xs) z) (same_Some y b (sym i ∙ (ap h s ∙ e)))
          (contains_here y (filter_map h xs))
      from (Some y) i (inr k) later = contains_there y b (filter_map h xs) (later k)

-- the sequences that pass rise
pub passing_rises : (shows : Filter) (journal : List Edit) → AllPairs (λ m n. m < n) (passing_sequences shows journal)
passing_rises shows journal =
    pairs_map (λ m n. m < n) (λ (row : Current). row.seq)
    (filter (λ (row : Current). is_passing shows row.id) (current journal))
    (AllPairs-filter (λ (row other : Current). row.seq < other.seq) (λ (row : Current). is_passing shows row.id)
    (current journal)
    (rows_rise journal))

-- the sequence of a listed document is that of its row
row_found : (journal : List Edit) (id : List ℕ) (n : ℕ) → seq_of_row journal id ≡ Some n
    → (row : Current) × Contains (current journal) row × (row.id ≡ id) × (row.seq ≡ n)
row_found journal id n e = from (first_listed 0 None (id ∷ []) (current journal)) refl e
  where
    from : (maybe_row : Option Current) → first_listed 0 None (id ∷ []) (current journal) ≡ maybe_row
        → option_map (λ (row : Current). row.seq) maybe_row ≡ Some n
        → (row : Current) × Contains (current journal) row × (row.id ≡ id) × (row.seq ≡ n)
    from None i k = absurd (none-some n k)
    from (Some row) i k =
        let f = find_is _ (current journal) row i in
        (row, f.1, (one_parts 0 None id row f.0).1, same_Some row.seq n k)

row_there : (journal : List Edit) (row : Current) → Contains (current journal) row
    → seq_of_row journal row.id ≡ Some row.seq
row_there journal row h =
    let w = current_within 1 journal row h in
    let low : nat_lt 0 row.seq ≡ true = lt-ltb 0 row.seq (omega (arith, w.0)) in
    sym (next_ahead journal row.id row.seq 0 None h (rw low refl))

found_passing : (journal : List Edit) (ids : List (List ℕ)) (n : ℕ)
    → Contains (filter_map (seq_of_row journal) ids) n → Contains (passing_sequences (DocIds ids) journal) n
found_passing journal ids n h =
    let i = in_some (seq_of_row journal) ids n h in
    let r = row_found journal i.0 n i.2 in
    let listed : list_any (bytes_eq r.0.id) ids ≡ true =
    at_any (bytes_eq r.0.id) ids i.0 i.1 ((bytes_eq-Decides r.0.id i.0).1 r.2) in
    let kept = in_filter (λ (row : Current). is_passing (DocIds ids) row.id) (current journal) r.0 r.1 listed in
    subst (Contains (passing_sequences (DocIds ids) journal)) r.3
    (contains_map (λ (row : Current). row.seq)
    (filter (λ (row : Current). is_passing (DocIds ids) row.id) (current journal)) r.0 kept)

passing_found : (journal : List Edit) (ids : List (List ℕ)) (n : ℕ)
    → Contains (passing_sequences (DocIds ids) journal) n → Contains (filter_map (seq_of_row journal) ids) n
passing_found journal ids n h =
    let i = in_map (λ (row : Current). row.seq)
    (filter (λ (row : Current). is_passing (DocIds ids) row.id) (current journal)) n h in
    let kept = filter_in (λ (row : Current). is_passing (DocIds ids) row.id) (current journal) i.0 i.1 in
    let listed = any_at (bytes_eq i.0.id) ids kept.1 in
    let same : i.0.id ≡ listed.0 = (bytes_eq-Decides i.0.id listed.0).0 listed.2 in
    some_in (seq_of_row journal) ids listed.0 n listed.1
    (ap (seq_of_row journal) (sym same) ∙ (row_there journal i.0 kept.0 ∙ ap Some i.2))

-- the sequences found for the ids, in order and each once, are the sequences that pass
pub arranged : (journal : List Edit) (ids : List (List ℕ)) (found list : List ℕ)
    → found ≡ filter_map (seq_of_row journal) ids → AllPairs (λ m n. m < n) list
    → ((n : ℕ) → Contains found n → Contains list n) → ((n : ℕ) → Contains list n → Contains found n)
    → list ≡ passing_sequences (DocIds ids) journal
arranged journal ids found list is rise keeps adds =
    same_rising list (passing_sequences (DocIds ids) journal) rise (passing_rises (DocIds ids) journal)
    (λ n h. found_passing journal ids n (subst (λ l. Contains l n) is (adds n h)))
    (λ n h. keeps n (subst (λ l. Contains l n) (sym is) (passing_found journal ids n h)))

-- the sequences found so far, with one document more
pub gathered : (journal : List Edit) (texts : List (String Global)) (i : ℕ) (d : String Global)
    → i < length texts
    → (found : List ℕ) (seq : Option ℕ)
    → found ≡ filter_map (seq_of_row journal) (map string_bytes (take i texts))
    → seq ≡ seq_of_row journal (string_bytes (get_or texts i d))
    → found ++ cons_option seq [] ≡ filter_map (seq_of_row journal) (map string_bytes (take (i + 1) texts))
gathered journal texts i d low found seq before here =
    let ids = map string_bytes (take i texts) in
    let id = string_bytes (get_or texts i d) in
    let more : map string_bytes (take (i + 1) texts) ≡ ids ++ id ∷ [] =
    ap (map string_bytes) (take_more texts i d low)
    ∙ map-append string_bytes (take i texts) (get_or texts i d ∷ []) in
    rw (before, here) (sym
    (ap (filter_map (seq_of_row journal)) more ∙ filter_map-append (seq_of_row journal) ids (id ∷ [])))

-- numbers that rise are parted by a place
pub parted : (xs : List ℕ) (place : ℕ) → AllPairs (λ m n. m < n) xs → IsPartitionedBy (λ n. nat_le n place) xs
parted xs place rise i j d le lt e =
    elim (same_number i j) [
      | inl s ↦ subst (λ k. nat_le (get_or xs k d) place ≡ true) (sym s) e
      | inr n ↦ let a = rise i j d (omega (arith, le, n)) lt in
          let b = leb-true (get_or xs j d) place e in le-leb (get_or xs i d) place (omega (arith, a, b))
    ]

-- two neighbours on either side of a place part all the numbers that rise
pub parted_between : (xs : List ℕ) (place at first : ℕ) → AllPairs (λ m n. m < n) xs → at < length xs
    → (at ≡ 0) ⊎ ((before : ℕ) × (before ≡ get_or xs (at - 1) before) × (before ≤ place))
    → first ≡ get_or xs at first → place < first → IsPartedAt place xs at
parted_between xs place at first rise inside below is above = (
  λ k d a b. le-leb (get_or xs k d) place (low below k d b (same_number k (at - 1))),
  λ k d a b. lt-leb (get_or xs k d) place (high k d a b (same_number at k)),
)
  where
    low : (at ≡ 0) ⊎ ((before : ℕ) × (before ≡ get_or xs (at - 1) before) × (before ≤ place))
        → (k d : ℕ) → k < at → (k ≡ at - 1) ⊎ (k ≢ at - 1) → get_or xs k d ≤ place
    low (inl none) k d b same = absurd (omega (arith, b, none))
    low (inr (before, same, le)) k d b (inl s) =
        let e = get_or_default xs (at - 1) d before (omega (arith, b, inside)) in
        subst (λ i. get_or xs i d ≤ place) (sym s) (omega (arith, e, same, le))
    low (inr (before, same, le)) k d b (inr n) =
        let e = get_or_default xs (at - 1) d before (omega (arith, b, inside)) in
        let up = rise k (at - 1) d (omega (arith, b, n)) (omega (arith, b, inside)) in
        omega (arith, up, e, same, le)

    high : (k d : ℕ) → at ≤ k → k < length xs → (at ≡ k) ⊎ (at ≢ k) → place < get_or xs k d
    high k d a b (inl s) =
        let e = get_or_default xs at d first inside in
        subst (λ i. place < get_or xs i d) s (omega (arith, e, is, above))
    high k d a b (inr n) =
        let e = get_or_default xs at d first inside in
        let up = rise at k d (omega (arith, a, n)) b in omega (arith, up, e, is, above)

-- the test of a number above a place, and not above a bound
abbrev is_between : ℕ → Option ℕ → ℕ → Bool
is_between place bound n = nat_lt place n && is_within bound n

-- the answer of a binary search, by the number at its place
abbrev pub taken : ℕ → Option ℕ → Option ℕ → Option ℕ
taken place bound None = None
taken place bound (Some n) = if nat_lt place n && is_within bound n then Some n else None

none_between : (place : ℕ) (bound : Option ℕ) (x : ℕ) (xs : List ℕ) → AllPairs (λ m n. m < n) (x ∷ xs)
    → is_within bound x ≡ false → find (is_between place bound) xs ≡ None
none_between place bound x xs rise over =
    find_nothing (is_between place bound) xs
    (λ k d l. out (get_or xs k d) (rise 0 (suc k) d (omega arith) (omega arith)))
  where
    out : (n : ℕ) → x < n → is_between place bound n ≡ false
    out n above =
        elim (cases_Bool (is_between place bound n)) [
          | inl t ↦ absurd (both_ways _ over
              (within_below bound x n (and_parts (nat_lt place n) (is_within bound n) t).1 (omega arith)))
          | inr f ↦ f
        ]

searched : (place : ℕ) (bound : Option ℕ) (xs : List ℕ) (at : ℕ) → AllPairs (λ m n. m < n) xs
    → IsPartitionPoint (λ n. nat_le n place ≡ true) (λ n. nat_le n place ≡ false) xs at
    → taken place bound (slice_get xs at) ≡ find (is_between place bound) xs
searched place bound [] at rise point = refl
searched place bound (x ∷ xs) zero rise point =
    let high : place < x = leb-false x place (point.1 0 x (omega arith) (omega arith)) in
    let above : nat_lt place x ≡ true = lt-ltb place x high in
    elim (cases_Bool (is_within bound x)) [
      | inl t ↦ rw (above, t) refl
      | inr f ↦ rw (above, f) (sym (none_between place bound x xs rise f))
    ]
searched place bound (x ∷ xs) (suc at) rise point =
    let low : x ≤ place = leb-true x place (point.0 0 x (omega arith) (omega arith)) in
    let below : nat_lt place x ≡ false = le-ltb place x low in
    rw below (searched place bound xs at (rest_rises x xs rise) (
      λ k d a b. point.0 (suc k) d (omega arith) (omega arith),
      λ k d a b. point.1 (suc k) d (omega arith) (omega arith),
    ))

pub taken_at : (place : ℕ) (bound : Option ℕ) (xs : List ℕ) (at : ℕ) (o : Option (Bor ℕ))
    → AllPairs (λ m n. m < n) xs
    → IsPartitionPoint (λ n. nat_le n place ≡ true) (λ n. nat_le n place ≡ false) xs at
    → MatchOption o (length xs ≤ at) (λ x. (at < length xs) × HoldsAt (λ y. x.now ≡ y) xs at)
    → taken place bound (option_copied o) ≡ find (λ n. nat_lt place n && is_within bound n) xs
taken_at place bound xs at o rise point got =
    ap (taken place bound) (copied_at xs at o got) ∙ searched place bound xs at rise point

-- the first passing row between a feed's place and its bound is the first in its reach
reach_taken : (feed : Feed) (rows : List Current)
    → find (is_between feed.place feed.bound)
    (map (λ (row : Current). row.seq) (filter (λ (row : Current). is_passing feed.params.filter row.id) rows))
    ≡ option_map (λ (row : Current). row.seq) (find (is_in_reach feed) rows)
reach_taken feed [] = refl
reach_taken feed (row ∷ rows) =
    elim (cases_Bool (is_passing feed.params.filter row.id)) [
      | inl p ↦ elim (cases_Bool (nat_lt feed.place row.seq)) [
        | inl a ↦ elim (cases_Bool (is_within feed.bound row.seq)) [
          | inl b ↦ rw (p, a, b) refl
          | inr b ↦ rw (p, a, b) (reach_taken feed rows)
        ]
        | inr a ↦ rw (p, a) (reach_taken feed rows)
      ]
      | inr p ↦ elim (cases_Bool (nat_lt feed.place row.seq)) [
        | inl a ↦ elim (cases_Bool (is_within feed.bound row.seq)) [
          | inl b ↦ rw (p, a, b) (reach_taken feed rows)
          | inr b ↦ rw (p, a, b) (reach_taken feed rows)
        ]
        | inr a ↦ rw (p, a) (reach_taken feed rows)
      ]
    ]

-- so the sequence found among kept rows is that of the first row in reach of a feed that lists these ids
listed_is : (shows : Filter) (ids : List (List ℕ)) → Some ids ≡ listed_in shows → shows ≡ DocIds ids
listed_is Everything ids e = absurd (cc)
listed_is (DocIds listed) ids e = ap DocIds (sym (same_Some ids listed e))
listed_is Design ids e = absurd (cc)

pub first_is : (feed : Feed) (journal : List Edit) (ids : List (List ℕ)) (place : ℕ) (bound : Option ℕ)
    (rows : List ℕ) (first : Option ℕ)
    → Some ids ≡ listed_in feed.params.filter → place ≡ feed.place → bound ≡ feed.bound
    → rows ≡ passing_sequences (DocIds ids) journal
    → first ≡ find (λ n. nat_lt place n && is_within bound n) rows
    → IsFirst first (current journal) (Some feed)
first_is feed journal ids place bound rows first lists p b r is found_first =
    is ∙ (ap (λ z. find (λ n. nat_lt z n && is_within bound n) rows) p
    ∙ (ap (λ z. find (λ n. nat_lt feed.place n && is_within z n) rows) b
    ∙ (ap (find (is_between feed.place feed.bound))
    (r ∙ ap (λ z. passing_sequences z journal) (sym (listed_is feed.params.filter ids lists)))
    ∙ reach_taken feed (current journal))))

-- each feed with a number that was given before was there before, and asks for the same
abbrev AskTheSame : ℕ → List (ℕ × Feed) → List (ℕ × Feed) → Type 0
AskTheSame next old new =
    (q : ℕ) → q < next
    → IfSome (entry_in q new) (λ g. (feed : Feed) × (entry_in q old ≡ Some feed) × (g.params ≡ feed.params))

one_stays : (maybe_feed : Option Feed)
    → IfSome maybe_feed (λ g. (feed : Feed) × (maybe_feed ≡ Some feed) × (g.params ≡ feed.params))
one_stays None = tt
one_stays (Some feed) = (feed, refl, refl)

one_changes : (change : Feed → Feed) → ((feed : Feed) → (change feed).params ≡ feed.params)
    → (maybe_feed : Option Feed)
    → IfSome (option_map change maybe_feed)
    (λ g. (feed : Feed) × (maybe_feed ≡ Some feed) × (g.params ≡ feed.params))
one_changes change keeps None = tt
one_changes change keeps (Some feed) = (feed, refl, keeps feed)

all_stay : (next : ℕ) (feeds : List (ℕ × Feed)) → AskTheSame next feeds feeds
all_stay next feeds q low = one_stays (entry_in q feeds)

pub one_asks : (id next : ℕ) (change : Feed → Feed) (feeds : List (ℕ × Feed))
    → ((feed : Feed) → (change feed).params ≡ feed.params) → AskTheSame next feeds (with_change id change feeds)
one_asks id next change feeds keeps q low =
    elim (same_number q id) [
      | inl e ↦ rw (e, own_changed id change feeds) (one_changes change keeps (entry_in id feeds))
      | inr n ↦ rw (other_changed id change q n feeds) (one_stays (entry_in q feeds))
    ]

pub one_goes : (id next : ℕ) (feeds : List (ℕ × Feed)) → AskTheSame next feeds (without id feeds)
one_goes id next feeds q low =
    elim (same_number q id) [
      | inl e ↦ rw (e, own_without id feeds) tt
      | inr n ↦ rw (other_without id q n feeds) (one_stays (entry_in q feeds))
    ]

pub one_comes : (next : ℕ) (new : Feed) (feeds : List (ℕ × Feed))
    → AskTheSame next feeds (feeds ++ (next, new) ∷ [])
one_comes next new feeds q low =
    rw (other_added next new q (λ e. omega (arith, low, e)) feeds) (one_stays (entry_in q feeds))

ends_asking : (feed : Feed) → (end feed).params ≡ feed.params
ends_asking feed = from (is_open feed.status)
  where
    from : (b : Bool) → (if b then record feed { status = Ending } else feed).params ≡ feed.params
    from true = refl
    from false = refl

end_in : (q : ℕ) (feeds : List (ℕ × Feed)) → entry_in q (map ended_entry feeds) ≡ option_map end (entry_in q feeds)
end_in q [] = refl
end_in q (p ∷ feeds) = elim (cases_Bool (nat_eq p.0 q)) [ inl t ↦ rw t refl | inr t ↦ rw t (end_in q feeds) ]

pub all_end : (next : ℕ) (feeds : List (ℕ × Feed)) → AskTheSame next feeds (map ended_entry feeds)
all_end next feeds q low = rw (end_in q feeds) (one_changes end ends_asking (entry_in q feeds))

-- a feed that hands, or whose time is over, asks for the same
hands_asking : (due : Due) (feed : Feed) (len : ℕ) → (feed_after_due feed due len).params ≡ feed.params
hands_asking (DueRow c) feed len = refl
hands_asking (DueEnd last_seq) feed len = refl
hands_asking DueNothing feed len = refl
hands_asking DueGone feed len = refl

pub expires_asking : (feed : Feed) → (expired_feed feed).params ≡ feed.params
expires_asking feed = from (is_open feed.status && is_waiting_mode feed.params.mode)
  where
    from : (b : Bool) → (if b then record feed { status = Ending } else feed).params ≡ feed.params
    from true = refl
    from false = refl

answers_asking : {R : Type 0} (id next len : ℕ) (answer : Next R) (feeds : List (ℕ × Feed))
    → AskTheSame next feeds (feeds_behind id len answer feeds)
answers_asking id next len (Give item) feeds = all_stay next feeds
answers_asking id next len Nothing feeds = one_asks id next (λ f. after_nothing f len) feeds (λ f. refl)
answers_asking id next len Gone feeds = all_stay next feeds

-- then the rows that are kept of a feed go on to be its rows
module _ (journal : List Edit) (old new : List (ℕ × Feed)) (next next' : ℕ) (later : next ≤ next')
    (same : AskTheSame next old new) (listing : Listing) where
  given_on : (o : Option ℕ) → IfSome o (λ n. n < next) → IfSome o (λ n. n < next')
  given_on None h = tt
  given_on (Some n) h = omega (arith, h, later)

  rows_on : (o : Option ℕ) → IfSome o (λ n. n < next)
      → IfSome o (λ n. IfSome (entry_in n old)
      (λ feed. listing.rows.items ≡ passing_sequences feed.params.filter journal))
      → IfSome o (λ n. IfSome (entry_in n new)
      (λ feed. listing.rows.items ≡ passing_sequences feed.params.filter journal))
  rows_on None given h = tt
  rows_on (Some n) given h = from (entry_in n new) (same n given)
    where
      from : (maybe_feed : Option Feed)
          → IfSome maybe_feed (λ g. (feed : Feed) × (entry_in n old ≡ Some feed) × (g.params ≡ feed.params))
          → IfSome maybe_feed (λ g. listing.rows.items ≡ passing_sequences g.params.filter journal)
      from None k = tt
      from (Some g) (feed, is, asks) =
          (rw is at h) ∙ ap (λ (params : Params). passing_sequences params.filter journal) (sym asks)

  pub kept_on : IsListing journal old next listing → IsListing journal new next' listing
  kept_on x = record { given = given_on listing.feed x.given; rows = rows_on listing.feed x.given x.rows }

-- the kept rows stay so where a feed answered
pub answer_kept : {R : Type 0} (journal : List Edit) (len : ℕ) (rows : List Current)
    (shown : Style → Bool → Current → R)
    (old new : FeedList) (id : ℕ) (answer : Next R) (listing : Listing)
    → new ≡ feeds_of (hosted_after_next (over len rows shown old) id answer)
    → IsListing journal old.feeds old.next listing → IsListing journal new.feeds new.next listing
answer_kept journal len rows shown old new id answer listing is x =
    subst (λ (list : FeedList). IsListing journal list.feeds list.next listing) (sym is)
    (kept_on journal old.feeds (feeds_behind id len answer old.feeds) old.next old.next (omega arith)
    (answers_asking id old.next len answer old.feeds) listing x)

-- the kept rows stay so where a feed handed its due item
pub handed_kept : {R : Type 0} (journal : List Edit) (len : ℕ) (rows : List Current)
    (shown : Style → Bool → Current → R)
    (old new : FeedList) (id : ℕ) (listing : Listing) → new ≡ feeds_of (hosted_after_hand (over len rows shown old) id)
    → IsListing journal old.feeds old.next listing → IsListing journal new.feeds new.next listing
handed_kept journal len rows shown old new id listing is x =
    let change : Feed → Feed = λ f. feed_after_due f (next_due rows f) len in
    subst (λ (list : FeedList). IsListing journal list.feeds list.next listing) (sym is)
    (kept_on journal old.feeds (with_change id change old.feeds) old.next old.next (omega arith)
    (one_asks id old.next change old.feeds (λ f. hands_asking (next_due rows f) f len)) listing x)
