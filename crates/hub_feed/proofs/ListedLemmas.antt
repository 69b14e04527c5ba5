-- The first row of several listed documents is the first of the first rows of each document.
use Rattle.std.proofs.Common.{◌≡◌, ℕ, ◌+◌, ◌<◌, List, [], ◌∷◌, ◌++◌, length, map, take}
use Rattle.std.proofs.Common.{get_or, min, Bool, true, false, ◌&&◌, ◌||◌, nat_lt, inl, inr}
use Rattle.std.proofs.Common.{refl, sym, ◌∙◌, ap, subst, Option, Some, None, find, option_map}
use Rattle.std.proofs.Common.{Contains, AllPairs, String, Global, string_bytes, arith}
use Rattle.std.specs.List.{list_any}
use Rattle.std.specs.Str.{bytes_eq}
use Rattle.std.proofs.lemmas.Bool.{cases_Bool, both_ways, and_parts}
use Rattle.std.proofs.lemmas.List.{map-append, take_more}
use Rattle.std.proofs.lemmas.List.Folds.{list_any-append}
use Rattle.std.proofs.lemmas.Slice.Eq.{bytes_eq-Decides}
use Rattle.hub_model.specs.Current.{Current}
use Rattle.hub_model.specs.Feed.{is_within}
use Rattle.hub_model.proofs.Shown.{find_is, find_not}
use Rattle.hub_feed.specs.Reach.{first_listed, is_listed_within, lesser}
use Rattle.hub_feed.proofs.ReachLemmas.{find_same, find_nothing, above_first, rest_rises}

-- the sequence of the first row that passes a test
abbrev seq_in : (Current → Bool) → List Current → Option ℕ
seq_in p rows = option_map (λ (row : Current). row.seq) (find p rows)

-- the first of rows that rise is lower than a row that a search finds after it
first_low : (p : Current → Bool) (row : Current) (rows : List Current)
    → AllPairs (λ (other b : Current). other.seq < b.seq) (row ∷ rows)
    → lesser (Some row.seq) (seq_in p rows) ≡ Some row.seq
first_low p row rows rise = from (find p rows) refl
  where
    from : (maybe_row : Option Current) → find p rows ≡ maybe_row
        → lesser (Some row.seq) (option_map (λ (c : Current). c.seq) maybe_row) ≡ Some row.seq
    from None e = refl
    from (Some c) e = let above = above_first row rows rise c (find_is p rows c e).1 in ap Some (omega arith)

second_low : (p : Current → Bool) (row : Current) (rows : List Current)
    → AllPairs (λ (other b : Current). other.seq < b.seq) (row ∷ rows)
    → lesser (seq_in p rows) (Some row.seq) ≡ Some row.seq
second_low p row rows rise = from (find p rows) refl
  where
    from : (maybe_row : Option Current) → find p rows ≡ maybe_row
        → lesser (option_map (λ (c : Current). c.seq) maybe_row) (Some row.seq) ≡ Some row.seq
    from None e = refl
    from (Some c) e = let above = above_first row rows rise c (find_is p rows c e).1 in ap Some (omega arith)

-- the first row that passes one of two tests is the first of the rows that each test finds
either_first : (p q : Current → Bool) (rows : List Current)
    → AllPairs (λ (other b : Current). other.seq < b.seq) rows
    → lesser (seq_in p rows) (seq_in q rows) ≡ seq_in (λ c. p c || q c) rows
either_first p q [] rise = refl
either_first p q (row ∷ rows) rise =
    elim (cases_Bool (p row)) [
      | inl t ↦ elim (cases_Bool (q row)) [
        | inl u ↦ rw (t, u) (let same : min row.seq row.seq ≡ row.seq = omega arith in ap Some same)
        | inr u ↦ rw (t, u) (first_low q row rows rise)
      ]
      | inr t ↦ elim (cases_Bool (q row)) [
        | inl u ↦ rw (t, u) (second_low p row rows rise)
        | inr u ↦ rw (t, u) (either_first p q rows (rest_rises row rows rise))
      ]
    ]

shared : (a b x y : Bool) → (a && (b && (x || y))) ≡ ((a && (b && x)) || (a && (b && y)))
shared true true x y = refl
shared true false x y = refl
shared false b x y = refl

-- a row of listed documents is of all but the last document, or of the last
listed_more : (place : ℕ) (bound : Option ℕ) (ids : List (List ℕ)) (id : List ℕ) (row : Current)
    → is_listed_within place bound (ids ++ id ∷ []) row
    ≡ (is_listed_within place bound ids row || is_listed_within place bound (id ∷ []) row)
listed_more place bound ids id row =
    ap (λ b. nat_lt place row.seq && (is_within bound row.seq && b))
    (list_any-append (bytes_eq row.id) ids (id ∷ []))
    ∙ shared (nat_lt place row.seq) (is_within bound row.seq) (list_any (bytes_eq row.id) ids)
    (list_any (bytes_eq row.id) (id ∷ []))

-- the first row with one more listed document
pub listed_step : (place : ℕ) (bound : Option ℕ) (rows : List Current)
    → AllPairs (λ (row other : Current). row.seq < other.seq) rows
    → (texts : List (String Global)) (i : ℕ) (d : String Global) → i < length texts
    → (first second : Option ℕ)
    → first ≡ option_map (λ (c : Current). c.seq)
    (first_listed place bound (map string_bytes (take i texts)) rows)
    → second ≡ option_map (λ (c : Current). c.seq)
    (first_listed place bound (string_bytes (get_or texts i d) ∷ []) rows)
    → lesser first second
    ≡ option_map (λ (c : Current). c.seq)
    (first_listed place bound (map string_bytes (take (i + 1) texts)) rows)
listed_step place bound rows rise texts i d low first second before here =
    let ids = map string_bytes (take i texts) in
    let id = string_bytes (get_or texts i d) in
    let more : map string_bytes (take (i + 1) texts) ≡ ids ++ id ∷ [] =
    ap (map string_bytes) (take_more texts i d low)
    ∙ map-append string_bytes (take i texts) (get_or texts i d ∷ []) in
    let same =
    find_same (is_listed_within place bound (ids ++ id ∷ []))
    (λ c. is_listed_within place bound ids c || is_listed_within place bound (id ∷ []) c) rows
    (λ c h. listed_more place bound ids id c) in
    rw (before, here, more, same)
    (either_first (is_listed_within place bound ids) (is_listed_within place bound (id ∷ [])) rows rise)

-- no listed documents have no first row
pub listed_none : (place : ℕ) (bound : Option ℕ) (rows : List Current)
    → None ≡ option_map (λ (row : Current). row.seq) (first_listed place bound [] rows)
listed_none place bound rows =
    rw (find_nothing (is_listed_within place bound []) rows
    (λ row h t. never (nat_lt place row.seq) (is_within bound row.seq) t)) refl
  where
    never : (a b : Bool) → (a && (b && false)) ≡ true → ⊥
    never true true t = absurd (cc)
    never true false t = absurd (cc)
    never false b t = absurd (cc)

-- a row of one listed document lies above the place and not above the bound, and has the document's id
pub one_parts : (place : ℕ) (bound : Option ℕ) (id : List ℕ) (row : Current)
    → is_listed_within place bound (id ∷ []) row ≡ true
    → ((nat_lt place row.seq && is_within bound row.seq) ≡ true) × (row.id ≡ id)
one_parts place bound id row t =
    let p = and_parts (nat_lt place row.seq)
    (is_within bound row.seq && list_any (bytes_eq row.id) (id ∷ [])) t in
    let q = and_parts (is_within bound row.seq) (list_any (bytes_eq row.id) (id ∷ [])) p.1 in
    (rw (p.0, q.0) refl, (bytes_eq-Decides row.id id).0 (last (bytes_eq row.id id) q.1))
  where
    last : (b : Bool) → (b || false) ≡ true → b ≡ true
    last true t = refl
    last false t = t

one_from : (place : ℕ) (bound : Option ℕ) (id : List ℕ) (seq : ℕ)
    → (nat_lt place seq && is_within bound seq) ≡ true
    → is_listed_within place bound (id ∷ []) (record { seq = seq; id = id }) ≡ true
one_from place bound id seq t =
    let p = and_parts (nat_lt place seq) (is_within bound seq) t in
    let same : bytes_eq id id ≡ true = (bytes_eq-Decides id id).1 refl in
    rw (p.0, p.1, same) refl

-- The row of a document that stands once, where it lies above the place and not above the bound, ..
pub only_row : (place : ℕ) (bound : Option ℕ) (id : List ℕ) (seq : ℕ) (rows : List Current)
    → Contains rows (record { seq = seq; id = id })
    → ((row : Current) → Contains rows row → row.id ≡ id → row.seq ≡ seq)
    → (nat_lt place seq && is_within bound seq) ≡ true
    → Some seq ≡ option_map (λ (row : Current). row.seq) (first_listed place bound (id ∷ []) rows)
only_row place bound id seq rows here one ahead = from (first_listed place bound (id ∷ []) rows) refl
  where
    from : (maybe_row : Option Current) → first_listed place bound (id ∷ []) rows ≡ maybe_row
        → Some seq ≡ option_map (λ (row : Current). row.seq) maybe_row
    from None e =
        absurd (find_not (is_listed_within place bound (id ∷ [])) rows e (record { seq = seq; id = id }) here
        (one_from place bound id seq ahead))
    from (Some row) e =
        let i = find_is (is_listed_within place bound (id ∷ [])) rows row e in
        ap Some (sym (one row i.1 (one_parts place bound id row i.0).1))

-- .. and where it does not: then there is no first row
pub row_apart : (place : ℕ) (bound : Option ℕ) (id : List ℕ) (seq : ℕ) (rows : List Current)
    → ((row : Current) → Contains rows row → row.id ≡ id → row.seq ≡ seq)
    → (nat_lt place seq && is_within bound seq) ≡ false
    → None ≡ option_map (λ (row : Current). row.seq) (first_listed place bound (id ∷ []) rows)
row_apart place bound id seq rows one apart =
    rw (find_nothing (is_listed_within place bound (id ∷ [])) rows (λ row h t.
    let p = one_parts place bound id row t in
    both_ways _ apart (subst (λ (n : ℕ). (nat_lt place n && is_within bound n) ≡ true) (one row h p.1) p.0)))
    refl

-- a document that has no row has no first row
pub no_row : (place : ℕ) (bound : Option ℕ) (id : List ℕ) (rows : List Current)
    → ((row : Current) → Contains rows row → row.id ≡ id → ⊥)
    → None ≡ option_map (λ (row : Current). row.seq) (first_listed place bound (id ∷ []) rows)
no_row place bound id rows none =
    rw (find_nothing (is_listed_within place bound (id ∷ [])) rows
    (λ row h t. none row h (one_parts place bound id row t).1)) refl
