-- The changes of a journal above a sequence, in one list, are an answer to a follower.
use Rattle.std.proofs.Common.{◌≡◌, ◌∙◌, ℕ, zero, suc, ◌<◌, ◌≤◌, List, [], ◌∷◌, length, map, take, Contains}
use Rattle.std.proofs.Common.{◌⊎◌, inl, inr, ⊎_elim, true, false, refl, sym, ap, subst, arith, get_or}
use Rattle.std.proofs.lemmas.Bool.Decides.{nat_tests}
use Rattle.std.proofs.lemmas.List.Elements.{All-nil, All-cons}
use Rattle.std.proofs.lemmas.List.Kept.{AllPairs-cons, AllPairs-filter}
use Rattle.std.proofs.lemmas.Bool.{cases_lt}
use Rattle.std.proofs.Math.Seq.{take-length}
use Rattle.std.proofs.lemmas.List.{reverse-reverse, get_or-map, take-map}
use Rattle.std.proofs.lemmas.List.Elements.{Contains-get_or}
use Rattle.hub_index.proofs.ListLemmas.{map_reverse}
use Rattle.std.specs.Prelude.{All, AllPairs, ◌&&◌, nat_lt, reverse, min}
use Rattle.hub_model.specs.Descending.{descending, falling, falling_rows}
use Rattle.hub_follower.specs.Listing.{rows_above, all_above, listing_params, AreFirst}
use Rattle.hub_model.specs.Current.{Current, current}
use Rattle.hub_model.specs.Filter.{is_passing, Everything}
use Rattle.hub_model.specs.Journal.{Edit}
use Rattle.hub_model.specs.RightlyHanded.{IsAsked, IsRowOf, Follows, EndsAt}
use Rattle.hub_model.specs.Row.{ChangeRow, row_of}
use Rattle.hub_model.specs.RowKind.{change_rows}
use Rattle.hub_model.specs.declared.feeds.Item.TheVariants.{Row, End}
use Rattle.hub_model.specs.declared.feeds.Style.TheVariants.{AllDocs}
use Rattle.hub_model.proofs.Laws.{rows_rise}
use Rattle.hub_model.proofs.Lists.{contains_none, contains_here, contains_there, contains_cases}
use Rattle.hub_model.proofs.Rows.{current_within}
use Rattle.hub_model.proofs.Tests.{in_filter, filter_in}
use Rattle.hub_follow_model.specs.ChangesFeed.{ended_feed, items_of, HasChangesAnswer}
use Rattle.hub_follow_model.proofs.Done.{rows_of-items, contains_map}

-- ---- rows whose sequences rise

-- each sequence is above this one
abbrev pub AreAbove : ℕ → List Current → Type 0
AreAbove n [] = Unit {0}
AreAbove n (row ∷ rows) = (n < row.seq) × AreAbove n rows

abbrev pub Rise : List Current → Type 0
Rise [] = Unit {0}
Rise (row ∷ rows) = AreAbove row.seq rows × Rise rows

abbrev Lower : Current → Current → Type 0
Lower row other = row.seq < other.seq

above_from : (n : ℕ) (rows : List Current)
    → ((k : ℕ) (other : Current) → k < length rows → n < (get_or rows k other).seq) → AreAbove n rows
above_from n [] h = tt
above_from n (row ∷ rows) h =
    (h 0 row (omega arith), above_from n rows (λ k other l. h (suc k) other (omega (arith, l))))

rise_from : (rows : List Current) → AllPairs Lower rows → Rise rows
rise_from [] h = tt
rise_from (row ∷ rows) h = (
  above_from row.seq rows (λ k d l. h 0 (suc k) d (omega arith) (omega (arith, l))),
  rise_from rows (λ i j d a b. h (suc i) (suc j) d (omega (arith, a)) (omega (arith, b))),
)

above_in : (n : ℕ) (rows : List Current) (other : Current) → AreAbove n rows → Contains rows other
    → n < other.seq
above_in n [] other a h = absurd (contains_none other h)
above_in n (row ∷ rows) other a h =
    ⊎_elim (λ (e : row ≡ other). subst (λ (z : Current). n < z.seq) e a.0) (λ k. above_in n rows other a.1 k)
    (contains_cases row other rows h)

above_take : (n k : ℕ) (rows : List Current) → AreAbove n rows → AreAbove n (take k rows)
above_take n zero rows a = tt
above_take n (suc k) [] a = tt
above_take n (suc k) (row ∷ rows) a = (a.0, above_take n k rows a.1)

pub rise_take : (k : ℕ) (rows : List Current) → Rise rows → Rise (take k rows)
rise_take zero rows r = tt
rise_take (suc k) [] r = tt
rise_take (suc k) (row ∷ rows) r = (above_take row.seq k rows r.0, rise_take k rows r.1)

-- a row that is not above the row at k is among the first k + 1
pub in_take : (k : ℕ) (rows : List Current) (row other : Current) → Rise rows → k < length rows
    → Contains rows row → row.seq ≤ (get_or rows k other).seq → Contains (take (suc k) rows) row
in_take k [] row other r l h low = absurd (contains_none row h)
in_take zero (x ∷ rows) row other r l h low =
    ⊎_elim (λ (e : x ≡ row). subst (λ z. Contains (x ∷ []) z) e (contains_here x []))
    (λ m. let up = above_in x.seq rows row r.0 m in absurd (omega (arith, up, low)))
    (contains_cases x row rows h)
in_take (suc k) (x ∷ rows) row other r l h low =
    ⊎_elim (λ (e : x ≡ row).
    subst (λ z. Contains (x ∷ take (suc k) rows) z) e (contains_here x (take (suc k) rows)))
    (λ m. contains_there x row (take (suc k) rows) (in_take k rows row other r.1 (omega (arith, l)) m low))
    (contains_cases x row rows h)

take_in : (k : ℕ) (rows : List Current) (row : Current) → Contains (take k rows) row → Contains rows row
take_in zero rows row h = absurd (contains_none row h)
take_in (suc k) [] row h = absurd (contains_none row h)
take_in (suc k) (other ∷ rows) row h =
    ⊎_elim (λ (e : other ≡ row). subst (λ z. Contains (other ∷ rows) z) e (contains_here other rows))
    (λ m. contains_there other row rows (take_in k rows row m)) (contains_cases other row (take k rows) h)

-- ---- the rows of a journal

module _ (journal : List Edit) where
  abbrev pub shown_row : Current → ChangeRow
  shown_row = row_of journal AllDocs false

  above_follow : (row : Current) (rows : List Current) → AreAbove row.seq rows
      → All (Follows change_rows (shown_row row)) (map shown_row rows)
  above_follow row [] a = All-nil (Follows change_rows (shown_row row))
  above_follow row (other ∷ rows) a =
      All-cons (Follows change_rows (shown_row row)) (shown_row other) (map shown_row rows)
      (record { rises = a.0; later = omega arith }) (above_follow row rows a.1)

  rise_follow : (rows : List Current) → Rise rows → AllPairs (Follows change_rows) (map shown_row rows)
  rise_follow [] r = λ i j d a b. absurd (omega (arith, b))
  rise_follow (row ∷ rows) r =
      AllPairs-cons (Follows change_rows) (shown_row row) (map shown_row rows)
      (above_follow row rows r.0) (rise_follow rows r.1)

  all_mapped : (P : ChangeRow → Type 0) (rows : List Current)
      → ((row : Current) → Contains rows row → P (shown_row row)) → All P (map shown_row rows)
  all_mapped P [] h = All-nil P
  all_mapped P (row ∷ rows) h =
      All-cons P (shown_row row) (map shown_row rows) (h row (contains_here row rows))
      (all_mapped P rows (λ d m. h d (contains_there row d rows m)))

  beats_of : (rows : List ChangeRow) (last : ℕ) → All (IsAsked false) (items_of rows last 0)
  beats_of [] last = All-cons (IsAsked false) (End last 0) [] tt (All-nil (IsAsked false))
  beats_of (row ∷ rows) last =
      All-cons (IsAsked false) (Row row) (items_of rows last 0) tt (beats_of rows last)

  ends_of : (rows : List ChangeRow) (last : ℕ) → EndsAt last (items_of rows last 0)
  ends_of [] last = (refl, refl)
  ends_of (row ∷ rows) last = ends_of rows last

  length_mapped : (rows : List Current) → length (map shown_row rows) ≡ length rows
  length_mapped [] = refl
  length_mapped (row ∷ rows) = ap suc (length_mapped rows)

  -- these rows, as they are shown, are an answer, where they are all between the two sequences
  pub listed : (since last : ℕ) (cs : List Current) → Rise cs → length cs ≤ 100 → since ≤ last
      → last ≤ length journal
      → ((c : Current) → Contains cs c → Contains (current journal) c × (since < c.seq) × (c.seq ≤ last))
      → ((c : Current) → Contains (current journal) c → since < c.seq → c.seq ≤ last → Contains cs c)
      → HasChangesAnswer journal since (map shown_row cs) last
  listed since last cs r few from to sound whole =
      let rows = map shown_row cs in
      let same = rows_of-items rows last 0 in
      let f = ended_feed since last (length rows) in (
        0,
        record {
          rising = subst (λ edits. AllPairs (Follows change_rows) edits) (sym same) (rise_follow cs r);
          rows =
              subst (λ edits. All (IsRowOf change_rows journal f) edits) (sym same)
              (all_mapped (IsRowOf change_rows journal f) cs
              (λ c m. let (now, up, low) = sound c m in record {
                shown = (
                  c,
                  subst (λ (edits : List Edit). Contains (current edits) c) (sym (take-length journal)) now,
                  ap (λ (edits : List Edit). row_of edits AllDocs false c) (sym (take-length journal)),
                  refl,
                );
                above = up;
                reached = low;
                bounded = low;
              }));
          from_since = from;
          to_length = to;
          ends = ends_of rows last;
          whole =
              λ c now passing up low. subst
              (λ edits. Contains (map (λ (row : ChangeRow). row.seq) edits) c.seq)
              (sym same) (seqs c cs (whole c now up low));
          limited = let n = length_mapped cs in let k = ap length same in omega (arith, n, k, few);
          beats = beats_of rows last;
        },
      )
    where
      seqs : (c : Current) (cs : List Current) → Contains cs c
          → Contains (map (λ (row : ChangeRow). row.seq) (map shown_row cs)) c.seq
      seqs c cs m =
          contains_map (λ (row : ChangeRow). row.seq) (shown_row c) (map shown_row cs)
          (contains_map shown_row c cs m)

-- ---- the whole list, and its first rows

above_test : (since n : ℕ) → since < n → (nat_lt since n && true) ≡ true
above_test since n h = grind (arith, nat_tests)

test_above : (since n : ℕ) → (nat_lt since n && true) ≡ true → since < n
test_above since n h = grind (arith, nat_tests)

-- a row among the first k + 1 is not above the row at k
under_last : (k : ℕ) (rows : List Current) (row other : Current) → Rise rows → k < length rows
    → Contains (take (suc k) rows) row → row.seq ≤ (get_or rows k other).seq
under_last k [] row other r l h = absurd (omega (arith, l))
under_last zero (x ∷ rows) row other r l h =
    ⊎_elim (λ (e : x ≡ row). subst (λ (z : Current). z.seq ≤ x.seq) e (omega arith))
    (λ m. absurd (contains_none row m)) (contains_cases x row [] h)
under_last (suc k) (x ∷ rows) row other r l h =
    let up = above_in x.seq rows (get_or rows k other) r.0 (Contains-get_or rows k other (omega (arith, l)))
    in
    ⊎_elim (λ (e : x ≡ row). subst (λ (z : Current). z.seq ≤ (get_or rows k other).seq) e (omega (arith, up)))
    (λ m. under_last k rows row other r.1 (omega (arith, l)) m) (contains_cases x row (take (suc k) rows) h)

module _ (journal : List Edit) (since : ℕ) (from : since ≤ length journal) where
  abbrev above : List Current
  above = rows_above journal since

  abbrev every : List ChangeRow
  every = all_above journal since

  rise_above : Rise above
  rise_above =
      rise_from above
      (AllPairs-filter Lower (λ c. nat_lt since c.seq && is_passing Everything c.id) (current journal)
      (rows_rise journal))

  sound_in : (row : Current) → Contains above row → Contains (current journal) row × (since < row.seq)
      × (row.seq ≤ length journal)
  sound_in row m =
      let p = filter_in (λ (row : Current). nat_lt since row.seq && is_passing Everything row.id)
      (current journal) row m in
      let w = current_within 1 journal row p.0 in
      (p.0, test_above since row.seq p.1, omega (arith, w.1))

  whole_in : (row : Current) → Contains (current journal) row → since < row.seq → Contains above row
  whole_in row m up =
      in_filter (λ (row : Current). nat_lt since row.seq && is_passing Everything row.id) (current journal) row m
      (above_test since row.seq up)

  -- the descending answer is this list from its end
  pub turned : (life : ℕ) → reverse (descending journal life (listing_params since)).rows ≡ every
  turned life =
      let same : min since (length journal) ≡ since = omega (arith, from) in
      ap (λ n.
      reverse (falling journal life (listing_params since) n
      (falling_rows journal (listing_params since) n)).rows) same
      ∙ (ap reverse (map_reverse (shown_row journal) above) ∙ reverse-reverse every)

  whole_answer : length every ≤ 100 → HasChangesAnswer journal since every (length journal)
  whole_answer few =
      let n = length_mapped journal above in
      listed journal since (length journal) above rise_above (omega (arith, n, few)) from (omega arith)
      sound_in (λ c m up low. whole_in c m up)

  first_answer : 100 < length every → (row : Current)
      → HasChangesAnswer journal since (take 100 every) (get_or above 99 row).seq
  first_answer many row =
      let n = length_mapped journal above in
      let more : 99 < length above = omega (arith, n, many) in
      let last = get_or above 99 row in
      let here = sound_in last (Contains-get_or above 99 row more) in
      subst (λ z. HasChangesAnswer journal since z last.seq) (sym (take-map (shown_row journal) 100 above))
      (listed journal since last.seq (take 100 above)
      (rise_take 100 above rise_above) (few 100 above) (let up = here.1 in omega (arith, up)) here.2
      (λ c m.
      let p = sound_in c (take_in 100 above c m) in (p.0, p.1, under_last 99 above c row rise_above more m))
      (λ c m up low. in_take 99 above c row rise_above more (whole_in c m up) low))
    where
      few : {X : Type 0} (k : ℕ) (xs : List X) → length (take k xs) ≤ k
      few zero xs = omega arith
      few (suc k) [] = omega arith
      few (suc k) (x ∷ xs) = let h = few k xs in omega (arith, h)

  -- all rows are an answer where they are 100 at most, and else the first 100 are one
  pub first_answered : (rows : List ChangeRow) (last : ℕ) → AreFirst every (length journal) rows last
      → HasChangesAnswer journal since rows last
  first_answered rows last h = by (cases_lt 100 (length every))
    where
      by : (100 < length every) ⊎ (length every ≤ 100) → HasChangesAnswer journal since rows last
      by (inr few) =
          let p = h.short few in
          subst (λ row. HasChangesAnswer journal since row last) (sym p.0)
          (subst (λ row. HasChangesAnswer journal since every row) (sym p.1) (whole_answer few))
      by (inl many) =
          let p = h.long many in
          let d : Current = record { seq = 0; id = [] } in
          let n = length_mapped journal above in
          let is : last ≡ (get_or above 99 d).seq =
          p.1 (shown_row journal d)
          ∙ ap (λ (row : ChangeRow). row.seq)
          (get_or-map (shown_row journal) above 99 d (shown_row journal d) (omega (arith, n, many))) in
          subst (λ row. HasChangesAnswer journal since row last) (sym p.0)
          (subst (λ row. HasChangesAnswer journal since (take 100 every) row) (sym is) (first_answer many d))
