-- The tests of items decide whether these are an answer to a follower that asks for changes.
use Rattle.std.proofs.Common.{◌≡◌, ◌∙◌, ℕ, zero, suc, ◌+◌, ◌<◌, ◌≤◌, List, [], ◌∷◌, length}
use Rattle.std.proofs.Common.{drop, map, take, get_or, Contains, inl, inr, ⊎_elim, Bool}
use Rattle.std.proofs.Common.{true, false, refl, sym, ap, subst, arith, Option, Some, None}
use Rattle.std.proofs.lemmas.Bool.{and_parts, and_from, or_cases, or_left, or_right, ltb-true, leb-true}
use Rattle.std.proofs.lemmas.Bool.{lt-ltb, le-leb, eqb-true, eq-eqb, cases_lt, cases_Bool, both_ways}
use Rattle.std.proofs.lemmas.List.Elements.{All-nil, All-cons, All-head, All-tail}
use Rattle.std.proofs.lemmas.List.Elements.{All-weaker, All-contains, Contains-get_or}
use Rattle.std.proofs.lemmas.List.Kept.{AllPairs-cons}
use Rattle.std.proofs.lemmas.Option.{same_Some, none-some}
use Rattle.std.proofs.lemmas.Slice.Eq.{bytes_eq-Decides}
use Rattle.std.specs.List.{list_all}
use Rattle.std.specs.Prelude.{All, AllPairs, IfSome, OnErr, Result, Ok, Err, IsTrue, is_some, slice_get}
use Rattle.std.specs.Prelude.{option_and_then, ◌&&◌, ◌||◌, ◌↔◌, if◌then◌else◌, nat_eq, nat_le, nat_lt}
use Rattle.std.specs.Str.{bytes_eq}
use Rattle.hub_model.specs.Current.{Current, current}
use Rattle.hub_model.specs.declared.feeds.Item.TheVariants.{Row, Beat, End}
use Rattle.hub_model.specs.declared.feeds.Style.TheVariants.{AllDocs}
use Rattle.hub_model.specs.Filter.{is_passing, Everything}
use Rattle.hub_model.specs.Journal.{Edit}
use Rattle.hub_model.specs.Revision.{Revision, is_same}
use Rattle.hub_model.specs.RightlyHanded.{ChangeItem, rows_of, IsAsked, IsRowOf, Follows, EndsAt}
use Rattle.hub_model.specs.Row.{ChangeRow, row_of}
use Rattle.hub_model.specs.RowKind.{change_rows}
use Rattle.hub_model.proofs.Rows.{current_within}
use Rattle.hub_model.proofs.Tests.{any_at, at_any, all_at, at_all, filter_in, in_filter, same_is, same_self}
use Rattle.hub_follow_model.specs.ChangesFeed.{ended_feed, items_of, IsChangesAnswer}
use Rattle.hub_follow_model.proofs.Done.{rows_of-items, contains_map, map_contains}
use Rattle.hub_follower.specs.Handed.{IsNumbered, end_of, is_after, are_rising, is_numbered}
use Rattle.hub_follower.specs.Handed.{numbered_end, same_revs, same_doc, same_mark}
use Rattle.hub_follower.specs.Handed.{same_row, is_shown, has_sequence, are_listed}
use Rattle.hub_follower.specs.Listing.{rows_above, all_above}

-- ---- rows that are the same

revs_are : (others revisions : List Revision) → same_revs others revisions ≡ true → others ≡ revisions
revs_are [] [] h = refl
revs_are [] (revision ∷ revisions) h = absurd (cc)
revs_are (other ∷ others) [] h = absurd (cc)
revs_are (other ∷ others) (revision ∷ revisions) h =
    let p = and_parts (is_same other revision) (same_revs others revisions) h in
    ap (λ z. z ∷ others) (same_is other revision p.0) ∙ ap (λ z. revision ∷ z) (revs_are others revisions p.1)

revs_self : (revisions : List Revision) → same_revs revisions revisions ≡ true
revs_self [] = refl
revs_self (revision ∷ revisions) =
    and_from (is_same revision revision) (same_revs revisions revisions) (same_self revision)
    (revs_self revisions)

-- lists of different lengths are not the same
pub lengths_differ : (revisions others : List Revision) → (length revisions ≡ length others → ⊥)
    → false ≡ same_revs revisions others
lengths_differ revisions others h =
    elim (cases_Bool (same_revs revisions others)) [
      | inl t ↦ absurd (h (ap length (revs_are revisions others t)))
      | inr t ↦ sym t
    ]

-- where each of two lists has a revision at a place, the comparison goes on after it
pub same_step : (revisions others : List Revision) (k : ℕ) (revision other : Revision)
    → slice_get revisions k ≡ Some revision → slice_get others k ≡ Some other
    → same_revs (drop k revisions) (drop k others) ≡
    (is_same revision other && same_revs (drop (k + 1) revisions) (drop (k + 1) others))
same_step revisions others k revision other a b =
    let next : suc k ≡ k + 1 = omega arith in
    from revisions others k a b
    ∙ ap (λ n. is_same revision other && same_revs (drop n revisions) (drop n others)) next
  where
    from : (revisions others : List Revision) (k : ℕ) → slice_get revisions k ≡ Some revision
        → slice_get others k ≡ Some other
        → same_revs (drop k revisions) (drop k others) ≡
        (is_same revision other && same_revs (drop (suc k) revisions) (drop (suc k) others))
    from [] others k a b = absurd (cc)
    from (x ∷ revisions) [] k a b = absurd (cc)
    from (x ∷ revisions) (y ∷ others) zero a b = rw (same_Some x revision a, same_Some y other b) refl
    from (x ∷ revisions) (y ∷ others) (suc k) a b = from revisions others k a b

-- a list has a revision at each place below its length
pub none_below : (revisions : List Revision) (k : ℕ) → k < length revisions → slice_get revisions k ≡ None → ⊥
none_below [] k low e = absurd (omega (arith, low))
none_below (revision ∷ revisions) zero low e = absurd (cc)
none_below (revision ∷ revisions) (suc k) low e = none_below revisions k (omega (arith, low)) e

doc_is : (a b : Option (List ℕ)) → same_doc a b ≡ true → a ≡ b
doc_is None None h = refl
doc_is None (Some b) h = absurd (cc)
doc_is (Some a) None h = absurd (cc)
doc_is (Some a) (Some b) h = ap (λ z. Some z) ((bytes_eq-Decides a b).0 h)

doc_self : (a : Option (List ℕ)) → same_doc a a ≡ true
doc_self None = refl
doc_self (Some a) = (bytes_eq-Decides a a).1 refl

mark_is : (a b : Bool) → same_mark a b ≡ true → a ≡ b
mark_is true b h = sym h
mark_is false true h = absurd (cc)
mark_is false false h = refl

mark_self : (a : Bool) → same_mark a a ≡ true
mark_self true = refl
mark_self false = refl

abbrev made : (seq : ℕ) (id : List ℕ) (changes : List Revision) (deleted : Bool)
    (doc : Option (List ℕ)) (seen : ℕ)
    → ChangeRow
made seq id changes deleted doc seen =
    record { seq = seq; id = id; changes = changes; deleted = deleted; doc = doc; seen = seen }

pub row_is : (row other : ChangeRow) → same_row row other ≡ true → row ≡ other
row_is row other h =
    let p = and_parts (nat_eq row.seq other.seq) _ h in
    let q = and_parts (nat_eq row.seen other.seen) _ p.1 in
    let r = and_parts (same_mark row.deleted other.deleted) _ q.1 in
    let s = and_parts (bytes_eq row.id other.id) _ r.1 in
    let t = and_parts (same_revs row.changes other.changes) (same_doc row.doc other.doc) s.1 in
    ap (λ z. made z row.id row.changes row.deleted row.doc row.seen) (eqb-true row.seq other.seq p.0)
    ∙ (ap (λ z. made other.seq z row.changes row.deleted row.doc row.seen)
    ((bytes_eq-Decides row.id other.id).0 s.0)
    ∙ (ap (λ z. made other.seq other.id z row.deleted row.doc row.seen)
    (revs_are row.changes other.changes t.0)
    ∙ (ap (λ z. made other.seq other.id other.changes z row.doc row.seen)
    (mark_is row.deleted other.deleted r.0)
    ∙ (ap (λ z. made other.seq other.id other.changes other.deleted z row.seen) (doc_is row.doc other.doc t.1)
    ∙ ap (λ z. made other.seq other.id other.changes other.deleted other.doc z)
    (eqb-true row.seen other.seen q.0)))))

pub row_self : (row : ChangeRow) → same_row row row ≡ true
row_self row =
    and_from (nat_eq row.seq row.seq) _ (eq-eqb row.seq row.seq refl)
    (and_from (nat_eq row.seen row.seen) _ (eq-eqb row.seen row.seen refl)
    (and_from (same_mark row.deleted row.deleted) _ (mark_self row.deleted)
    (and_from (bytes_eq row.id row.id) _ ((bytes_eq-Decides row.id row.id).1 refl)
    (and_from (same_revs row.changes row.changes) _ (revs_self row.changes) (doc_self row.doc)))))

-- ---- rows and their end

shape : (items : List ChangeItem) (last : ℕ) → end_of items ≡ Some last
    → (pending : ℕ) × (items ≡ items_of (rows_of items) last pending)
shape [] last e = absurd (none-some last e)
shape (Row row ∷ items) last e =
    let i = shape items last e in (i.0, ap (λ (z : List ChangeItem). Row row ∷ z) i.1)
shape (Beat ∷ items) last e = absurd (none-some last e)
shape (End l p ∷ []) last e = (p, ap (λ z. End z p ∷ []) (same_Some l last e))
shape (End l p ∷ item ∷ items) last e = absurd (none-some last e)

shaped : (rows : List ChangeRow) (last pending : ℕ) → end_of (items_of rows last pending) ≡ Some last
shaped [] last pending = refl
shaped (row ∷ rows) last pending = shaped rows last pending

length_items : (rows : List ChangeRow) (last pending : ℕ)
    → length (items_of rows last pending) ≡ suc (length rows)
length_items [] last pending = refl
length_items (row ∷ rows) last pending = ap suc (length_items rows last pending)

beats_of : (rows : List ChangeRow) (last pending : ℕ) → All (IsAsked false) (items_of rows last pending)
beats_of [] last pending = All-cons (IsAsked false) (End last pending) [] tt (All-nil (IsAsked false))
beats_of (row ∷ rows) last pending =
    All-cons (IsAsked false) (Row row) (items_of rows last pending) tt (beats_of rows last pending)

ends_of : (rows : List ChangeRow) (last pending : ℕ) → EndsAt last (items_of rows last pending)
ends_of [] last pending = (refl, refl)
ends_of (row ∷ rows) last pending = ends_of rows last pending

-- ---- rows that rise

abbrev IsAfter : (last seq seen : ℕ) → ChangeRow → Type 0
IsAfter last seq seen row = (seq < row.seq) × (row.seq ≤ last) × (seen ≤ row.seen)

after_is : (last seq seen : ℕ) (row : ChangeRow) → is_after last seq seen row ≡ true
    → IsAfter last seq seen row
after_is last seq seen row h =
    let p = and_parts (nat_lt seq row.seq) _ h in
    let q = and_parts (nat_le row.seq last) (nat_le seen row.seen) p.1 in
    (ltb-true seq row.seq p.0, leb-true row.seq last q.0, leb-true seen row.seen q.1)

is_after_from : (last seq seen : ℕ) (row : ChangeRow) → IsAfter last seq seen row
    → is_after last seq seen row ≡ true
is_after_from last seq seen row (a, b, c) =
    and_from (nat_lt seq row.seq) _ (lt-ltb seq row.seq a)
    (and_from (nat_le row.seq last) (nat_le seen row.seen) (le-leb row.seq last b) (le-leb seen row.seen c))

rising_is : (last seq seen : ℕ) (rows : List ChangeRow) → are_rising last seq seen rows ≡ true
    → AllPairs (Follows change_rows) rows × All (IsAfter last seq seen) rows
rising_is last seq seen [] h = (λ i j d a b. absurd (omega (arith, b)), All-nil (IsAfter last seq seen))
rising_is last seq seen (row ∷ rows) h =
    let p = and_parts (is_after last seq seen row) (are_rising last row.seq row.seen rows) h in
    let a = after_is last seq seen row p.0 in
    let i = rising_is last row.seq row.seen rows p.1 in (
      AllPairs-cons (Follows change_rows) row rows
          (All-weaker (IsAfter last row.seq row.seen) (Follows change_rows row)
          (λ r q. record { rises = q.0; later = q.2 }) rows i.1) i.0,
      All-cons (IsAfter last seq seen) row rows a
          (All-weaker (IsAfter last row.seq row.seen) (IsAfter last seq seen)
          (λ r q. let (u, v, w) = q in let (x, y, z) = a in (omega (arith, u, x), v, omega (arith, w, z)))
          rows i.1),
    )

is_rising : (last seq seen : ℕ) (rows : List ChangeRow) → AllPairs (Follows change_rows) rows
    → All (IsAfter last seq seen) rows → are_rising last seq seen rows ≡ true
is_rising last seq seen [] p a = refl
is_rising last seq seen (row ∷ rows) p a =
    and_from (is_after last seq seen row) (are_rising last row.seq row.seen rows)
    (is_after_from last seq seen row (All-head (IsAfter last seq seen) row rows a))
    (is_rising last row.seq row.seen rows
    (λ i j d u v. p (suc i) (suc j) d (omega (arith, u)) (omega (arith, v))) (λ k d l.
    let f = p 0 (suc k) d (omega arith) (omega (arith, l)) in
    let q = All-tail (IsAfter last seq seen) row rows a k d l in (f.rises, q.1, f.later)))

-- ---- the numbers

module _ (edits since : ℕ) (items : List ChangeItem) (last : ℕ) where
  pub record HasNumbers : Type 0 where
    pub ends : end_of items ≡ Some last
    pub few : length items ≤ 101
    pub from : since ≤ last
    pub to : last ≤ edits
    pub rise : are_rising last since 0 (rows_of items) ≡ true

  numbers_of : end_of items ≡ Some last → is_numbered edits since last items ≡ true → HasNumbers
  numbers_of e h =
      let p = and_parts (nat_le (length items) 101) _ h in
      let q = and_parts (nat_le since last) _ p.1 in
      let r = and_parts (nat_le last edits) (are_rising last since 0 (rows_of items)) q.1 in
      record {
        ends = e;
        few = leb-true (length items) 101 p.0;
        from = leb-true since last q.0;
        to = leb-true last edits r.0;
        rise = r.1;
      }

  pub has_numbers : numbered_end edits since items ≡ Some last → HasNumbers
  has_numbers h = by (end_of items) refl h
    where
      chosen : (l : ℕ) (b : Bool) → is_numbered edits since l items ≡ b → end_of items ≡ Some l
          → (if b then Some l else None) ≡ Some last → HasNumbers
      chosen l true t e k =
          let same = same_Some l last k in
          numbers_of (e ∙ ap (λ z. Some z) same) (subst (λ z. is_numbered edits since z items ≡ true) same t)
      chosen l false t e k = absurd (none-some last k)

      by : (o : Option ℕ) → end_of items ≡ o
          → option_and_then (λ l. if is_numbered edits since l items then Some l else None) o ≡ Some last
          → HasNumbers
      by None e k = absurd (none-some last k)
      by (Some l) e k = chosen l (is_numbered edits since l items) refl e k

  pub numbered : HasNumbers → numbered_end edits since items ≡ Some last
  numbered numbers =
      ap (option_and_then (λ l. if is_numbered edits since l items then Some l else None)) numbers.ends
      ∙ ap (λ b. if b then Some last else None)
      (and_from (nat_le (length items) 101) _ (le-leb (length items) 101 numbers.few)
      (and_from (nat_le since last) _ (le-leb since last numbers.from)
      (and_from (nat_le last edits) (are_rising last since 0 (rows_of items))
      (le-leb last edits numbers.to) numbers.rise)))

  pub is_numbered_so : numbered_end edits since items ≡ Some last → IsNumbered edits since items
  is_numbered_so h =
      let n = has_numbers h in
      let s = shape items last n.ends in
      let rows = rows_of items in
      let len = ap length s.1 ∙ length_items rows last s.0 in
      let few = n.few in
      (rows, last, s.0, s.1, omega (arith, len, few), (rising_is last since 0 rows n.rise).0, n.from, n.to)

-- ---- rows that were current

pub shown_is : (journal : List Edit) (row : ChangeRow) → is_shown journal row ≡ true
    → (c : Current) × Contains (current (take row.seen journal)) c
    × (row ≡ row_of (take row.seen journal) AllDocs false c)
shown_is journal row h =
    let K = take row.seen journal in
    let a = any_at (same_row row) (all_above K 0) h in
    let m = map_contains (row_of K AllDocs false) (rows_above K 0) a.0 a.1 in
    let f = filter_in (λ (c : Current). nat_lt 0 c.seq && is_passing Everything c.id) (current K) m.0 m.1 in
    (m.0, f.0, row_is row a.0 a.2 ∙ sym m.2)

listed_above : (journal : List Edit) (since : ℕ) (row : Current) → Contains (current journal) row
    → since < row.seq → Contains (all_above journal since) (row_of journal AllDocs false row)
listed_above journal since row m up =
    contains_map (row_of journal AllDocs false) row (rows_above journal since)
    (in_filter (λ (other : Current). nat_lt since other.seq && is_passing Everything other.id)
    (current journal) row m
    (and_from (nat_lt since row.seq) true (lt-ltb since row.seq up) refl))

is_shown_from : (journal : List Edit) (row : ChangeRow) (c : Current)
    → Contains (current (take row.seen journal)) c
    → row ≡ row_of (take row.seen journal) AllDocs false c → is_shown journal row ≡ true
is_shown_from journal row c m e =
    let K = take row.seen journal in
    let w = current_within 1 K c m in
    at_any (same_row row) (all_above K 0) (row_of K AllDocs false c)
    (listed_above K 0 c m (let low = w.0 in omega (arith, low)))
    (subst (λ z. same_row row z ≡ true) e (row_self row))

-- ---- rows of which none is left out

listed_is : (journal : List Edit) (since last : ℕ) (rows : List ChangeRow)
    → are_listed last rows (all_above journal since) ≡ true
    → (c : Current) → Contains (current journal) c → since < c.seq → c.seq ≤ last
    → Contains (map (λ (row : ChangeRow). row.seq) rows) c.seq
listed_is journal since last rows h c m up low =
    ⊎_elim (λ (t : nat_lt last c.seq ≡ true).
    let above = ltb-true last c.seq t in absurd (omega (arith, above, low)))
    (λ (t : has_sequence rows c.seq ≡ true).
    let a = any_at (λ (row : ChangeRow). nat_eq row.seq c.seq) rows t in
    subst (λ z. Contains (map (λ (row : ChangeRow). row.seq) rows) z) (eqb-true a.0.seq c.seq a.2)
    (contains_map (λ (row : ChangeRow). row.seq) a.0 rows a.1))
    (or_cases (nat_lt last c.seq) (has_sequence rows c.seq)
    (at_all (λ (row : ChangeRow). nat_lt last row.seq || has_sequence rows row.seq)
    (all_above journal since) h
    (row_of journal AllDocs false c) (listed_above journal since c m up)))

is_listed_from : (journal : List Edit) (since last : ℕ) (rows : List ChangeRow)
    → ((c : Current) → Contains (current journal) c → since < c.seq → c.seq ≤ last
    → Contains (map (λ (row : ChangeRow). row.seq) rows) c.seq)
    → are_listed last rows (all_above journal since) ≡ true
is_listed_from journal since last rows whole =
    all_at (λ (row : ChangeRow). nat_lt last row.seq || has_sequence rows row.seq)
    (all_above journal since) each
  where
    each : (row : ChangeRow) → Contains (all_above journal since) row
        → (nat_lt last row.seq || has_sequence rows row.seq) ≡ true
    each row m =
        let q = map_contains (row_of journal AllDocs false) (rows_above journal since) row m in
        let c = q.0 in
        let f = filter_in (λ (d : Current). nat_lt since d.seq && is_passing Everything d.id)
        (current journal) c q.1 in
        let up = ltb-true since c.seq (and_parts (nat_lt since c.seq) true f.1).0 in
        subst (λ (z : ChangeRow). (nat_lt last z.seq || has_sequence rows z.seq) ≡ true) q.2
        (⊎_elim (λ (over : last < c.seq).
        or_left (nat_lt last c.seq) (has_sequence rows c.seq) (lt-ltb last c.seq over))
        (λ (low : c.seq ≤ last).
        or_right (nat_lt last c.seq) (has_sequence rows c.seq) (among c.seq (whole c f.0 up low)))
        (cases_lt last c.seq))
      where
        among : (n : ℕ) → Contains (map (λ (row : ChangeRow). row.seq) rows) n → has_sequence rows n ≡ true
        among n k =
            let p = map_contains (λ (row : ChangeRow). row.seq) rows n k in
            at_any (λ (row : ChangeRow). nat_eq row.seq n) rows p.0 p.1 (eq-eqb p.0.seq n p.2)

-- ---- the answer

module _ (journal : List Edit) (since : ℕ) (items : List ChangeItem) where
  pub decided : (last : ℕ)
      → numbered_end (length journal) since items ≡ Some last
      → list_all (is_shown journal) (rows_of items) ≡ true
      → are_listed last (rows_of items) (all_above journal since) ≡ true
      → IsChangesAnswer journal since items (rows_of items) last
  decided last numbers shown listed =
      let n = has_numbers (length journal) since items last numbers in
      let rows = rows_of items in
      let s = shape items last n.ends in
      let rise = rising_is last since 0 rows n.rise in
      let len = ap length s.1 ∙ length_items rows last s.0 in
      let few = n.few in (
        s.0,
        s.1,
        record {
          rising = rise.0;
          rows = λ k d l.
              let row = get_or rows k d in
              let m = Contains-get_or rows k d l in
              let c = shown_is journal row (at_all (is_shown journal) rows shown row m) in
              let a = rise.1 k d l in record {
                shown = (c.0, c.1, c.2, refl);
                above = a.0;
                reached = a.1;
                bounded = a.1;
              };
          from_since = n.from;
          to_length = n.to;
          ends = subst (λ z. EndsAt last z) (sym s.1) (ends_of rows last s.0);
          whole = λ c now passing up low. listed_is journal since last rows listed c now up low;
          limited = omega (arith, len, few);
          beats = subst (λ z. All (IsAsked false) z) (sym s.1) (beats_of rows last s.0);
        },
      )

  pub record IsDecided (last : ℕ) : Type 0 where
    pub numbers : numbered_end (length journal) since items ≡ Some last
    pub shown : list_all (is_shown journal) (rows_of items) ≡ true
    pub listed : are_listed last (rows_of items) (all_above journal since) ≡ true

  pub answered : (rows : List ChangeRow) (last : ℕ) → IsChangesAnswer journal since items rows last
      → IsDecided last
  answered rows last (pending, same, right) =
      let own : rows_of items ≡ rows = ap rows_of same ∙ rows_of-items rows last pending in
      let len = ap length same ∙ length_items rows last pending in
      let few = right.limited in
      let many = ap length own in
      let all = right.rows in
      record {
        numbers = numbered (length journal) since items last (record {
          ends = ap end_of same ∙ shaped rows last pending;
          few = omega (arith, len, few, many);
          from = right.from_since;
          to = right.to_length;
          rise =
              is_rising last since 0 (rows_of items) right.rising
              (λ k d l. let r = all k d l in (r.above, r.reached, omega arith));
        });
        shown = all_at (is_shown journal) (rows_of items) (λ row m.
            let r =
            All-contains (IsRowOf change_rows journal (ended_feed since last (length rows)))
            (rows_of items) row all m in
            let (c, now, e, p) = r.shown in is_shown_from journal row c now e);
        listed =
            is_listed_from journal since last (rows_of items) (λ c now up low. right.whole c now refl up low);
      }

  -- where a test fails the items are no answer
  pub not_numbered : None ≡ numbered_end (length journal) since items → (rows : List ChangeRow) (last : ℕ)
      → ¬ IsChangesAnswer journal since items rows last
  not_numbered h rows last a = none-some last (h ∙ (answered rows last a).numbers)

  pub not_shown : list_all (is_shown journal) (rows_of items) ≡ false → (rows : List ChangeRow) (last : ℕ)
      → ¬ IsChangesAnswer journal since items rows last
  not_shown h rows last a = both_ways _ h (answered rows last a).shown

  pub not_listed : (end : ℕ) → numbered_end (length journal) since items ≡ Some end
      → are_listed end (rows_of items) (all_above journal since) ≡ false → (rows : List ChangeRow) (last : ℕ)
      → ¬ IsChangesAnswer journal since items rows last
  not_listed end n h rows last a =
      let d = answered rows last a in
      both_ways _ h
      (subst (λ z. are_listed z (rows_of items) (all_above journal since) ≡ true)
      (same_Some last end (sym d.numbers ∙ n)) d.listed)

  pub end_decides : (end : Option ℕ)
      → IfSome end (λ last. IsChangesAnswer journal since items (rows_of items) last)
      → (end ≡ None → (rows : List ChangeRow) (last : ℕ) → ¬ IsChangesAnswer journal since items rows last)
      → IsTrue (is_some end)
      ↔ ((rows : List ChangeRow) × (last : ℕ) × IsChangesAnswer journal since items rows last)
  end_decides None right wrong = (λ (h : false ≡ true). absurd (cc), λ p. absurd (wrong refl p.0 p.1 p.2))
  end_decides (Some last) right wrong = (λ h. (rows_of items, last, right), λ p. refl)

  -- memory may run out once the numbers are those of an answer
  pub licensed : {A E : Type 0} (r : Result A E) (last : ℕ)
      → 0 < length journal → numbered_end (length journal) since items ≡ Some last
      → OnErr r ((0 < length journal) × IsNumbered (length journal) since items)
  licensed (Ok x) last some h = tt
  licensed (Err e) last some h = (some, is_numbered_so (length journal) since items last h)
