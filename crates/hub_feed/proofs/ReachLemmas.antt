-- The first row in reach, searched row by row.
use Rattle.std.proofs.Common.{◌≡◌, ℕ, suc, ◌<◌, ◌≤◌, List, [], ◌∷◌, Bool, true, false, ◌&&◌, nat_lt, inl}
use Rattle.std.proofs.Common.{inr, refl, sym, ◌∙◌, ap, subst, Some, None, find, Contains, AllPairs, arith}
use Rattle.std.proofs.lemmas.Bool.{cases_Bool, both_ways, and_parts, ltb-true, lt-ltb}
use Rattle.std.proofs.lemmas.Option.{same_Some, none-some}
use Rattle.hub_model.specs.Current.{Current}
use Rattle.hub_model.specs.Feed.{Feed, is_in_reach, is_within}
use Rattle.hub_model.specs.Filter.{is_passing}
use Rattle.hub_model.proofs.Lists.{contains_here, contains_there}
use Rattle.hub_model.proofs.Shown.{find_is, find_not}
use Rattle.hub_feed.specs.Reach.{first_within}

-- two tests that agree on each row find the same row
pub find_same : (p q : Current → Bool) (rows : List Current)
    → ((other : Current) → Contains rows other → p other ≡ q other) → find p rows ≡ find q rows
find_same p q [] same = refl
find_same p q (row ∷ rows) same =
    let here = same row (contains_here row rows) in
    let later = find_same p q rows (λ other h. same other (contains_there row other rows h)) in
    cc

-- a test that no row passes finds no row
pub find_nothing : (p : Current → Bool) (rows : List Current)
    → ((other : Current) → Contains rows other → p other ≡ true → ⊥) → find p rows ≡ None
find_nothing p [] none = refl
find_nothing p (row ∷ rows) none =
    elim (cases_Bool (p row)) [
      | inl t ↦ absurd (none row (contains_here row rows) t)
      | inr t ↦ rw t (find_nothing p rows (λ other h. none other (contains_there row other rows h)))
    ]

-- where rows rise, the rows after the first are above it, and rise
pub above_first : (row : Current) (rows : List Current)
    → AllPairs (λ (a b : Current). a.seq < b.seq) (row ∷ rows)
    → (other : Current) → Contains rows other → row.seq < other.seq
above_first row rows rise other (k, l, e) =
    subst (λ (x : Current). row.seq < x.seq) e (rise 0 (suc k) other (omega arith) (omega arith))

pub rest_rises : (row : Current) (rows : List Current)
    → AllPairs (λ (other b : Current). other.seq < b.seq) (row ∷ rows)
    → AllPairs (λ (other b : Current). other.seq < b.seq) rows
rest_rises row rows rise i j x lt inside = rise (suc i) (suc j) x (omega arith) (omega arith)

-- a row is ahead: above the feed's place and not above its bound
abbrev is_ahead : Feed → Current → Bool
is_ahead feed row = nat_lt feed.place row.seq && is_within feed.bound row.seq

and_assoc : (x y z : Bool) → (x && (y && z)) ≡ ((x && y) && z)
and_assoc true y z = refl
and_assoc false y z = refl

-- a row is in reach where it is ahead and passes the filter
reach_is : (feed : Feed) (row : Current)
    → is_in_reach feed row ≡ (is_ahead feed row && is_passing feed.params.filter row.id)
reach_is feed row =
    and_assoc (nat_lt feed.place row.seq) (is_within feed.bound row.seq) (is_passing feed.params.filter row.id)

-- where no row is ahead, no row is in reach
pub none_in_reach : (feed : Feed) (rows : List Current) → None ≡ first_within feed.place feed.bound rows
    → find (is_in_reach feed) rows ≡ None
none_in_reach feed rows e =
    find_nothing (is_in_reach feed) rows (λ c h t. find_not (is_ahead feed) rows (sym e) c h
    (and_parts (is_ahead feed c) (is_passing feed.params.filter c.id) (sym (reach_is feed c) ∙ t)).0)

-- the first row ahead is the first row in reach, if it passes the filter
pub found_in_reach : (feed : Feed) (rows : List Current) (row : Current)
    → Some row ≡ first_within feed.place feed.bound rows → is_passing feed.params.filter row.id ≡ true
    → find (is_in_reach feed) rows ≡ Some row
found_in_reach feed [] row e t = absurd (none-some row (sym e))
found_in_reach feed (other ∷ rows) row e t =
    let r = reach_is feed other in
    elim (cases_Bool (is_ahead feed other)) [
      | inl y ↦ let same : row ≡ other = same_Some row other (e ∙ rw y refl) in
          let t' : is_passing feed.params.filter other.id ≡ true =
          subst (λ (x : Current). is_passing feed.params.filter x.id ≡ true) same t in
          rw r (rw y (rw t' (ap Some (sym same))))
      | inr n ↦ rw r (rw n (found_in_reach feed rows row (e ∙ rw n refl) t))
    ]

-- a row that is not above the place is not in reach
below_place : (feed : Feed) (row : Current) → row.seq ≤ feed.place → is_in_reach feed row ≡ false
below_place feed row h = elim (cases_Bool (nat_lt feed.place row.seq)) [
  | inl t ↦ absurd (let i : feed.place < row.seq = ltb-true feed.place row.seq t in omega arith)
  | inr t ↦ rw t refl
]

-- a row above two places is in reach of both places, or of neither
same_above : (feed : Feed) (seq : ℕ) (row : Current) → feed.place < row.seq → seq < row.seq
    → is_in_reach feed row ≡ is_in_reach (record feed { place = seq }) row
same_above feed seq row low high =
    let a : nat_lt feed.place row.seq ≡ true = lt-ltb feed.place row.seq low in
    let b : nat_lt seq row.seq ≡ true = lt-ltb seq row.seq high in
    cc

-- a feed at a first row that does not pass has the same first row in reach
behind_first : (feed : Feed) (row : Current) (rows : List Current)
    → AllPairs (λ (other b : Current). other.seq < b.seq) (row ∷ rows)
    → is_ahead feed row ≡ true → is_passing feed.params.filter row.id ≡ false
    → find (is_in_reach feed) (row ∷ rows) ≡ find (is_in_reach (record feed { place = row.seq })) (row ∷ rows)
behind_first feed row rows rise y stays =
    let behind : Feed = record feed { place = row.seq } in
    let place : feed.place < row.seq =
    ltb-true feed.place row.seq (and_parts (nat_lt feed.place row.seq) (is_within feed.bound row.seq) y).0 in
    let before : is_in_reach feed row ≡ false = reach_is feed row ∙ rw y stays in
    let after : is_in_reach behind row ≡ false = below_place behind row (omega arith) in
    let later : find (is_in_reach feed) rows ≡ find (is_in_reach behind) rows =
    find_same (is_in_reach feed) (is_in_reach behind) rows
    (λ c h. let above = above_first row rows rise c h in same_above feed row.seq c (omega arith) above) in
    rw before (rw after later)

-- a feed at the first row ahead has the same first row in reach, if that row does not pass
pub reach_behind : (feed : Feed) (rows : List Current) (row : Current)
    → AllPairs (λ (a b : Current). a.seq < b.seq) rows
    → Some row ≡ first_within feed.place feed.bound rows → is_passing feed.params.filter row.id ≡ false
    → find (is_in_reach feed) rows ≡ find (is_in_reach (record feed { place = row.seq })) rows
reach_behind feed [] row rise e stays = refl
reach_behind feed (other ∷ rows) row rise e stays =
    elim (cases_Bool (is_ahead feed other)) [
      | inl y ↦ let same : other ≡ row = sym (same_Some row other (e ∙ rw y refl)) in
          let stays' : is_passing feed.params.filter other.id ≡ false =
          subst (λ (x : Current). is_passing feed.params.filter x.id ≡ false) (sym same) stays in
          subst (λ (x : Current).
          find (is_in_reach feed) (other ∷ rows) ≡ find (is_in_reach (record feed { place = x.seq }))
          (other ∷ rows))
          same (behind_first feed other rows rise y stays')
      | inr n ↦ let behind : Feed = record feed { place = row.seq } in
          let found : Some row ≡ first_within feed.place feed.bound rows = e ∙ rw n refl in
          let above : other.seq < row.seq = above_first other rows rise row
          (find_is (is_ahead feed) rows row (sym found)).1 in
          let before : is_in_reach feed other ≡ false = reach_is feed other ∙ rw n refl in
          let after : is_in_reach behind other ≡ false = below_place behind other (omega arith) in
          rw before (rw after (reach_behind feed rows row (rest_rises other rows rise) found stays))
    ]

-- a row ahead is above the place
pub ahead_above : (feed : Feed) (rows : List Current) (row : Current)
    → Some row ≡ first_within feed.place feed.bound rows → feed.place < row.seq
ahead_above feed rows row e =
    ltb-true feed.place row.seq
    (and_parts (nat_lt feed.place row.seq) (is_within feed.bound row.seq)
    (find_is (is_ahead feed) rows row (sym e)).0).0

-- no row is in reach of a place that is at the length or above it
pub none_above : (feed : Feed) (rows : List Current) (len : ℕ)
    → ((row : Current) → Contains rows row → row.seq ≤ len)
    → len ≤ feed.place → find (is_in_reach feed) rows ≡ None
none_above feed rows len inside h =
    find_nothing (is_in_reach feed) rows
    (λ row m t. both_ways (is_in_reach feed row)
    (below_place feed row (let i = inside row m in omega arith)) t)
