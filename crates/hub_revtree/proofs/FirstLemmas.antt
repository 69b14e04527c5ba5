-- The first stem that has a revision, and the entries and others that lead to it.
use Rattle.std.proofs.Common.{◌≡◌, ℕ, zero, suc, ◌+◌, ◌<◌, ◌≤◌, ◌⊎◌, List, length, take}
use Rattle.std.proofs.Common.{Bool, true, false, inl, inr, refl, sym, ap, ◌∙◌, subst, arith}
use Rattle.std.specs.Prelude.{Option, Some, None, cond, nat_eq, nat_lt, slice_get, unwrap_or}
use Rattle.std.specs.Ordering.{eq_by_cmp}
use Rattle.std.specs.Cmp.{Equal-is}
use Rattle.std.proofs.lemmas.Bool.{both_ways, cases_Bool, eqb-true, eq-eqb, ltb-true, ltb-false}
use Rattle.std.proofs.lemmas.List.{length-take}
use Rattle.std.proofs.lemmas.Option.{same_Some, slice_get_within}
use Rattle.hub_model.specs.Revision.{Revision, is_same, revision_cmp}
use Rattle.hub_model.specs.Path.{names}
use Rattle.hub_model.proofs.Order.{revision_equal}
use Rattle.hub_model.proofs.Tests.{same_is, same_self}
use Rattle.hub_revtree.specs.declared.stem.Place.{Place}
use Rattle.hub_revtree.specs.First.{first_put}
use Rattle.hub_revtree.specs.Index.{AreTold, Has, HasTo, IsFirstPlace, IsFirstWith}
use Rattle.hub_revtree.specs.Key.{IsKey}
use Rattle.hub_revtree.specs.Order.{revisions_level}
use Rattle.hub_revtree.specs.Stem.{Stem, has_revision, revisions_at, revisions_in}
use Rattle.hub_revtree.proofs.KeyLemmas.{same_key}
use Rattle.hub_revtree.proofs.StemLemmas.{any_at, any_place, get_taken}

no_number : (m : ℕ) → ◌≡◌ {A = Option ℕ} None (Some m) → ⊥
no_number m q = absurd (cc)

-- ---- numbers put at arguments without a number

module _ {K : Type 0} (same : K → K → Bool) (exact : (x y : K) → same x y ≡ true → x ≡ y) (f g : K → Option ℕ)
    (a : K) (n : ℕ) (put : (x : K) → g x ≡ first_put same f a n x) where
  -- an old number stays
  pub put_keeps : (x : K) (m : ℕ) → f x ≡ Some m → g x ≡ Some m
  put_keeps x m e = put x ∙ elim (cases_Bool (same a x)) [
    | inl t ↦ rw t (ap (λ o. Some (unwrap_or o n)) (ap f (exact a x t) ∙ e))
    | inr t ↦ rw t e
  ]

  -- a new number is the one that was put
  pub put_new : (x : K) (m : ℕ) → g x ≡ Some m → (f x ≡ Some m) ⊎ ((m ≡ n) × (a ≡ x) × (f a ≡ None))
  put_new x m e = elim (cases_Bool (same a x)) [
    | inl t ↦ from (f a) refl (rw t at (sym (put x) ∙ e)) (exact a x t)
    | inr t ↦ inl (rw t at (sym (put x) ∙ e))
  ]
    where
      from : (o : Option ℕ) → f a ≡ o → Some (unwrap_or o n) ≡ Some m → a ≡ x
          → (f x ≡ Some m) ⊎ ((m ≡ n) × (a ≡ x) × (f a ≡ None))
      from None p q s = inr (sym (same_Some n m q), s, p)
      from (Some k) p q s = inl (ap f (sym s) ∙ (p ∙ q))

  pub put_own : same a a ≡ true → g a ≡ Some (unwrap_or (f a) n)
  put_own t = put a ∙ rw t refl

-- keys that are level are the same
pub exact_keys : (x y : ℕ) → nat_eq x y ≡ true → x ≡ y
exact_keys x y t = eqb-true x y t

pub exact_revisions : (revision other : Revision) → eq_by_cmp revision_cmp revision other ≡ true
    → revision ≡ other
exact_revisions revision other t =
    revision_equal revision other ((Equal-is (revision_cmp revision other)).0 t)

pub level_self : (revision : Revision) → eq_by_cmp revision_cmp revision revision ≡ true
level_self revision = revisions_level.refl revision

-- where the argument has a number, no number changes
pub put_nothing : {K : Type 0} (same : K → K → Bool) → ((x y : K) → same x y ≡ true → x ≡ y)
    → (f : K → Option ℕ) (a : K) (n m : ℕ) → f a ≡ Some m → (x : K) → f x ≡ first_put same f a n x
put_nothing same exact f a n m e x = elim (cases_Bool (same a x)) [
  | inl t ↦ rw t (ap f (sym (exact a x t)) ∙ (e ∙ ap (λ o. Some (unwrap_or o n)) (sym e)))
  | inr t ↦ rw t refl
]

-- where the argument has no number, this number is put
pub put_one : {K : Type 0} (same : K → K → Bool) (f g : K → Option ℕ) (a : K) (n : ℕ) → f a ≡ None
    → ((x : K) → g x ≡ cond (same a x) (Some n) (f x)) → (x : K) → g x ≡ first_put same f a n x
put_one same f g a n e put x = put x ∙ ap (λ o. cond (same a x) (Some (unwrap_or o n)) (f x)) (sym e)

-- where the argument had a number, that number is put back
pub put_back : {K : Type 0} (same : K → K → Bool) (f g h : K → Option ℕ) (a : K) (n m : ℕ) → f a ≡ Some m
    → ((x : K) → g x ≡ cond (same a x) (Some n) (f x)) → ((x : K) → h x ≡ cond (same a x) (Some m) (g x))
    → (x : K) → h x ≡ first_put same f a n x
put_back same f g h a n m e put back x = elim (cases_Bool (same a x)) [
  | inl t ↦ back x ∙ rw t (ap (λ o. Some (unwrap_or o n)) (sym e))
  | inr t ↦ back x ∙ rw t (put x ∙ rw t refl)
]

-- ---- one revision more

-- `more` says the same as `has`, and also that stem n has revision
pub record IsOneMore (has more : ℕ → Revision → Type 0) (n : ℕ) (revision : Revision) : Type 0 where
  pub wide : (k : ℕ) (other : Revision) → has k other → more k other
  pub narrow : (k : ℕ) (other : Revision) → more k other → has k other ⊎ ((k ≡ n) × (other ≡ revision))
  pub own : more n revision
  pub bound : (k : ℕ) (other : Revision) → has k other → k ≤ n

-- no stem before stem n has revision
abbrev pub IsFresh : (ℕ → Revision → Type 0) → ℕ → Revision → Type 0
IsFresh has n revision = (j : ℕ) → j < n → ¬ has j revision

-- the entry or the other leads from revision to stem n
abbrev pub IsToldAt : (ℕ → Option ℕ) → (Revision → Option ℕ) → ℕ → Revision → Type 0
IsToldAt entry other n revision =
    ((key : ℕ) × IsKey revision.hash key × (entry key ≡ Some n)) ⊎ (other revision ≡ Some n)

module _ (has more : ℕ → Revision → Type 0) (n : ℕ) (revision : Revision)
    (one : IsOneMore has more n revision)
    (e f : ℕ → Option ℕ) (o p : Revision → Option ℕ) (t : AreTold has e o)
    (keeps : (key m : ℕ) → e key ≡ Some m → f key ≡ Some m)
    (new : (key m : ℕ) → f key ≡ Some m → (e key ≡ Some m) ⊎ ((m ≡ n) × IsKey revision.hash key))
    (other_keeps : (other : Revision) (m : ℕ) → o other ≡ Some m → p other ≡ Some m)
    (other_new : (other : Revision) (m : ℕ) → p other ≡ Some m
    → (o other ≡ Some m) ⊎ ((m ≡ n) × (other ≡ revision) × IsFresh has n revision))
    (own_key : (key : ℕ) → IsKey revision.hash key → (m : ℕ) × (f key ≡ Some m) × (m ≤ n))
    (own_told : IsFresh has n revision → IsToldAt f p n revision) where
  more_entries : (key m : ℕ) → f key ≡ Some m → (other : Revision) × more m other × IsKey other.hash key
  more_entries key m q = elim (new key m q) [
    | inl i ↦ let w = t.entries key m i in (w.0, one.wide m w.0 w.1, w.2)
    | inr i ↦ (revision, subst (λ k. more k revision) (sym i.0) one.own, i.1)
  ]

  more_keyed : (k key : ℕ) (other : Revision) → more k other → IsKey other.hash key
      → (first : ℕ) × (f key ≡ Some first) × (first ≤ k)
  more_keyed k key other h is = elim (one.narrow k other h) [
    | inl i ↦ let w = t.keyed k key other i is in (w.0, keeps key w.0 w.1, w.2)
    | inr i ↦
        let w = own_key key (subst (λ (z : Revision). IsKey z.hash key) i.1 is) in
        (w.0, w.1, omega (arith, w.2, i.0))
  ]

  more_others : (k : ℕ) (other : Revision) → p other ≡ Some k → IsFirstWith more k other
  more_others k other q = elim (other_new other k q) [
    | inl i ↦ let w = t.others k other i in (
      one.wide k other w.0,
      λ j low g. elim (one.narrow j other g) [
        | inl h ↦ w.1 j low h
        | inr h ↦ absurd (omega (arith, low, h.0, one.bound k other w.0))
      ],
    )
    | inr i ↦ (
      subst (λ (z : Revision). more k z) (sym i.1) (subst (λ j. more j revision) (sym i.0) one.own),
      λ j low g. elim (one.narrow j other g) [
        | inl h ↦ i.2 j (omega (arith, low, i.0)) (subst (λ (z : Revision). has j z) i.1 h)
        | inr h ↦ absurd (omega (arith, low, i.0, h.0))
      ],
    )
  ]

  more_told : (k : ℕ) (other : Revision) → IsFirstWith more k other → IsToldAt f p k other
  more_told k other w = elim (one.narrow k other w.0) [
    | inl h ↦ elim (t.told k other (h, λ j low g. w.1 j low (one.wide j other g))) [
      | inl i ↦ inl (i.0, i.1, keeps i.0 k i.2)
      | inr i ↦ inr (other_keeps other k i)
    ]
    | inr h ↦
        let own =
        own_told (λ j low g.
        w.1 j (omega (arith, low, h.0)) (one.wide j other (subst (λ (z : Revision). has j z) (sym h.1) g))) in
        subst (λ (z : Revision). IsToldAt f p k z) (sym h.1)
        (subst (λ j. IsToldAt f p j revision) (sym h.0) own)
  ]

  pub one_told : AreTold more f p
  one_told = record { entries = more_entries; keyed = more_keyed; others = more_others; told = more_told }

-- ---- the first stem

least : (P : ℕ → Bool) (k : ℕ) → P k ≡ true
    → (f : ℕ) × (f ≤ k) × (P f ≡ true) × ((j : ℕ) → j < f → ¬ (P j ≡ true))
least P zero t = (0, omega arith, t, λ j low g. absurd (omega (arith, low)))
least P (suc k) t = elim (cases_Bool (P 0)) [
  | inl u ↦ (0, omega arith, u, λ j low g. absurd (omega (arith, low)))
  | inr u ↦ let i = least (λ j. P (suc j)) k t in (suc i.0, omega (arith, i.1), i.2, none i.0 u i.3)
]
  where
    none : (f : ℕ) → P 0 ≡ false → ((j : ℕ) → j < f → ¬ (P (suc j) ≡ true)) → (j : ℕ) → j < suc f
        → ¬ (P j ≡ true)
    none f u i zero low g = both_ways _ u g
    none f u i (suc j) low g = i j (omega (arith, low)) g

-- where a stem has a revision, there is a first stem that has it
pub first_exists : (stems : List Stem) (j : ℕ) (revision : Revision) → Has stems j revision
    → (f : ℕ) × (f ≤ j) × IsFirstWith (Has stems) f revision
first_exists stems j revision h =
    let i = least (λ k. names (revisions_at stems k) revision) j h in (i.0, i.1, (i.2, i.3))

-- there is one first stem alone
pub first_same : (has : ℕ → Revision → Type 0) (k m : ℕ) (revision : Revision) → IsFirstWith has k revision
    → IsFirstWith has m revision → k ≡ m
first_same has k m revision i j = elim (cases_Bool (nat_eq k m)) [
  | inl t ↦ eqb-true k m t
  | inr t ↦ absurd (elim (apart k m t) [
    | inl low ↦ j.1 k low i.0
    | inr low ↦ i.1 m low j.0
  ])
]
  where
    above : (k m : ℕ) → m ≤ k → nat_eq k m ≡ false → m < k
    above k m low t = grind (arith, low, t)

    apart : (k m : ℕ) → nat_eq k m ≡ false → (k < m) ⊎ (m < k)
    apart k m t = elim (cases_Bool (nat_lt k m)) [
      | inl u ↦ inl (ltb-true k m u)
      | inr u ↦ inr (above k m (ltb-false k m u) t)
    ]

-- the stem of a place has the revision at that place
pub has_there : (stems : List Stem) (k at : ℕ) (revision : Revision)
    → slice_get (revisions_at stems k) at ≡ Some revision → Has stems k revision
has_there stems k at revision e =
    any_at (is_same revision) (revisions_at stems k) at revision e (same_self revision)

pub there_has : (stems : List Stem) (k : ℕ) (revision : Revision) → Has stems k revision
    → (at : ℕ) × (slice_get (revisions_at stems k) at ≡ Some revision)
there_has stems k revision h =
    let i = any_place (is_same revision) (revisions_at stems k) h in
    (i.0, i.2 ∙ ap Some (sym (same_is revision i.1 i.3)))

pub has_low : (stems : List Stem) (k : ℕ) (revision : Revision) → Has stems k revision → k < length stems
has_low stems k revision h = from (slice_get stems k) refl h
  where
    from : (maybe_stem : Option Stem) → slice_get stems k ≡ maybe_stem
        → names (revisions_in maybe_stem) revision ≡ true → k < length stems
    from None e t = absurd (cc)
    from (Some s) e t = slice_get_within stems k s e

-- the stems have each revision that one of them has, and no other
pub has_any : (stems : List Stem) (k : ℕ) (revision : Revision) → Has stems k revision
    → has_revision stems revision ≡ true
has_any stems k revision h = from (slice_get stems k) refl h
  where
    from : (maybe_stem : Option Stem) → slice_get stems k ≡ maybe_stem
        → names (revisions_in maybe_stem) revision ≡ true → has_revision stems revision ≡ true
    from None e t = absurd (cc)
    from (Some s) e t = any_at (λ (stem : Stem). names stem.revisions revision) stems k s e t

pub none_has : (stems : List Stem) (revision : Revision) → ((k : ℕ) → ¬ Has stems k revision)
    → has_revision stems revision ≡ false
none_has stems revision none = elim (cases_Bool (has_revision stems revision)) [
  | inl t ↦ let i =
      any_place (λ (stem : Stem). names stem.revisions revision) stems t in absurd (none i.0 (rw i.2 i.3))
  | inr t ↦ t
]

-- the first ones of the stems
pub taken_has : (stems : List Stem) (n k : ℕ) (revision : Revision) → Has (take n stems) k revision → (k < n)
    × Has stems k revision
taken_has stems n k revision h =
    let low = has_low (take n stems) k revision h in
    let few : k < n = omega (arith, low, length-take n stems) in
    (few, subst (λ o. names (revisions_in o) revision ≡ true) (get_taken n k stems few) h)

pub has_taken : (stems : List Stem) (n k : ℕ) (revision : Revision) → k < n → Has stems k revision
    → Has (take n stems) k revision
has_taken stems n k revision low h =
    subst (λ o. names (revisions_in o) revision ≡ true) (sym (get_taken n k stems low)) h

-- ---- the first ones, and a part of the next one

pub below_last : (k n m : ℕ) → m ≡ n + 1 → nat_eq k n ≡ false → k < m → k < n
below_last k n m long t low = grind (arith, long, low, t)

pub to_has : (stems : List Stem) (n most k : ℕ) (revision : Revision) → HasTo stems n most k revision
    → Has stems k revision
to_has stems n most k revision (inl h) = h.1
to_has stems n most k revision (inr h) =
    subst (λ j. Has stems j revision) (sym h.0) (has_there stems n h.1.0 revision h.1.2)

pub none_to : (stems : List Stem) (n k : ℕ) (revision : Revision) → HasTo stems n 0 k revision → (k < n)
    × Has stems k revision
none_to stems n k revision (inl h) = h
none_to stems n k revision (inr h) = absurd (omega (arith, h.1.1))

pub all_to : (stems : List Stem) (n most k : ℕ) (revision : Revision) → length stems ≡ n + 1
    → length (revisions_at stems n) ≤ most → Has stems k revision → HasTo stems n most k revision
all_to stems n most k revision long past h = elim (cases_Bool (nat_eq k n)) [
  | inl t ↦
      let same = eqb-true k n t in
      let i = there_has stems n revision (subst (λ j. Has stems j revision) same h) in
      inr (same, (i.0, omega (arith, past, slice_get_within (revisions_at stems n) i.0 revision i.1), i.1))
  | inr t ↦ inl (below_last k n (length stems) long t (has_low stems k revision h), h)
]

pub one_to : (stems : List Stem) (n at : ℕ) (other : Revision)
    → slice_get (revisions_at stems n) at ≡ Some other
    → IsOneMore (HasTo stems n at) (HasTo stems n (at + 1)) n other
one_to stems n at other there =
    record { wide = wide; narrow = narrow; own = inr (refl, (at, omega arith, there)); bound = bound }
  where
    wide : (k : ℕ) (revision : Revision) → HasTo stems n at k revision → HasTo stems n (at + 1) k revision
    wide k revision (inl h) = inl h
    wide k revision (inr h) = inr (h.0, (h.1.0, omega (arith, h.1.1), h.1.2))

    below : (a n : ℕ) → a < n + 1 → nat_eq a n ≡ false → a < n
    below a n low t = grind (arith, low, t)

    narrow : (k : ℕ) (revision : Revision) → HasTo stems n (at + 1) k revision → HasTo stems n at k revision
        ⊎ ((k ≡ n) × (revision ≡ other))
    narrow k revision (inl h) = inl (inl h)
    narrow k revision (inr h) = elim (cases_Bool (nat_eq h.1.0 at)) [
      | inl t ↦ inr (
        h.0,
        same_Some revision other (sym h.1.2
            ∙ (ap (slice_get (revisions_at stems n)) (eqb-true h.1.0 at t) ∙ there)),
      )
      | inr t ↦ inl (inr (h.0, (h.1.0, below h.1.0 at h.1.1 t, h.1.2)))
    ]

    bound : (k : ℕ) (revision : Revision) → HasTo stems n at k revision → k ≤ n
    bound k revision (inl h) = omega (arith, h.0)
    bound k revision (inr h) = omega (arith, h.0)

-- ---- a revision comes in

module _ (stems : List Stem) (n at : ℕ) (revision : Revision)
    (there : slice_get (revisions_at stems n) at ≡ Some revision)
    (e f : ℕ → Option ℕ) (o p : Revision → Option ℕ) (t : AreTold (HasTo stems n at) e o) where
  -- where the others have no number, no earlier stem has the revision
  fresh_of : ((key m : ℕ) → IsKey revision.hash key → e key ≡ Some m → m < n → ¬ Has stems m revision)
      → o revision ≡ None → IsFresh (HasTo stems n at) n revision
  fresh_of absent none j low g =
      let i = first_exists stems j revision (to_has stems n at j revision g) in
      let few : i.0 < n = omega (arith, i.1, low) in
      elim (t.told i.0 revision (inl (few, i.2.0), λ k l h. i.2.1 k l (to_has stems n at k revision h))) [
        | inl w ↦ absent w.0 i.0 w.1 w.2 few i.2.0
        | inr w ↦ no_number i.0 (sym none ∙ w)
      ]

  module _ (put : (x : Revision) → p x ≡ first_put (eq_by_cmp revision_cmp) o revision n x)
      (absent : (key m : ℕ) → IsKey revision.hash key → e key ≡ Some m → m < n → ¬ Has stems m revision) where
    other_keeps : (x : Revision) (m : ℕ) → o x ≡ Some m → p x ≡ Some m
    other_keeps = put_keeps (eq_by_cmp revision_cmp) exact_revisions o p revision n put

    other_new : (x : Revision) (m : ℕ) → p x ≡ Some m
        → (o x ≡ Some m) ⊎ ((m ≡ n) × (x ≡ revision) × IsFresh (HasTo stems n at) n revision)
    other_new x m q = elim (put_new (eq_by_cmp revision_cmp) exact_revisions o p revision n put x m q) [
      | inl i ↦ inl i
      | inr i ↦ inr (i.0, sym i.1, fresh_of absent i.2)
    ]

    other_own : IsFresh (HasTo stems n at) n revision → p revision ≡ Some n
    other_own fresh =
        from (o revision) refl (put_own (eq_by_cmp revision_cmp) exact_revisions o p revision n put
        (level_self revision))
      where
        from : (q : Option ℕ) → o revision ≡ q → p revision ≡ Some (unwrap_or q n) → p revision ≡ Some n
        from None i own = own
        from (Some m) i own =
            let w = t.others m revision i in
            let has : HasTo stems n at m revision = w.0 in
            elim has [
              | inl h ↦ absurd (fresh m h.0 (inl h))
              | inr h ↦ own ∙ ap Some h.0
            ]

  -- a revision whose hash is no digest's text
  pub no_key : ((key : ℕ) → ¬ IsKey revision.hash key)
      → ((q : ℕ) → f q ≡ e q) →
      ((other : Revision) → p other ≡ first_put (eq_by_cmp revision_cmp) o revision n other)
      → AreTold (HasTo stems n (at + 1)) f p
  no_key none same put =
      let absent : (key m : ℕ) → IsKey revision.hash key → e key ≡ Some m → m < n → ¬ Has stems m revision =
      λ key m is q low h. none key is in
      one_told (HasTo stems n at) (HasTo stems n (at + 1)) n revision
      (one_to stems n at revision there) e f o p t
      (λ key m q. same key ∙ q) (λ key m q. inl (sym (same key) ∙ q)) (other_keeps put absent)
      (other_new put absent) (λ key is. absurd (none key is)) (λ fresh. inr (other_own put absent fresh))

  module _ (key : ℕ) (is : IsKey revision.hash key) (first : ℕ)
      (put : (q : ℕ) → f q ≡ first_put nat_eq e key n q)
      (answer : first ≡ unwrap_or (e key) n) where
    entry_first : f key ≡ Some first
    entry_first = put_own nat_eq exact_keys e f key n put (eq-eqb key key refl) ∙ ap Some (sym answer)

    pub first_low : first ≤ n
    first_low = from (e key) refl answer
      where
        from : (q : Option ℕ) → e key ≡ q → first ≡ unwrap_or q n → first ≤ n
        from None i a = let same : first ≡ n = a in omega (arith, same)
        from (Some m) i a =
            let w = t.entries key m i in
            let same : first ≡ m = a in
            omega (arith, same, (one_to stems n at revision there).bound m w.0 w.1)

    entry_keeps : (q m : ℕ) → e q ≡ Some m → f q ≡ Some m
    entry_keeps = put_keeps nat_eq exact_keys e f key n put

    entry_new : (q m : ℕ) → f q ≡ Some m → (e q ≡ Some m) ⊎ ((m ≡ n) × IsKey revision.hash q)
    entry_new q m i = elim (put_new nat_eq exact_keys e f key n put q m i) [
      | inl j ↦ inl j
      | inr j ↦ inr (j.0, subst (λ z. IsKey revision.hash z) j.1 is)
    ]

    own_key : (q : ℕ) → IsKey revision.hash q → (m : ℕ) × (f q ≡ Some m) × (m ≤ n)
    own_key q i = (first, ap f (same_key revision.hash q key i is) ∙ entry_first, first_low)

    -- the others stay as they were
    stays : ((x : Revision) → p x ≡ o x) → (IsFresh (HasTo stems n at) n revision → IsToldAt f p n revision)
        → AreTold (HasTo stems n (at + 1)) f p
    stays same own =
        one_told (HasTo stems n at) (HasTo stems n (at + 1)) n revision
        (one_to stems n at revision there) e f o p t entry_keeps
        entry_new (λ x m q. same x ∙ q) (λ x m q. inl (sym (same x) ∙ q)) own_key own

    -- the entry is the number of the revision's stem
    pub own_entry : first ≡ n → ((x : Revision) → p x ≡ o x) → AreTold (HasTo stems n (at + 1)) f p
    own_entry own same = stays same (λ fresh. inl (key, is, entry_first ∙ ap Some own))

    -- the entry is the number of an earlier stem that has the revision
    pub known_entry : ¬ (first ≡ n) → Has stems first revision → ((x : Revision) → p x ≡ o x)
        → AreTold (HasTo stems n (at + 1)) f p
    known_entry apart has same =
        let low : first < n = lower first n first_low apart in
        stays same (λ fresh. absurd (fresh first low (inl (low, has))))
      where
        lower : (a b : ℕ) → a ≤ b → ¬ (a ≡ b) → a < b
        lower a b low differ = elim (cases_Bool (nat_eq a b)) [
          | inl u ↦ absurd (differ (eqb-true a b u))
          | inr u ↦ grind (arith, low, u)
        ]

    -- the entry is the number of a stem with another revision
    pub other_entry : ¬ Has stems first revision
        → ((x : Revision) → p x ≡ first_put (eq_by_cmp revision_cmp) o revision n x)
        → AreTold (HasTo stems n (at + 1)) f p
    other_entry none puts =
        let absent : (q m : ℕ) → IsKey revision.hash q → e q ≡ Some m → m < n → ¬ Has stems m revision =
        λ q m i there_is low h.
        none (subst (λ j. Has stems j revision)
        (sym (answer ∙ ap (λ z. unwrap_or z n) (ap e (same_key revision.hash key q is i) ∙ there_is))) h) in
        one_told (HasTo stems n at) (HasTo stems n (at + 1)) n revision
        (one_to stems n at revision there) e f o p t entry_keeps entry_new (other_keeps puts absent)
        (other_new puts absent) own_key (λ fresh. inr (other_own puts absent fresh))

-- the entries and others lead to the stems of another test that says the same
pub told_as : (has more : ℕ → Revision → Type 0) (e : ℕ → Option ℕ) (o : Revision → Option ℕ)
    → ((k : ℕ) (revision : Revision) → has k revision → more k revision)
    → ((k : ℕ) (revision : Revision) → more k revision → has k revision) → AreTold has e o → AreTold more e o
told_as has more e o wide narrow t = record {
  entries = λ key m q. let w = t.entries key m q in (w.0, wide m w.0 w.1, w.2);
  keyed = λ k key revision h is. t.keyed k key revision (narrow k revision h) is;
  others =
      λ k revision q. let w = t.others k revision q in
      (wide k revision w.0, λ j low h. w.1 j low (narrow j revision h));
  told = λ k revision w. t.told k revision (narrow k revision w.0, λ j low h. w.1 j low (wide j revision h));
}

pub told_start : (stems : List Stem) (n : ℕ) (e : ℕ → Option ℕ) (o : Revision → Option ℕ)
    → AreTold (Has (take n stems)) e o → AreTold (HasTo stems n 0) e o
told_start stems n e o t =
    told_as (Has (take n stems)) (HasTo stems n 0) e o (λ k x h. inl (taken_has stems n k x h))
    (λ k x h. let i = none_to stems n k x h in has_taken stems n k x i.0 i.1) t

pub told_end : (stems : List Stem) (n most : ℕ) (e : ℕ → Option ℕ) (o : Revision → Option ℕ)
    → length stems ≡ n + 1
    → length (revisions_at stems n) ≤ most → AreTold (HasTo stems n most) e o → AreTold (Has stems) e o
told_end stems n most e o long past t =
    told_as (HasTo stems n most) (Has stems) e o (to_has stems n most)
    (λ k x h. all_to stems n most k x long past h) t

-- ---- the result of a look

module _ (stems : List Stem) (e : ℕ → Option ℕ) (o : Revision → Option ℕ)
    (t : AreTold (Has stems) e o) (revision : Revision) where
  -- the entry's stem has the revision
  pub entry_place : (key m : ℕ) (place : Place) → IsKey revision.hash key → e key ≡ Some m → place.stem ≡ m
      → slice_get (revisions_at stems place.stem) place.at ≡ Some revision → IsFirstPlace stems revision place
  entry_place key m place is q same there = (
    there,
    (
      has_there stems place.stem place.at revision there,
      λ j low h.
          let i = t.keyed j key revision h is in
          let one : m ≡ i.0 = same_Some m i.0 (sym q ∙ i.1) in
          absurd (omega (arith, low, i.2, one, same)),
    ),
  )

  -- no entry is at the revision's key
  pub nowhere_keyed : (key : ℕ) → IsKey revision.hash key → e key ≡ None → has_revision stems revision ≡ false
  nowhere_keyed key is none =
      none_has stems revision (λ k h. let i = t.keyed k key revision h is in no_number i.0 (sym none ∙ i.1))

  -- neither the entry's stem nor the others have the revision
  pub nowhere : ((key m : ℕ) → IsKey revision.hash key → e key ≡ Some m → ¬ Has stems m revision)
      → o revision ≡ None → has_revision stems revision ≡ false
  nowhere absent none = none_has stems revision (λ k h.
      let i = first_exists stems k revision h in
      elim (t.told i.0 revision i.2) [
        | inl w ↦ absent w.0 i.0 w.1 w.2 i.2.0
        | inr w ↦ no_number i.0 (sym none ∙ w)
      ])

  pub nowhere_else : (key m : ℕ) → IsKey revision.hash key → e key ≡ Some m
      → names (revisions_at stems m) revision ≡ false
      → o revision ≡ None → has_revision stems revision ≡ false
  nowhere_else key m is q absent none =
      nowhere (λ other k i j h. both_ways _ absent
      (subst (λ z. Has stems z revision)
      (sym (same_Some m k (sym q ∙ (ap e (same_key revision.hash key other is i) ∙ j)))) h))
      none
