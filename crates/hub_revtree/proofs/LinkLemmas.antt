-- The revision behind another is in the other's first stem, or in the stem of its link.
use Rattle.std.proofs.Common.{◌≡◌, ℕ, zero, suc, ◌+◌, ◌<◌, ◌≤◌, ◌⊎◌, List, [], ◌∷◌, length}
use Rattle.std.proofs.Common.{take, true, false, inl, inr, refl, sym, ap, ◌∙◌, subst, arith}
use Rattle.std.specs.Prelude.{Option, Some, None, IfSome, IfNone, IsSome}
use Rattle.std.specs.Prelude.{is_some, find, nat_eq, nat_lt, slice_get}
use Rattle.std.specs.List.{list_any}
use Rattle.std.proofs.lemmas.Bool.{both_ways, cases_Bool, eqb-true, ltb-true, ltb-false}
use Rattle.std.proofs.lemmas.Option.{same_Some, slice_get_within}
use Rattle.std.specs.Ordering.{eq_by_cmp}
use Rattle.hub_model.specs.Revision.{Revision, is_same, revision_cmp}
use Rattle.hub_model.specs.Path.{Falls, IsPath, is_first, names}
use Rattle.hub_model.proofs.Tests.{same_self}
use Rattle.hub_revtree.specs.declared.stem.Place.{Place}
use Rattle.hub_revtree.specs.First.{first_put}
use Rattle.hub_revtree.specs.Index.{AreLinked, GoesOn, Has, HasTo, IsFirstPlace, IsFirstWith}
use Rattle.hub_revtree.specs.Stem.{Stem, AreStems, IsBrought, has_revision, revisions_at, revisions_in}
use Rattle.hub_revtree.proofs.FirstLemmas.{all_to, below_last, exact_revisions, first_same}
use Rattle.hub_revtree.proofs.FirstLemmas.{level_self, put_keeps, put_new, put_own, has_any, has_low}
use Rattle.hub_revtree.proofs.FirstLemmas.{has_taken, none_to, one_to, taken_has, there_has}
use Rattle.hub_revtree.proofs.StemLemmas.{any_at, any_place, get_taken, none_of}
use Rattle.hub_revtree.proofs.StemLooks.{first_named, first_there, head_found, none_found}
use Rattle.hub_revtree.proofs.StepLemmas.{brought_has, none_parent}

no_some : false ≡ true → ⊥
no_some t = absurd (cc)

-- ---- a revision stands at one place of a path

fallen : (revision : Revision) (revisions : List Revision) (at : ℕ) (other : Revision)
    → Falls revision revisions
    → slice_get (revision ∷ revisions) at ≡ Some other → other.generation + at ≡ revision.generation
fallen revision revisions zero other f e =
    let g : revision.generation ≡ other.generation = ap (λ (z : Revision). z.generation)
    (same_Some revision other e) in
    omega (arith, g)
fallen revision [] (suc at) other f e = absurd (cc)
fallen revision (y ∷ revisions) (suc at) other f e =
    let g = fallen y revisions at other f.1 e in omega (arith, g, f.0)

pub one_place : (revisions : List Revision) (i j : ℕ) (revision : Revision) → IsPath revisions
    → slice_get revisions i ≡ Some revision → slice_get revisions j ≡ Some revision → i ≡ j
one_place [] i j revision f d e = absurd f
one_place (other ∷ revisions) i j revision f d e =
    omega (arith, fallen other revisions i revision f d, fallen other revisions j revision f e)

-- ---- stems that go on

-- a stem that brought a revision behind another goes on behind the other
pub brought_goes : (stems : List Stem) → AreStems stems → (revision other : Revision)
    → (b : IsBrought stems revision other) → GoesOn stems b.0 other
brought_goes stems a revision other b =
    let k = b.0 in
    let s = b.1 in
    let e = b.2 in
    let i = there_has stems k other (brought_has stems revision other b) in
    let there : slice_get s.revisions i.0 ≡ Some other = rw e at i.1 in
    (s, i.0, e, there, from s.parent refl i.0 there)
  where
    from : (maybe_place : Option Place) → b.1.parent ≡ maybe_place → (at : ℕ)
        → slice_get b.1.revisions at ≡ Some other → (at + 1 < length b.1.revisions) ⊎ IsSome b.1.parent
    from (Some p) q at there = inr (ap is_some q)
    from None q at there = elim (cases_Bool (nat_lt (at + 1) (length b.1.revisions))) [
      | inl t ↦ inl (ltb-true (at + 1) (length b.1.revisions) t)
      | inr t ↦
          absurd ((rw q
          at (none_parent stems a b.0 b.1 b.2 other at there (ltb-false (at + 1) (length b.1.revisions) t)))
          b.1 revision b.2 b.3)
    ]

-- a stem that goes on among the first stems goes on among all
goes_whole : (stems : List Stem) (n k : ℕ) (revision : Revision) → GoesOn (take n stems) k revision
    → GoesOn stems k revision
goes_whole stems n k revision (s, at, e, there, more) =
    let low = taken_has stems n k revision
    (rw e (any_at (is_same revision) s.revisions at revision there (same_self revision))) in
    (s, at, sym (get_taken n k stems low.0) ∙ e, there, more)

goes_taken : (stems : List Stem) (n k : ℕ) (revision : Revision) → k < n → GoesOn stems k revision
    → GoesOn (take n stems) k revision
goes_taken stems n k revision low (s, at, e, there, more) = (s, at, get_taken n k stems low ∙ e, there, more)

first_whole : (stems : List Stem) (n k : ℕ) (revision : Revision)
    → IsFirstWith (Has (take n stems)) k revision → IsFirstWith (Has stems) k revision
first_whole stems n k revision w =
    let i = taken_has stems n k revision w.0 in
    (i.1, λ j low h. w.1 j low (has_taken stems n j revision (omega (arith, low, i.0)) h))

-- ---- links of one stem more

pub link_start : (stems : List Stem) (n : ℕ) (link : Revision → Option ℕ)
    → AreLinked (Has (take n stems)) (take n stems) link → AreLinked (HasTo stems n 0) stems link
link_start stems n link l = record {
  links = λ m x q. goes_whole stems n m x (l.links m x q);
  linked = λ k x h g.
      let i = none_to stems n k x h in
      elim (l.linked k x (has_taken stems n k x i.0 i.1) (goes_taken stems n k x i.0 g)) [
        | inl w ↦ inl (w.0, first_whole stems n w.0 x w.1, goes_whole stems n w.0 x w.2)
        | inr w ↦ inr w
      ];
}

pub link_end : (stems : List Stem) (n most : ℕ) (link : Revision → Option ℕ) → length stems ≡ n + 1
    → length (revisions_at stems n) ≤ most → AreLinked (HasTo stems n most) stems link
    → AreLinked (Has stems) stems link
link_end stems n most link long past l = record {
  links = l.links;
  linked = λ k x h g. l.linked k x (all_to stems n most k x long past h) g;
}

-- a stem that joins none needs no links
pub link_fresh : (stems : List Stem) → AreStems stems → (n : ℕ) (stem : Stem) (link : Revision → Option ℕ)
    → length stems ≡ n + 1 → slice_get stems n ≡ Some stem → stem.joins ≡ false
    → AreLinked (HasTo stems n 0) stems link → AreLinked (Has stems) stems link
link_fresh stems a n stem link long e joins l = record {
  links = l.links;
  linked = λ k x h g. elim (cases_Bool (nat_eq k n)) [
    | inl t ↦
        let same = eqb-true k n t in
        let own : Has stems n x = subst (λ j. Has stems j x) same h in
        let none : has_revision (take n stems) x ≡ false =
        none_of (has_revision (take n stems)) stem.revisions x (a.fresh n stem e joins) (rw e at own) in
        inl (
          k,
          (
            h,
            λ j low i.
                both_ways _ none (has_any (take n stems) j x
                (has_taken stems n j x (omega (arith, low, same)) i)),
          ),
          g,
        )
    | inr t ↦ l.linked k x (inl (below_last k n (length stems) long t (has_low stems k x h), h)) g
  ];
}

-- a revision comes in
module _ (stems : List Stem) (n at : ℕ) (revision : Revision)
    (there : slice_get (revisions_at stems n) at ≡ Some revision)
    (link more : Revision → Option ℕ) (l : AreLinked (HasTo stems n at) stems link) where
  pub link_more : ((other : Revision) (m : ℕ) → link other ≡ Some m → more other ≡ Some m)
      → ((other : Revision) (m : ℕ) → more other ≡ Some m → (link other ≡ Some m)
      ⊎ ((m ≡ n) × (other ≡ revision) × GoesOn stems n revision))
      → (GoesOn stems n revision
      → ((first : ℕ) × IsFirstWith (Has stems) first revision × GoesOn stems first revision)
      ⊎ IsSome (more revision)) → AreLinked (HasTo stems n (at + 1)) stems more
  link_more keeps new own = record {
    links = λ m other q. elim (new other m q) [
      | inl i ↦ l.links m other i
      | inr i ↦ subst (λ (z : Revision). GoesOn stems m z) (sym i.1)
          (subst (λ j. GoesOn stems j revision) (sym i.0) i.2)
    ];
    linked = λ k other h g. elim ((one_to stems n at revision there).narrow k other h) [
      | inl i ↦ elim (l.linked k other i g) [
        | inl w ↦ inl w
        | inr w ↦ inr (still other (link other) refl w)
      ]
      | inr i ↦
          let goes = subst (λ j. GoesOn stems j revision) i.0
          (subst (λ (z : Revision). GoesOn stems k z) i.1 g) in
          subst (λ (z : Revision).
          ((first : ℕ) × IsFirstWith (Has stems) first z × GoesOn stems first z) ⊎ IsSome (more z))
          (sym i.1) (own goes)
    ];
  }
    where
      still : (other : Revision) (o : Option ℕ) → link other ≡ o → IsSome (link other) → IsSome (more other)
      still other None e t = absurd (no_some (rw e at t))
      still other (Some m) e t = ap is_some (keeps other m e)

  pub link_same : ((other : Revision) → more other ≡ link other)
      → (GoesOn stems n revision
      → ((first : ℕ) × IsFirstWith (Has stems) first revision × GoesOn stems first revision))
      → AreLinked (HasTo stems n (at + 1)) stems more
  link_same same own =
      link_more (λ other m q. same other ∙ q) (λ other m q. inl (sym (same other) ∙ q)) (λ g. inl (own g))

  pub link_put : ((other : Revision) → more other ≡ first_put (eq_by_cmp revision_cmp) link revision n other)
      → GoesOn stems n revision → AreLinked (HasTo stems n (at + 1)) stems more
  link_put put g =
      link_more (put_keeps (eq_by_cmp revision_cmp) exact_revisions link more revision n put) new (λ h.
      inr (ap is_some (put_own (eq_by_cmp revision_cmp) exact_revisions link more revision n put
      (level_self revision))))
    where
      new : (other : Revision) (m : ℕ) → more other ≡ Some m → (link other ≡ Some m)
          ⊎ ((m ≡ n) × (other ≡ revision) × GoesOn stems n revision)
      new other m q =
          elim (put_new (eq_by_cmp revision_cmp) exact_revisions link more revision n put other m q) [
            | inl i ↦ inl i
            | inr i ↦ inr (i.0, sym i.1, g)
          ]

-- ---- the result of a look

-- a revision that heads a stem heads the first one that has it
module _ (stems : List Stem) (a : AreStems stems) (revision : Revision) where
  head_first : (k : ℕ) (stem : Stem) → slice_get stems k ≡ Some stem → is_first revision stem.revisions ≡ true
      → IsFirstWith (Has stems) k revision
  head_first k stem e first =
      let none = a.newest k stem revision e (first_there 0 stem.revisions revision first) in (
        rw e (first_named stem.revisions revision first),
        λ j low h. both_ways _ none (has_any (take k stems) j revision (has_taken stems k j revision low h)),
      )

  no_heads : ((k : ℕ) (stem : Stem) → slice_get stems k ≡ Some stem → is_first revision stem.revisions ≡ true
      → ⊥) → None ≡ find (λ other. is_first revision other.revisions) stems
  no_heads none =
      none_found (λ (other : Stem). is_first revision other.revisions) stems
      (elim (cases_Bool (list_any (λ (other : Stem). is_first revision other.revisions) stems)) [
        | inl t ↦
            let i = any_place (λ (other : Stem). is_first revision other.revisions) stems t in
            absurd (none i.0 i.1 i.2 i.3)
        | inr t ↦ t
      ])

  pub heads_nothing : has_revision stems revision ≡ false
      → None ≡ find (λ z. is_first revision z.revisions) stems
  heads_nothing absent =
      no_heads (λ k s e first. both_ways _ absent (has_any stems k revision (head_first k s e first).0))

  pub heads_inner : (place : Place) → IsFirstPlace stems revision place → ¬ (place.at ≡ 0)
      → None ≡ find (λ z. is_first revision z.revisions) stems
  heads_inner place w inner = no_heads (λ k s e first.
      let same : k ≡ place.stem = first_same (Has stems) k place.stem revision (head_first k s e first) w.1 in
      let there : slice_get s.revisions place.at ≡ Some revision =
      ap (λ o. slice_get (revisions_in o) place.at) (sym e)
      ∙ (ap (λ j. slice_get (revisions_at stems j) place.at) same ∙ w.0) in
      inner (one_place s.revisions place.at 0 revision (a.falling k s e) there
      (first_there 0 s.revisions revision first)))

  pub heads_there : (place : Place) (stem : Stem) → IsFirstPlace stems revision place → place.at ≡ 0
      → slice_get stems place.stem ≡ Some stem
      → Some stem ≡ find (λ other. is_first revision other.revisions) stems
  heads_there place stem w head e =
      let there : slice_get stem.revisions 0 ≡ Some revision =
      ap (λ o. slice_get (revisions_in o) 0) (sym e)
      ∙ (ap (slice_get (revisions_at stems place.stem)) (sym head) ∙ w.0) in
      head_found stems a revision place.stem stem e (first_is stem.revisions there)
    where
      first_is : (revisions : List Revision) → slice_get revisions 0 ≡ Some revision
          → is_first revision revisions ≡ true
      first_is [] e = absurd (cc)
      first_is (x ∷ revisions) e =
          subst (λ (other : Revision). is_same revision other ≡ true) (sym (same_Some x revision e))
          (same_self revision)

  -- no revision stands behind one that no stem has, nor behind one with which its first stem ends, without a
  -- link
  pub nothing_behind : has_revision stems revision ≡ false → (other : Revision)
      → ¬ IsBrought stems other revision
  nothing_behind absent other b =
      both_ways _ absent (has_any stems b.0 revision (brought_has stems other revision b))

  pub nothing_linked : (link : Revision → Option ℕ) (first : ℕ) → AreLinked (Has stems) stems link
      → IsFirstWith (Has stems) first revision → ¬ GoesOn stems first revision → link revision ≡ None
      → (other : Revision) → ¬ IsBrought stems other revision
  nothing_linked link first l w ends none other b =
      elim (l.linked b.0 revision (brought_has stems other revision b)
      (brought_goes stems a other revision b)) [
        | inl i ↦ ends (subst (λ j. GoesOn stems j revision)
            (first_same (Has stems) i.0 first revision i.1 w) i.2)
        | inr i ↦ no_some (rw none at i)
      ]

-- a link leads to a stem that goes on
pub link_low : (stems : List Stem) (k : ℕ) (revision : Revision) → GoesOn stems k revision → k < length stems
link_low stems k revision g = slice_get_within stems k g.0 g.2

-- a stem, and whether it goes on behind a revision
module _ (stems : List Stem) (a : AreStems stems) (k : ℕ) (stem : Stem)
    (e : slice_get stems k ≡ Some stem) (revision : Revision) where
  pub goes_absent : names stem.revisions revision ≡ false → ¬ GoesOn stems k revision
  goes_absent f g =
      both_ways _ f
      (subst (λ (other : Stem). names other.revisions revision ≡ true) (same_Some g.0 stem (sym g.2 ∙ e))
      (any_at (is_same revision) g.0.revisions g.1 revision g.3 (same_self revision)))

  module _ (at : ℕ) (here : slice_get stem.revisions at ≡ Some revision) where
    pub goes_inner : at + 1 < length stem.revisions → GoesOn stems k revision
    goes_inner low = (stem, at, e, here, inl low)

    pub goes_parent : IfSome stem.parent (λ _. GoesOn stems k revision)
    goes_parent = from stem.parent refl
      where
        from : (o : Option Place) → stem.parent ≡ o → IfSome o (λ _. GoesOn stems k revision)
        from None q = tt
        from (Some p) q = (stem, at, e, here, inr (ap is_some q))

    pub ends_parent : length stem.revisions ≤ at + 1 → IfNone stem.parent (¬ GoesOn stems k revision)
    ends_parent past = from stem.parent refl
      where
        ends : stem.parent ≡ None → ¬ GoesOn stems k revision
        ends q g =
            let same : g.0 ≡ stem = same_Some g.0 stem (sym g.2 ∙ e) in
            let one : g.1 ≡ at =
            one_place stem.revisions g.1 at revision (a.falling k stem e)
            (subst (λ (z : Stem). slice_get z.revisions g.1 ≡ Some revision) same g.3) here in
            let more : (g.1 + 1 < length stem.revisions) ⊎ IsSome stem.parent =
            subst (λ (z : Stem). (g.1 + 1 < length z.revisions) ⊎ IsSome z.parent) same g.4 in
            elim more [
              | inl low ↦ absurd (omega (arith, low, one, past))
              | inr some ↦ no_some (rw q at some)
            ]

        from : (o : Option Place) → stem.parent ≡ o → IfNone o (¬ GoesOn stems k revision)
        from None q = ends q
        from (Some p) q = tt

-- where there is a value, the statement holds that any value gives
pub some_if : {A : Type 0} (o : Option A) (P : Type 0) → IfSome o (λ _. P) → is_some o ≡ true → P
some_if None P h t = absurd (cc)
some_if (Some x) P h t = h

pub none_if : {A : Type 0} (o : Option A) (P : Type 0) → IfNone o P → is_some o ≡ false → P
none_if None P h t = h
none_if (Some x) P h t = absurd (cc)
