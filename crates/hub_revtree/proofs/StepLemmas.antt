-- Steps along the stems: the revision directly behind another one.
use Rattle.std.proofs.Common.{◌≡◌, ℕ, zero, suc, ◌+◌, ◌<◌, ◌≤◌, List, [], ◌∷◌, ◌++◌, length, true}
use Rattle.std.proofs.Common.{false, inl, inr, refl, sym, ap, ap₂, ◌∙◌, subst, append-nil, arith}
use Rattle.std.specs.Prelude.{Option, Some, None, IfSome, IfNone, slice_get, Contains}
use Rattle.std.proofs.lemmas.Bool.{both_ways}
use Rattle.std.proofs.lemmas.Option.{same_Some, slice_get_within}
use Rattle.hub_model.specs.Revision.{Revision}
use Rattle.hub_model.specs.Path.{Falls, IsNext, IsPath, names}
use Rattle.hub_model.proofs.Legal.{next_right}
use Rattle.hub_model.proofs.Lists.{contains_none, contains_there, contains_cases}
use Rattle.hub_model.proofs.Tests.{is_named}
use Rattle.hub_revtree.specs.declared.stem.Place.{Place}
use Rattle.hub_revtree.specs.Common.{last_in}
use Rattle.hub_revtree.specs.Stem.{Stem, AreStems, IsBrought, IsWithin}
use Rattle.hub_revtree.specs.Stem.{one_of, own_path, rev_at, revisions_at}
use Rattle.hub_revtree.proofs.StemLemmas.{get_front}
use Rattle.hub_revtree.proofs.StemLemmas.{get_last}

-- ---- steps of a stem's own path

-- revisions at two places, one directly behind the other, are a step of the list
pub next_at : (revisions : List Revision) (n : ℕ) (revision other : Revision)
    → slice_get revisions n ≡ Some revision
    → slice_get revisions (suc n) ≡ Some other → IsNext revisions revision other
next_at [] n revision other e f = absurd (cc)
next_at (y ∷ []) zero revision other e f = absurd (cc)
next_at (y ∷ z ∷ revisions) zero revision other e f = inl (same_Some y revision e, same_Some z other f)
next_at (y ∷ revisions) (suc n) revision other e f = inr (next_at revisions n revision other e f)

-- the last revision of a path has the lowest generation
last_least : (revision : Revision) (revisions : List Revision) (other r : Revision) → Falls revision revisions
    → last_in (revision ∷ revisions) ≡ Some other
    → Contains (revision ∷ revisions) r → other.generation ≤ r.generation
last_least revision [] other r f e c = elim (contains_cases revision r [] c) [
  | inl q ↦
      let g : other.generation ≡ r.generation = ap (λ (v : Revision). v.generation)
      (sym (same_Some revision other e) ∙ q) in
      omega (arith, g)
  | inr d ↦ absurd (contains_none r d)
]
last_least revision (y ∷ revisions) other r f e c = elim (contains_cases revision r (y ∷ revisions) c) [
  | inl q ↦
      let low = last_least y revisions other y f.1 e (0, omega arith, refl) in
      let g : revision.generation ≡ r.generation = ap (λ (v : Revision). v.generation) q in
      omega (arith, low, f.0, g)
  | inr d ↦ last_least y revisions other r f.1 e d
]

next_drops : (revisions : List Revision) (revision other : Revision) → IsPath revisions
    → IsNext revisions revision other → other.generation < revision.generation
next_drops [] revision other f n = absurd n
next_drops (y ∷ []) revision other f (inl n) = absurd n.1
next_drops (y ∷ []) revision other f (inr n) = absurd n
next_drops (y ∷ z ∷ revisions) revision other f (inl n) =
    let g : y.generation ≡ revision.generation = ap (λ (v : Revision). v.generation) n.0 in
    let h : z.generation ≡ other.generation = ap (λ (v : Revision). v.generation) n.1 in
    omega (arith, f.0, g, h)
next_drops (y ∷ z ∷ revisions) revision other f (inr n) = next_drops (z ∷ revisions) revision other f.1 n

last_at : (revisions : List Revision) (n : ℕ) (revision : Revision) → slice_get revisions n ≡ Some revision
    → length revisions ≤ suc n → last_in revisions ≡ Some revision
last_at [] n revision e past = absurd (cc)
last_at (other ∷ []) zero revision e past = e
last_at (other ∷ []) (suc n) revision e past = absurd (cc)
last_at (other ∷ z ∷ revisions) zero revision e past = absurd (omega arith)
last_at (other ∷ z ∷ revisions) (suc n) revision e past = last_at (z ∷ revisions) n revision e (omega arith)

-- no revision stands behind the last one of a path
pub last_alone : (revisions : List Revision) (n : ℕ) (revision : Revision) → IsPath revisions
    → slice_get revisions n ≡ Some revision
    → length revisions ≤ suc n → (other : Revision) → ¬ IsNext revisions revision other
last_alone [] n revision f e past other i = absurd f
last_alone (y ∷ revisions) n revision f e past other i =
    let low = last_least y revisions revision other f (last_at (y ∷ revisions) n revision e past)
    (next_right (y ∷ revisions) revision other i) in
    let down = next_drops (y ∷ revisions) revision other f i in
    absurd (omega (arith, low, down))

-- a revision with another behind it is one of the list, not the one after the list
next_in_front : (revisions : List Revision) (maybe_revision : Option Revision) (revision other : Revision)
    → IsNext (revisions ++ one_of maybe_revision) revision other → Contains revisions revision
next_in_front [] None revision other n = absurd n
next_in_front [] (Some y) revision other (inl n) = absurd n.1
next_in_front [] (Some y) revision other (inr n) = absurd n
next_in_front (y ∷ revisions) maybe_revision revision other (inl n) = (0, omega arith, n.0)
next_in_front (y ∷ revisions) maybe_revision revision other (inr n) =
    contains_there y revision revisions (next_in_front revisions maybe_revision revision other n)

module _ (stems : List Stem) (a : AreStems stems) (k : ℕ) (s : Stem)
    (e : slice_get stems k ≡ Some s) (revision : Revision) where
  -- a revision that the stem does not have has none behind it there
  pub none_own : names s.revisions revision ≡ false → (other : Revision)
      → ¬ IsNext (own_path stems s) revision other
  none_own f other n =
      both_ways _ f (is_named s.revisions revision
      (next_in_front s.revisions (rev_at stems s.parent) revision other n))

  module _ (at : ℕ) (here : slice_get s.revisions at ≡ Some revision) where
    -- the next revision of the stem stands behind this one
    pub inner_brought : (p : Place) → p ≡ record { stem = k; at = at + 1 } → at + 1 < length s.revisions
        → IsWithin stems p × ((r : Revision) → rev_at stems (Some p) ≡ Some r → IsBrought stems r revision)
    inner_brought p is low =
        subst (λ q. IsWithin stems q
        × ((r : Revision) → rev_at stems (Some q) ≡ Some r → IsBrought stems r revision))
        (sym is) (
          rw e low,
          λ r at_r. (
            k,
            s,
            e,
            next_at (own_path stems s) at revision r
                (get_front s.revisions (one_of (rev_at stems s.parent)) at revision here)
                (get_front s.revisions (one_of (rev_at stems s.parent)) (suc at) r
                (one_more r (rw e at at_r))),
          ),
        )
      where
        one_more : (r : Revision) → slice_get s.revisions (at + 1) ≡ Some r
            → slice_get s.revisions (suc at) ≡ Some r
        one_more r f = let same : suc at ≡ at + 1 = omega arith in ap (slice_get s.revisions) same ∙ f

    -- the revision that the stem stands on stands behind the stem's last
    pub parent_brought : length s.revisions ≤ at + 1 → IfSome s.parent
        (λ p. IsWithin stems p × ((r : Revision) → rev_at stems (Some p) ≡ Some r
        → IsBrought stems r revision))
    parent_brought past = from s.parent refl
      where
        last : suc at ≡ length s.revisions
        last = let low = slice_get_within s.revisions at revision here in omega (arith, low, past)

        from : (o : Option Place) → s.parent ≡ o → IfSome o
            (λ p. IsWithin stems p × ((r : Revision) → rev_at stems (Some p) ≡ Some r
            → IsBrought stems r revision))
        from None q = tt
        from (Some p) q = (
          (a.earlier k s p e q).1,
          λ r at_r. (
            k,
            s,
            e,
            next_at (own_path stems s) at revision r
                (get_front s.revisions (one_of (rev_at stems s.parent)) at revision here)
                (behind r (ap (rev_at stems) q ∙ at_r)),
          ),
        )
          where
            behind : (r : Revision) → rev_at stems s.parent ≡ Some r
                → slice_get (own_path stems s) (suc at) ≡ Some r
            behind r f =
                ap₂ (λ (o : Option Revision) (n : ℕ). slice_get (s.revisions ++ one_of o) n) f last
                ∙ get_last s.revisions r

    pub none_parent : length s.revisions ≤ at + 1
        → IfNone s.parent
        ((stem : Stem) (r : Revision) → slice_get stems k ≡ Some stem
        → ¬ IsNext (own_path stems stem) revision r)
    none_parent past = from s.parent refl
      where
        from : (o : Option Place) → s.parent ≡ o
            → IfNone o
            ((stem : Stem) (r : Revision) → slice_get stems k ≡ Some stem
            → ¬ IsNext (own_path stems stem) revision r)
        from (Some p) q = tt
        from None q =
            λ stem r f n. last_alone s.revisions at revision (a.falling k s e) here (omega (arith, past)) r
            (subst (λ z. IsNext z revision r)
            (ap (λ o. s.revisions ++ one_of (rev_at stems o)) q ∙ append-nil s.revisions)
            (subst (λ (z : Stem). IsNext (own_path stems z) revision r) (same_Some stem s (sym f ∙ e)) n))

-- a revision with another behind it in a stem is the stem's own
pub brought_has : (stems : List Stem) (other revision : Revision) → (b : IsBrought stems other revision)
    → names (revisions_at stems b.0) revision ≡ true
brought_has stems other revision (k, stem, e, n) =
    rw e (is_named stem.revisions revision
    (next_in_front stem.revisions (rev_at stems stem.parent) revision other n))

pub none_map : {X : Type 0} (o : Option X) (A B : Type 0) → IfNone o A → (A → B) → IfNone o B
none_map None A B h f = f h
none_map (Some x) A B h f = tt
