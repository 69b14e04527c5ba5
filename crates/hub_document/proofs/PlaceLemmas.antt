-- In a path a revision stands at the one place that its generation tells.
use Rattle.std.proofs.Common.{◌≡◌, ◌≢◌, ℕ, suc, zero, ◌+◌, ◌-◌, ◌<◌, ◌≤◌, List, [], ◌∷◌, length}
use Rattle.std.proofs.Common.{true, false, Option, Some, None, inl, inr, arith, refl, sym, ap, subst}
use Rattle.std.specs.Prelude.{slice_get, MatchOption}
use Rattle.std.specs.Borrow.{Bor}
use Rattle.std.specs.List.{HoldsAt}
use Rattle.std.specs.Option.{option_copied}
use Rattle.std.proofs.lemmas.Bool.{cases_Bool}
use Rattle.std.proofs.lemmas.Option.{same_Some, slice_get_past, slice_get_read}
use Rattle.hub_model.specs.Revision.{Revision, is_same}
use Rattle.hub_model.specs.Path.{Falls, IsPath, names}
use Rattle.hub_model.proofs.Tests.{same_is, same_self, or_right}

-- one revision has one generation
same_generation : (revision other : Revision) → revision ≡ other → revision.generation ≡ other.generation
same_generation revision other e = ap (λ (z : Revision). z.generation) e

-- the revision k places behind revision has a generation lower by k
lower : (revision : Revision) (revisions : List Revision) (k : ℕ) (other : Revision)
    → Falls revision revisions → slice_get (revision ∷ revisions) k ≡ Some other
    → revision.generation ≡ other.generation + k
lower revision revisions zero other f h =
    let g = same_generation revision other (same_Some revision other h) in omega (arith, g)
lower revision [] (suc k) other f h = absurd (cc)
lower revision (y ∷ revisions) (suc k) other f h =
    let g = lower y revisions k other f.1 h in omega (arith, f.0, g)

-- the first revision of a path stands at place 0
named_first : (revision : Revision) (revisions : List Revision) (other : Revision)
    → is_same other revision ≡ true
    → (other.generation ≤ revision.generation)
    × (slice_get (revision ∷ revisions) (revision.generation - other.generation) ≡ Some other)
named_first revision revisions other t =
    let same : other ≡ revision = same_is other revision t in
    let none : revision.generation - other.generation ≡ 0 = omega (arith, same_generation other revision same)
    in
    (omega (arith, same_generation other revision same), rw none (ap Some (sym same)))

-- a revision that the path names stands at the place that its generation tells
named_at : (revision : Revision) (revisions : List Revision) (other : Revision) → Falls revision revisions
    → names (revision ∷ revisions) other ≡ true
    → (other.generation ≤ revision.generation)
    × (slice_get (revision ∷ revisions) (revision.generation - other.generation) ≡ Some other)
named_at revision [] other f h =
    named_first revision [] other
    (elim (cases_Bool (is_same other revision)) [
      | inl t ↦ t
      | inr t ↦ absurd (let e : names [] other ≡ true = rw t at h in cc)
    ])
named_at revision (y ∷ revisions) other f h =
    elim (cases_Bool (is_same other revision)) [
      | inl t ↦ named_first revision (y ∷ revisions) other t
      | inr t ↦
          let i = named_at y revisions other f.1 (rw t at h) in
          let more : revision.generation - other.generation ≡ suc (y.generation - other.generation) =
          omega (arith, f.0, i.0) in
          (omega (arith, f.0, i.0), rw more i.1)
    ]

-- a revision of a greater generation than the head's is not named
pub above_head : (revisions : List Revision) (revision other : Revision) → IsPath revisions
    → slice_get revisions 0 ≡ Some revision
    → revision.generation < other.generation → names revisions other ≡ false
above_head [] revision other f h low = absurd f
above_head (y ∷ revisions) revision other f h low =
    elim (cases_Bool (names (y ∷ revisions) other)) [
      | inl t ↦ absurd (omega (
        arith,
        (named_at y revisions other f t).0,
        low,
        same_generation y revision (same_Some y revision h),
      ))
      | inr t ↦ t
    ]

-- a revision that does not stand at its place is not named
pub not_named : (revisions : List Revision) (revision other : Revision) (k : ℕ) → IsPath revisions
    → slice_get revisions 0 ≡ Some revision
    → k ≡ revision.generation - other.generation → slice_get revisions k ≢ Some other
    → names revisions other ≡ false
not_named [] revision other k f h is n = absurd f
not_named (y ∷ revisions) revision other k f h is n =
    elim (cases_Bool (names (y ∷ revisions) other)) [
      | inl t ↦
          absurd (
          let place : y.generation - other.generation ≡ k =
          omega (arith, is, same_generation y revision (same_Some y revision h)) in
          n (rw place at (named_at y revisions other f t).1))
      | inr t ↦ t
    ]

-- so a revision whose place is past the path's end is not named
pub past_end : (revisions : List Revision) (revision other : Revision) (k : ℕ) → IsPath revisions
    → slice_get revisions 0 ≡ Some revision
    → k ≡ revision.generation - other.generation → length revisions ≤ k → names revisions other ≡ false
past_end revisions revision other k f h is past =
    not_named revisions revision other k f h is
    (λ e. let none : slice_get revisions k ≡ None = slice_get_past revisions k past in cc)

-- a revision that stands at some place is named
pub named : (revisions : List Revision) (k : ℕ) (revision : Revision) → slice_get revisions k ≡ Some revision
    → names revisions revision ≡ true
named [] k revision h = absurd (cc)
named (other ∷ revisions) zero revision h =
    subst (λ z. names (z ∷ revisions) revision ≡ true) (sym (same_Some other revision h))
    (rw (same_self revision) refl)
named (other ∷ revisions) (suc k) revision h =
    or_right (is_same revision other) (names revisions revision) (named revisions k revision h)

-- a copy of the element that `get` lends
pub copied_at : {X : Type 0} (xs : List X) (k : ℕ) (o : Option (Bor X))
    → MatchOption o (length xs ≤ k) (λ x. (k < length xs) × HoldsAt {X = X} (λ y. x.now ≡ y) xs k)
    → option_copied o ≡ slice_get xs k
copied_at xs k None h = sym (slice_get_past xs k h)
copied_at xs k (Some x) h = sym (slice_get_read xs _ k x.now refl h.0 (h.1 x.now))
