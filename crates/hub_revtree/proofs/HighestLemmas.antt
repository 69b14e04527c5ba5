-- The highest generation of stems.
use Rattle.std.proofs.Common.{◌≡◌, ℕ, ◌<◌, ◌≤◌, List, [], ◌∷◌, ◌++◌, drop, Bool, true}
use Rattle.std.proofs.Common.{false, inl, inr, refl, sym, ap, ◌∙◌, subst, ◌||◌, arith}
use Rattle.std.specs.Prelude.{Option, Some, None, slice_get, max}
use Rattle.std.specs.List.{list_any}
use Rattle.std.proofs.lemmas.Bool.{cases_Bool}
use Rattle.std.proofs.lemmas.List.Folds.{list_any-append}
use Rattle.std.proofs.lemmas.Option.{same_Some}
use Rattle.hub_model.specs.Revision.{Revision, is_same}
use Rattle.hub_model.specs.Path.{IsPath, names}
use Rattle.hub_model.specs.Leaves.{is_behind_head}
use Rattle.hub_model.proofs.Legal.{falls_below}
use Rattle.hub_model.proofs.Tests.{names_is, same_is}
use Rattle.hub_revtree.specs.Branch.{edit_of}
use Rattle.hub_revtree.specs.declared.stem.Place.{Place}
use Rattle.hub_revtree.specs.Stem.{Stem, AreStems, AreUpTo, branch_of, branches_of, chain_of}
use Rattle.hub_revtree.specs.Stem.{chains_of, has_revision, is_at, is_behind_newest, revisions_at}
use Rattle.hub_revtree.proofs.StemLemmas.{named_in, one_stem_more}
use Rattle.hub_revtree.proofs.StemLooks.{behind_in, first_there}

-- a revision behind the first of a path is of a lower generation
behind_below : (revisions : List Revision) (revision other : Revision) → IsPath revisions
    → slice_get revisions 0 ≡ Some revision
    → names (drop 1 revisions) other ≡ true → other.generation < revision.generation
behind_below [] revision other f e n = absurd f
behind_below (y ∷ revisions) revision other f e n =
    let same : y.generation ≡ revision.generation = ap (λ (z : Revision). z.generation)
    (same_Some y revision e) in
    omega (arith, same, falls_below y revisions other f (names_is revisions other n))

named_up_to : (revisions : List Revision) (revision other : Revision) → IsPath revisions
    → slice_get revisions 0 ≡ Some revision → names revisions other ≡ true
    → other.generation ≤ revision.generation
named_up_to [] revision other f e n = absurd f
named_up_to (y ∷ revisions) revision other f e n = elim (cases_Bool (is_same other y)) [
  | inl t ↦
      let same : other.generation ≡ revision.generation =
      ap (λ (z : Revision). z.generation) (same_is other y t ∙ same_Some y revision e) in
      omega (arith, same)
  | inr t ↦ let low = behind_below (y ∷ revisions) revision other f e (rw t at n) in omega (arith, low)
]

-- a revision that stands behind a stem's newest is of a lower generation
pub behind_is_lower : (stems : List Stem) (k : ℕ) (stem : Stem) (revision other : Revision) → AreStems stems
    → slice_get stems k ≡ Some stem → slice_get stem.revisions 0 ≡ Some revision
    → is_behind_newest stems other stem ≡ true → other.generation < revision.generation
behind_is_lower stems k stem revision other a e h t =
    elim (cases_Bool (names (drop 1 stem.revisions) other)) [
      | inl u ↦ behind_below stem.revisions revision other (a.falling k stem e) h u
      | inr u ↦ from stem.parent refl (rw u at t)
    ]
  where
    from : (maybe_place : Option Place) → stem.parent ≡ maybe_place → is_at stems other maybe_place ≡ true
        → other.generation < revision.generation
    from None q v = absurd (cc)
    from (Some p) q v =
        a.lower k stem p other revision e q h (first_there p.at (revisions_at stems p.stem) other v)

either : {A : Type 0} (P : A → Bool) (xs : List A) (x : A) → list_any P (xs ++ x ∷ []) ≡ true
    → list_any P xs ≡ false → P x ≡ true
either P xs x t f =
    last (P x) (ap (λ b. b || (P x || false)) (sym f) ∙ (sym (list_any-append P xs (x ∷ [])) ∙ t))
  where
    last : (b : Bool) → (b || false) ≡ true → b ≡ true
    last true e = refl
    last false e = e

-- one stem more
pub up_to_more : (stems : List Stem) (stem : Stem) (path : List Revision) (revision : Revision)
    (highest next : ℕ)
    → AreStems stems → AreStems (stems ++ stem ∷ []) → AreUpTo stems highest → IsPath path
    → slice_get path 0 ≡ Some revision
    → (branch_of (chain_of (chains_of stems) stem)).path ≡ path → next ≡ max revision.generation highest
    → AreUpTo (stems ++ stem ∷ []) next
up_to_more stems stem path revision highest next a more up falls head whole is = record {
  known = λ r t. elim (cases_Bool (has_revision stems r)) [
    | inl u ↦ omega (arith, up.known r u, is)
    | inr u ↦
        let new =
        either (λ b. names b.path r) (branches_of stems) (branch_of (chain_of (chains_of stems) stem))
        (ap (list_any (λ b. names b.path r)) (sym (one_stem_more stems stem))
        ∙ (named_in (stems ++ stem ∷ []) more r ∙ t)) (named_in stems a r ∙ u) in
        omega (arith, named_up_to path revision r falls head (subst (λ p. names p r ≡ true) whole new), is)
  ];
  behind = λ r t. elim (cases_Bool (list_any (is_behind_newest stems r) stems)) [
    | inl u ↦ omega (arith, up.behind r u, is)
    | inr u ↦
        let new =
        either (λ b. is_behind_head r (edit_of b)) (branches_of stems)
        (branch_of (chain_of (chains_of stems) stem))
        (ap (list_any (λ b. is_behind_head r (edit_of b))) (sym (one_stem_more stems stem))
        ∙ (behind_in (stems ++ stem ∷ []) more r ∙ t)) (behind_in stems a r ∙ u) in
        omega (
          arith,
          behind_below path revision r falls head
              (subst (λ p. names (drop 1 p) r ≡ true) whole new),
          is,
        )
  ];
}

-- a revision of a generation above the highest is none of the stems'
pub above_none : (stems : List Stem) (highest : ℕ) → AreUpTo stems highest → (revision : Revision)
    → highest < revision.generation → has_revision stems revision ≡ false
above_none stems highest up revision high = elim (cases_Bool (has_revision stems revision)) [
  | inl t ↦ let low = up.known revision t in absurd (omega (arith, low, high))
  | inr f ↦ f
]
