-- An index of no stems, and one of a stem more.
use Rattle.std.proofs.Common.{◌≡◌, ℕ, ◌+◌, ◌-◌, ◌<◌, List, get_or, length, min, take}
use Rattle.std.proofs.Common.{Bool, true, false, refl, sym, ap, ◌∙◌, subst, arith}
use Rattle.std.specs.Prelude.{Option, Some, None, IfSome, IfNone, is_some, slice_get}
use Rattle.std.proofs.lemmas.Bool.{both_ways}
use Rattle.std.proofs.lemmas.List.{length-take}
use Rattle.hub_model.specs.Revision.{Revision}
use Rattle.hub_model.specs.Path.{names}
use Rattle.hub_revtree.specs.declared.stem.Place.{Place}
use Rattle.hub_revtree.specs.First.{first_put}
use Rattle.hub_revtree.specs.Index.{AreLinked, AreTold, Has}
use Rattle.hub_revtree.specs.Stem.{Stem, revisions_at, revisions_in}
use Rattle.hub_revtree.proofs.FirstLemmas.{has_there, put_nothing}
use Rattle.hub_revtree.proofs.RunLemmas.{take_least}
use Rattle.hub_revtree.proofs.StemLooks.{read_stem}

pub nothing_told : (stems : List Stem) (e : ℕ → Option ℕ) (o : Revision → Option ℕ)
    → ((key : ℕ) → e key ≡ None)
    → ((revision : Revision) → o revision ≡ None) → AreTold (Has (take 0 stems)) e o
nothing_told stems e o none others = record {
  entries = λ key m q. absurd (differ m (sym (none key) ∙ q));
  keyed = λ k key revision h is. absurd (empty k revision h);
  others = λ k revision q. absurd (differ k (sym (others revision) ∙ q));
  told = λ k revision w. absurd (empty k revision w.0);
}
  where
    differ : (m : ℕ) → ◌≡◌ {A = Option ℕ} None (Some m) → ⊥
    differ m q = absurd (cc)

    empty : (k : ℕ) (revision : Revision) → Has (take 0 stems) k revision → ⊥
    empty k revision h = absurd (cc)

pub nothing_linked : (stems : List Stem) (l : Revision → Option ℕ)
    → ((revision : Revision) → l revision ≡ None) → AreLinked (Has (take 0 stems)) (take 0 stems) l
nothing_linked stems l none = record {
  links = λ k revision q. absurd (differ k (sym (none revision) ∙ q));
  linked = λ k revision h g. absurd (empty k revision h);
}
  where
    differ : (m : ℕ) → ◌≡◌ {A = Option ℕ} None (Some m) → ⊥
    differ m q = absurd (cc)

    empty : (k : ℕ) (revision : Revision) → Has (take 0 stems) k revision → ⊥
    empty k revision h = absurd (cc)

-- all but the last of the first stems
pub one_shorter : (stems : List Stem) (k : ℕ) → k < length stems
    → take (length (take (k + 1) stems) - 1) (take (k + 1) stems) ≡ take k stems
one_shorter stems k low =
    let all : length (take (k + 1) stems) - 1 ≡ k = omega (arith, low, length-take (k + 1) stems) in
    let few : min k (k + 1) ≡ k = omega arith in
    ap (λ j. take j (take (k + 1) stems)) all
    ∙ (sym (take_least k (k + 1) stems) ∙ ap (λ j. take j stems) few)

-- a map that has a number there keeps it
pub put_known : {K : Type 0} (same : K → K → Bool) → ((x y : K) → same x y ≡ true → x ≡ y)
    → (f : K → Option ℕ) (a : K) (n : ℕ) → is_some (f a) ≡ true → (x : K) → f x ≡ first_put same f a n x
put_known {K} same exact f a n some = from (f a) refl
  where
    from : (o : Option ℕ) → f a ≡ o → (x : K) → f x ≡ first_put same f a n x
    from None e = absurd (cc)
    from (Some m) e = put_nothing same exact f a n m e

pub none_there : {A : Type 0} (o : Option A) → is_some o ≡ false → o ≡ None
none_there None t = refl
none_there (Some x) t = absurd (cc)

-- the revision at a place of a stem that is read
pub read_there : (stems : List Stem) (k at : ℕ) (stem : Stem) (revision : Revision) → k < length stems
    → stem ≡ get_or stems k stem
    → slice_get stem.revisions at ≡ Some revision → slice_get (revisions_at stems k) at ≡ Some revision
read_there stems k at stem revision low is there =
    ap (λ o. slice_get (revisions_in o) at) (read_stem stems k stem low is) ∙ there

pub read_back : (stems : List Stem) (k at : ℕ) (stem : Stem) (revision : Revision) → k < length stems
    → stem ≡ get_or stems k stem
    → slice_get (revisions_at stems k) at ≡ Some revision → slice_get stem.revisions at ≡ Some revision
read_back stems k at stem revision low is there =
    ap (λ o. slice_get (revisions_in o) at) (sym (read_stem stems k stem low is)) ∙ there

pub read_long : (stems : List Stem) (k : ℕ) (stem : Stem) → k < length stems → stem ≡ get_or stems k stem
    → length (revisions_at stems k) ≡ length stem.revisions
read_long stems k stem low is = ap (λ o. length (revisions_in o)) (read_stem stems k stem low is)

-- where a look in a stem finds a place, the stem has the revision
pub placed_has : (stems : List Stem) (k : ℕ) (revision : Revision) (maybe_place : Option Place)
    → IfSome maybe_place (λ place. slice_get (revisions_at stems place.stem) place.at ≡ Some revision)
    → IfSome maybe_place (λ place. place.stem ≡ k) → is_some maybe_place ≡ true → Has stems k revision
placed_has stems k revision None there same t = absurd (cc)
placed_has stems k revision (Some place) there same t =
    subst (λ j. Has stems j revision) same (has_there stems place.stem place.at revision there)

pub placed_none : (stems : List Stem) (k : ℕ) (revision : Revision) (maybe_place : Option Place)
    → IfNone maybe_place (names (revisions_at stems k) revision ≡ false) → is_some maybe_place ≡ false
    → ¬ Has stems k revision
placed_none stems k revision None none t h = both_ways _ none h
placed_none stems k revision (Some place) none t h = absurd (cc)
