-- How far two lists of revisions are the same, step by step.
use Rattle.std.proofs.Common.{◌≡◌, ℕ, zero, suc, ◌+◌, min, List, [], ◌∷◌, length, drop}
use Rattle.std.proofs.Common.{take, true, inl, inr, refl, sym, ap, ap₂, subst, option_map, arith}
use Rattle.std.specs.Prelude.{Option, Some, None, slice_get}
use Rattle.std.proofs.lemmas.Bool.{cases_Bool}
use Rattle.std.proofs.lemmas.Option.{same_Some}
use Rattle.hub_model.specs.Revision.{Revision, is_same}
use Rattle.hub_model.specs.Path.{is_first}
use Rattle.hub_model.proofs.Tests.{same_is}
use Rattle.hub_revtree.specs.Common.{common}

-- both lists have this revision here
pub common_on : (others revisions : List Revision) (k : ℕ) (revision : Revision)
    → slice_get others k ≡ Some revision → is_first revision (drop k revisions) ≡ true
    → common (drop k others) (drop k revisions) ≡ option_map suc
    (common (drop (suc k) others) (drop (suc k) revisions))
common_on [] revisions k revision e t = absurd (cc)
common_on (other ∷ others) [] zero revision e t = absurd (cc)
common_on (other ∷ others) [] (suc k) revision e t = absurd (cc)
common_on (other ∷ others) (z ∷ revisions) zero revision e t =
    let s : is_same other z ≡ true = subst (λ v. is_same v z ≡ true) (sym (same_Some other revision e)) t in
    rw s refl
common_on (other ∷ others) (z ∷ revisions) (suc k) revision e t = common_on others revisions k revision e t

-- one of them ends here
pub common_end : (others revisions : List Revision) (k : ℕ) → k ≡ min (length revisions) (length others)
    → common (drop k others) (drop k revisions) ≡ Some 0
common_end [] revisions k e =
    let z : k ≡ 0 = omega (arith, e) in
    subst (λ n. common (drop n []) (drop n revisions) ≡ Some 0) (sym z) refl
common_end (revision ∷ others) [] k e =
    let z : k ≡ 0 = omega (arith, e) in
    subst (λ n. common (drop n (revision ∷ others)) (drop n []) ≡ Some 0) (sym z) refl
common_end (revision ∷ others) (other ∷ revisions) zero e = absurd (omega (arith, e))
common_end (revision ∷ others) (other ∷ revisions) (suc k) e =
    common_end others revisions k (omega (arith, e))

pub plus_one : (k : ℕ) (o : Option ℕ)
    → option_map (λ n. n + k) (option_map suc o) ≡ option_map (λ n. n + (k + 1)) o
plus_one k None = refl
plus_one k (Some n) = let same : suc n + k ≡ n + (k + 1) = omega arith in ap Some same

pub none_of : (o : Option ℕ) → option_map suc o ≡ None → o ≡ None
none_of None h = refl
none_of (Some n) h = absurd (cc)

-- the lists are the same as far as both go
pub common_some : (rest others : List Revision) (n : ℕ) → common rest others ≡ Some n
    → (n ≡ min (length rest) (length others)) × (take n rest ≡ take n others)
common_some [] others n e =
    let z : 0 ≡ n = same_Some 0 n e in
    subst (λ m. (m ≡ min 0 (length others)) × (take m [] ≡ take m others)) z (omega arith, refl)
common_some (other ∷ rest) [] n e =
    let z : 0 ≡ n = same_Some 0 n e in
    subst (λ m. (m ≡ min (suc (length rest)) 0) × (take m (other ∷ rest) ≡ take m [])) z (omega arith, refl)
common_some (other ∷ rest) (y ∷ others) n e = elim (cases_Bool (is_same other y)) [
  | inl t ↦ from (λ m h. common_some rest others m h) t (common rest others) refl (rw t at e)
  | inr t ↦ absurd (let f = rw t at e in cc)
]
  where
    from : ((m : ℕ) → common rest others ≡ Some m → (m ≡ min (length rest) (length others))
        × (take m rest ≡ take m others))
        → is_same other y ≡ true → (o : Option ℕ) → common rest others ≡ o → option_map suc o ≡ Some n
        → (n ≡ min (suc (length rest)) (suc (length others))) × (take n (other ∷ rest) ≡ take n (y ∷ others))
    from ih t None h f = absurd (cc)
    from ih t (Some m) h f =
        let i = ih m h in
        let z : suc m ≡ n = same_Some (suc m) n f in
        subst (λ k. (k ≡ min (suc (length rest)) (suc (length others)))
        × (take k (other ∷ rest) ≡ take k (y ∷ others))) z (
          omega (arith, i.0),
          ap₂ (λ (revision : Revision) (revisions : List Revision). revision ∷ revisions)
              (same_is other y t) i.1,
        )
