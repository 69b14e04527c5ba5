-- A list of which one element is written over by itself, the length of a filtered list, and a test of three.
use Rattle.std.proofs.Common.{◌≡◌, ℕ, zero, suc, ◌≤◌, List, [], ◌∷◌, length, Bool, true, false, ap, refl, sym}
use Rattle.std.proofs.Common.{arith}
use Rattle.std.proofs.Common.{◌||◌}
use Rattle.std.specs.Prelude.{Some, slice_get, slice_set, filter, if◌then◌else◌}
use Rattle.std.proofs.lemmas.Option.{same_Some}

module _ {A : Type 0} where
  -- a list in which an element is written over by itself
  pub set_back : (xs : List A) (k : ℕ) (x : A) → slice_get xs k ≡ Some x → slice_set xs k x ≡ xs
  set_back [] k x e = refl
  set_back (y ∷ xs) zero x e = ap (λ z. z ∷ xs) (sym (same_Some y x e))
  set_back (y ∷ xs) (suc k) x e = ap (λ zs. y ∷ zs) (set_back xs k x e)

  pub count_filter : (P : A → Bool) (xs : List A) → length (filter P xs) ≤ length xs
  count_filter P [] = omega arith
  count_filter P (x ∷ xs) = from (P x) (count_filter P xs)
    where
      from : (b : Bool) → length (filter P xs) ≤ length xs
          → length (if b then (x ∷ filter P xs) else filter P xs) ≤ length (x ∷ xs)
      from true h = omega (arith, h)
      from false h = omega (arith, h)

pub or_none : (b : Bool) → (b || (false || false)) ≡ b
or_none true = refl
or_none false = refl
