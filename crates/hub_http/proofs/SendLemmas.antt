-- The bytes that several writes have written together.
use Rattle.std.proofs.Common.{◌≡◌, ℕ, suc, ◌+◌, min, Bool, true, false, List, [], ◌∷◌}
use Rattle.std.proofs.Common.{◌++◌, length, take, Option, sym, subst, ap, ◌∙◌, arith}
use Rattle.std.proofs.lemmas.Grind.{common_steps}
use Rattle.std.specs.Io.KnownBytes.{Appends}
use Rattle.std.proofs.KnownBytes.{Appends-trans}
use Rattle.hub_http.specs.Counts.{AppendsFront, Sends}

take_past : (x y : List ℕ) (n : ℕ) → take (length x + n) (x ++ y) ≡ x ++ take n y
take_past [] y n = let e : length {A = ℕ} [] + n ≡ n = omega arith in ap (λ k. take k y) e
take_past (a ∷ x) y n =
    let e : length (a ∷ x) + n ≡ suc (length x + n) = omega arith in
    ap (λ k. take k (a ∷ (x ++ y))) e ∙ ap (λ l. a ∷ l) (take_past x y n)

take_within : (x y : List ℕ) (n : ℕ) → take (min n (length x)) (x ++ y) ≡ take n x
take_within x y n = grind (arith, common_steps)

pub front_after : (a b c : Option (List ℕ)) (x y : List ℕ) → Appends a b x → AppendsFront b c y
    → AppendsFront a c (x ++ y)
front_after a b c x y p q =
    (length x + q.0, subst (Appends a c) (sym (take_past x y q.0)) (Appends-trans a b c x (take q.0 y) p q.1))

-- a front of x is a front of x and y
pub front_of_more : (a b : Option (List ℕ)) (x y : List ℕ) → AppendsFront a b x → AppendsFront a b (x ++ y)
front_of_more a b x y p = (min p.0 (length x), subst (Appends a b) (sym (take_within x y p.0)) p.1)

pub sends_after : (broken : Bool) (a b c : Option (List ℕ)) (x y : List ℕ) → Appends a b x
    → Sends broken b c y → Sends broken a c (x ++ y)
sends_after false a b c x y p q = Appends-trans a b c x y p q
sends_after true a b c x y p q = front_after a b c x y p q
