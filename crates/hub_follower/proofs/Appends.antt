-- Texts that are appended one after the other.
use Rattle.std.proofs.Common.{◌≡◌, ◌∙◌, ℕ, List, ◌++◌, ap, append_assoc}

-- the end is the bytes o, then b, then r, where the bytes p are o and b
pub more : (end p o b r : List ℕ) → end ≡ p ++ r → p ≡ o ++ b → end ≡ o ++ (b ++ r)
more end p o b r e q = e ∙ (ap (λ z. z ++ r) q ∙ append_assoc o b r)
