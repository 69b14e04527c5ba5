-- The texts of rows of the log of updates.
use Rattle.std.proofs.Common.{◌≡◌, ℕ, List, ◌++◌, ◌∙◌, append_assoc}
use Rattle.hub_document.proofs.WriteLemmas.{five_parts}

pub seven_parts : (o a b c d e f g : List ℕ)
    → ((((((o ++ a) ++ b) ++ c) ++ d) ++ e) ++ f) ++ g ≡ o ++ (a ++ (b ++ (c ++ (d ++ (e ++ (f ++ g))))))
seven_parts o a b c d e f g =
    append_assoc (((((o ++ a) ++ b) ++ c) ++ d) ++ e) f g
    ∙ append_assoc ((((o ++ a) ++ b) ++ c) ++ d) e (f ++ g)
    ∙ five_parts o a b c d (e ++ (f ++ g))
