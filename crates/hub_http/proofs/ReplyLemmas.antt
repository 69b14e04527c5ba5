-- The heads of replies.
use Rattle.std.proofs.Common.{◌≡◌, ℕ, List, ◌++◌, ◌∙◌, ap, sym, append_assoc}

-- a head that is written in three parts
pub head_parts : (o s t c d e r : List ℕ)
    → ((o ++ (s ++ (t ++ c))) ++ d) ++ (e ++ r) ≡ o ++ (s ++ (t ++ ((c ++ (d ++ e)) ++ r)))
head_parts o s t c d e r =
    append_assoc (o ++ (s ++ (t ++ c))) d (e ++ r)
    ∙ append_assoc o (s ++ (t ++ c)) (d ++ (e ++ r))
    ∙ ap (λ l. o ++ l) (append_assoc s (t ++ c) (d ++ (e ++ r)))
    ∙ ap (λ l. o ++ (s ++ l)) (append_assoc t c (d ++ (e ++ r)))
    ∙ ap (λ l. o ++ (s ++ (t ++ (c ++ l)))) (sym (append_assoc d e r))
    ∙ ap (λ l. o ++ (s ++ (t ++ l))) (sym (append_assoc c (d ++ e) r))
