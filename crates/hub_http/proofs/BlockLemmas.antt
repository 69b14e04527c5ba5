-- Bytes that move from a block to the held ones.
use Rattle.std.proofs.Common.{◌≡◌, ℕ, sym, List, ◌++◌, take, drop}
use Rattle.std.proofs.Common.{Option, Some, None, ap, ◌∙◌, append_assoc, take-append-drop}
use Rattle.std.specs.Io.KnownBytes.{Keeps, prepend_known}

pub given_kept : (held block : List ℕ) (old left : Option (List ℕ)) (n : ℕ)
    → Keeps old (prepend_known block left)
    → Keeps (prepend_known held old)
    (prepend_known (held ++ take n block) (prepend_known (drop n block) left))
given_kept held block None left n k = tt
given_kept held block (Some x) None n k = absurd k
given_kept held block (Some x) (Some y) n k =
    append_assoc held (take n block) (drop n block ++ y)
    ∙ ap (λ l. held ++ l)
    (sym (append_assoc (take n block) (drop n block) y) ∙ ap (λ l. l ++ y) (take-append-drop n block) ∙ k)
