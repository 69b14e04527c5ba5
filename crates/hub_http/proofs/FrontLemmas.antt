-- The bytes of a whole that the writes of its parts have written.
use Rattle.std.proofs.Common.{◌≡◌, ℕ, ◌-◌, List, ◌++◌, length, take, drop, Option, sym}
use Rattle.std.proofs.Common.{subst, ap, ◌∙◌, append_assoc, take-append-drop, arith}
use Rattle.std.proofs.lemmas.Grind.{common_steps}
use lib.Seq.{take-append_seam}
use Rattle.std.specs.Io.KnownBytes.{Appends}
use Rattle.std.proofs.KnownBytes.{Appends-trans, Appends-kept}
use Rattle.std.specs.Io.KnownBytes.{Keeps}
use Rattle.hub_http.specs.Counts.{AppendsFront}

-- a front of the bytes was written, and then nothing more
pub front_kept : (old mid new : Option (List ℕ)) (bytes rest : List ℕ)
    → ((done : List ℕ) × (bytes ≡ done ++ rest) × Appends old mid done) → Keeps mid new
    → AppendsFront old new bytes
front_kept old mid new bytes rest x k = (
  length x.0,
  subst (Appends old new) (sym (ap (take (length x.0)) x.1 ∙ take-append_seam x.0 rest))
      (Appends-kept old mid new x.0 x.2 k),
)

pub front_of : (old new : Option (List ℕ)) (bytes rest : List ℕ)
    → ((done : List ℕ) × (bytes ≡ done ++ rest) × Appends old new done) → AppendsFront old new bytes
front_of old new bytes rest x = (
  length x.0,
  subst (Appends old new) (sym (ap (take (length x.0)) x.1 ∙ take-append_seam x.0 rest)) x.2,
)

rest_is : (rest : List ℕ) (n : ℕ) → take (length rest - n) (drop n rest) ≡ drop n rest
rest_is rest n = grind (arith, common_steps)

pub next_part : (old mid new : Option (List ℕ)) (bytes rest : List ℕ) (n : ℕ)
    → ((done : List ℕ) × (bytes ≡ done ++ rest) × Appends old mid done) → Appends mid new (take n rest)
    → (done : List ℕ) × (bytes ≡ done ++ take (length rest - n) (drop n rest)) × Appends old new done
next_part old mid new bytes rest n x more = (
  x.0 ++ take n rest,
  x.1
      ∙ ap (λ l. x.0 ++ l) (sym (take-append-drop n rest))
      ∙ sym (append_assoc x.0 (take n rest) (drop n rest))
      ∙ ap (λ l. (x.0 ++ take n rest) ++ l) (sym (rest_is rest n)),
  Appends-trans old mid new x.0 (take n rest) x.2 more,
)
