-- The form of the hash of a revision that is looked for (own).
use Rattle.std.specs.Prelude.{◌≡◌, ℕ, List, length}
use Rattle.hex.specs.Hex.{IsBytes, encode_lower}
use Rattle.hub_revtree.specs.declared.sought.Form.{Form}
use Rattle.hub_revtree.specs.declared.sought.Form.TheVariants.{Digest, Other, Unmade}

-- the hash is the text of the form's digest; or no digest's text; or any text, where no digest was made of it
abbrev pub IsFormOf : Form → List ℕ → Type 0
IsFormOf (Digest digest) hash = (hash ≡ encode_lower digest) × (length digest ≡ 16) × IsBytes digest
IsFormOf Other hash = (digest : List ℕ) → length digest ≡ 16 → IsBytes digest → ¬ (hash ≡ encode_lower digest)
IsFormOf Unmade hash = Unit {0}
