-- The text of an object (RFC 8259, section 4).
use Rattle.std.specs.Prelude.{◌≡◌, ◌≤◌, ◌-◌, ℕ, List, [], ◌∷◌, ◌++◌, length, drop, take}

-- The text begins with an opening brace, and ends with a closing one. `{}` and `{"a":1}` do; `{` and `[]` do
-- not.
pub record IsBraced (text : List ℕ) : Type 0 where
  pub some : 2 ≤ length text
  pub opened : 123 ∷ drop 1 text ≡ text
  pub closed : take (length text - 1) text ++ 125 ∷ [] ≡ text
