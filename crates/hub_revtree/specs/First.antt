-- Functions to numbers that keep the first number of each argument (own). An example: 7 is put at a, where no
-- number is, and a has 7. Then 9 is put at a, and a still has 7.
use Rattle.std.specs.Prelude.{ℕ, Bool, Option, Some, if◌then◌else◌, unwrap_or}

-- The function after this number is put at an argument. Where the function has a number there, it keeps that
-- number. In the example above it gives 7 at a after both, and at b the same as before.
abbrev pub first_put : {K : Type 0} → (K → K → Bool) → (K → Option ℕ) → K → ℕ → K → Option ℕ
first_put same f argument number x =
    if same argument x then Some (unwrap_or (f argument) number) else f x
