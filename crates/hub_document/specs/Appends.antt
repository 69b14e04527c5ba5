-- The result of an append to a buffer (own).
use Rattle.std.specs.Prelude.{◌≡◌, ◌++◌, ℕ, List, Result, OnOk, OnErr, length, take}

-- The buffer has its old bytes and then the text. Out of memory, it has its old bytes, and any bytes may
-- follow. Where ab is appended to x the buffer holds xab, and out of memory x, xa or xab.
pub record Appends {E : Type 0} (text : List ℕ) (result : Result (Unit {0}) E) (old new : List ℕ) : Type 0
  where
    pub ok : OnOk result (new ≡ old ++ text)
    pub front : take (length old) new ≡ old

-- The buffer has its old bytes and then the text. Out of memory, the buffer is as it was. Where ab is
-- appended to x the buffer holds xab, and out of memory x.
pub record AppendsWhole {E : Type 0} (text : List ℕ) (result : Result (Unit {0}) E) (old new : List ℕ)
    : Type 0 where
  pub ok : OnOk result (new ≡ old ++ text)
  pub err : OnErr result (new ≡ old)
