-- The tokens that a writer of JSON took (own).
use Rattle.std.specs.Prelude.{◌≡◌, ◌++◌, List, Result, OnOk}
use Rattle.json.specs.Token.{Token}
use Rattle.json.specs.Written.{Written}

-- The writer has its old tokens and then these. Out of memory any tokens may stand there. The bytes in front
-- of them stay.
pub record WritesTokens {E : Type 0} (tokens : List Token) (result : Result (Unit {0}) E) (old new : Written)
    : Type 0 where
  pub ok : OnOk result (new.tokens ≡ old.tokens ++ tokens)
  pub before : new.before ≡ old.before
