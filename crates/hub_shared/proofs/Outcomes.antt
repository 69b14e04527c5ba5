-- Statements about the answer of a call, from known statements about it.
use Rattle.std.specs.Prelude.{Result, Ok, Err, IfOk, IfErr, OnOk}

module _ {T E : Type 0} where
  pub ok_by : {P Q : T → Type 0} (r : Result T E) → ((a : T) → P a → Q a) → IfOk r P → IfOk r Q
  ok_by (Ok a) f p = f a p
  ok_by (Err e) f p = p

  pub err_by : {P Q : E → Type 0} (r : Result T E) → ((e : E) → P e → Q e) → IfErr r P → IfErr r Q
  err_by (Ok a) f p = p
  err_by (Err e) f p = f e p

  -- a conclusion that follows from either answer
  pub either : {Q : T → Type 0} {W : E → Type 0} {Z : Type 0} (r : Result T E) → IfOk r Q → IfErr r W
      → ((a : T) → Q a → Z) → ((e : E) → W e → Z) → Z
  either (Ok a) q w f k = f a q
  either (Err e) q w f k = k e w

  -- the same, where the value plays no part
  pub either_way : {X Z : Type 0} {W : E → Type 0} (r : Result T E) → OnOk r X → IfErr r W → (X → Z)
      → ((e : E) → W e → Z) → Z
  either_way (Ok a) x w f k = f x
  either_way (Err e) x w f k = k e w
