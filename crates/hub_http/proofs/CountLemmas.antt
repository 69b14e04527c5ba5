-- Facts of counts that never fall.
use Rattle.std.proofs.Common.{ℕ, ◌≤◌, inl, inr, arith}
use Rattle.std.proofs.lemmas.Grind.{common_steps}
use Rattle.hub_http.specs.Counts.{CallCounts, HasGivenUp, HasGrown}

-- calls that gave up after other calls gave up
pub gave_up_since : (a b c x y z : ℕ) → a ≤ b → x ≤ y → HasGivenUp b c y z → HasGivenUp a c x z
gave_up_since a b c x y z p q (inl r) = inl (grind (arith, common_steps))
gave_up_since a b c x y z p q (inr r) = inr (grind (arith, common_steps))

rose_since : (a b c : ℕ) → a ≤ b → HasGrown b c → HasGrown a c
rose_since a b c p r = grind (arith, common_steps)

-- the counts of a call, from the counts before earlier calls on, at which no count fell
pub counts_since : {W : Type 0} {B : Type 0} {f g : W → ℕ} {x y z : W} → f x ≤ f y → g x ≤ g y
    → CallCounts B f g y z → CallCounts B f g x z
counts_since {f = f} {x = x} {y = y} {z = z} p q more = record {
  faults = omega (arith, p, more.faults);
  failures = omega (arith, q, more.failures);
  fault = λ fault. rose_since (f x) (f y) (f z) p (more.fault fault);
  gave_up = λ fault. gave_up_since _ _ _ _ _ _ q p (more.gave_up fault);
}

-- the counts of a call and of another before it
pub counts_after : {W : Type 0} {A B : Type 0} {f g : W → ℕ} {x y z : W} → CallCounts A f g x y
    → CallCounts B f g y z → CallCounts B f g x z
counts_after p q = counts_since p.faults p.failures q

-- the counts of calls for another fault, which is theirs too
pub counts_for : {W : Type 0} {A B : Type 0} {f g : W → ℕ} {x y : W} → (B → A) → CallCounts A f g x y
    → CallCounts B f g x y
counts_for same p = record {
  faults = p.faults;
  failures = p.failures;
  fault = λ fault. p.fault (same fault);
  gave_up = λ fault. p.gave_up (same fault);
}

-- counts that do not fall, where there is no fault
pub counts_only : {W : Type 0} {B : Type 0} {f g : W → ℕ} {x y : W} → f x ≤ f y → g x ≤ g y → ¬ B
    → CallCounts B f g x y
counts_only p q none = record {
  faults = p;
  failures = q;
  fault = λ fault. absurd (none fault);
  gave_up = λ fault. absurd (none fault);
}
