-- The run of a session, after the session changed.
use Rattle.std.proofs.Common.{◌≡◌, sym, subst}
use Rattle.std.proofs.Math.Logic.{∥∥₁_map}
use Rattle.hub_session.specs.Rules.{Rules}
use Rattle.hub_session.specs.Runs.{HasRun, Run, SessionView}

module _ {S : Type 0} (rules : Rules S) where
  -- the run went on
  pub driven_on : (old new : SessionView S) (next : Run S → Run S)
      → ((run : Run S) → HasRun rules run old → HasRun rules (next run) new)
      → ∥ ((run : Run S) × HasRun rules run old) ∥₁ → ∥ ((run : Run S) × HasRun rules run new) ∥₁
  driven_on old new next on driven = ∥∥₁_map driven (λ (run, has). (next run, on run has))

  -- the session has the same view
  pub driven_as : (old new : SessionView S) → new ≡ old
      → ∥ ((run : Run S) × HasRun rules run old) ∥₁ → ∥ ((run : Run S) × HasRun rules run new) ∥₁
  driven_as old new same = subst (λ x. ∥ ((run : Run S) × HasRun rules run x) ∥₁) (sym same)
