use Rattle.hub_session.specs.Runs.{new_run}
use Rattle.hub_workers.proofs.driven.Driven.new.Goals as goal

pub invariant_of-result : goal.invariant_of-result
invariant_of-result g c = record { has_run = ∣ (new_run c.args.service, c.new-2.ensures.run) ∣₁ }
