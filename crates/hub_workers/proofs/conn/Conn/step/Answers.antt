use Rattle.hub_session.specs.Runs.{session_view}
use Rattle.hub_workers.proofs.DrivenLemmas.{driven_on}
use Rattle.hub_workers.proofs.conn.Conn.step.Goals as goal

pub invariant_of-self : goal.invariant_of-self
invariant_of-self g c =
    let was = c.args.self.now.driven in
    record {
      has_run = driven_on g.S.Service.rules (session_view was.session) (session_view c.step-step.new.self) (λ run. run)
          c.step-step.ensures.run was.has_run;
    }
