use Rattle.hub_session.specs.Runs.{session_view}
use Rattle.hub_workers.proofs.DrivenLemmas.{driven_on}
use Rattle.hub_workers.proofs.conn.Conn.give_up.Goals as goal

pub invariant_of-self : goal.invariant_of-self
invariant_of-self g c =
    let was = c.args.self.now.driven in
    record {
      has_run = driven_on g.S.Service.rules (session_view was.session) (session_view c.give_up.new.self) (λ run. run)
          c.give_up.ensures.run was.has_run;
    }
