use Rattle.hub_session.specs.Runs.{run_offered, session_view, with_offered}
use Rattle.hub_workers.proofs.DrivenLemmas.{driven_as, driven_on}
use Rattle.hub_workers.proofs.driven.Driven.take_in.Goals as goal

pub invariant_of-self : goal.invariant_of-self
invariant_of-self g c =
    let old = session_view c.args.self.now.session in record {
      has_run = driven_on g.S.Service.rules old (session_view c.offer.new.self)
          (run_offered old.over c.args.bytes.now) c.in-Ok.ensures.run c.args.self.now.has_run;
    }

pub invariant_of-self-in-Err : goal.invariant_of-self-in-Err
invariant_of-self-in-Err g c =
    let rules = g.S.Service.rules in
    let old = session_view c.args.self.now.session in
    let same = session_view c.offer.new.self in record {
      has_run = driven_on rules same (session_view c.close_out_of_memory.new.self)
          (λ run. with_offered run c.args.bytes.now) c.close_out_of_memory.ensures.run
          (driven_as rules old same c.in-Err.ensures.err.0 c.args.self.now.has_run);
    }
