use Rattle.hub_http.specs.Boxes.{transferred_bytes}
use Rattle.hub_session.specs.Runs.{session_view, with_gone}
use Rattle.hub_workers.proofs.DrivenLemmas.{driven_on}
use Rattle.hub_workers.proofs.driven.Driven.hand.Goals as goal

pub invariant_of-self-in-Took-1 : goal.invariant_of-self-in-Took-1
invariant_of-self-in-Took-1 g c =
    let old = session_view c.args.self.now.session in record {
      has_run = driven_on g.S.Service.rules old (session_view c.send_to.new.self)
          (λ run. with_gone run (transferred_bytes c.send_to.result old.pending)) c.send_to.ensures.run
          c.args.self.now.has_run;
    }

pub invariant_of-self : goal.invariant_of-self
invariant_of-self g c =
    let rules = g.S.Service.rules in
    let old = session_view c.args.self.now.session in
    let first = session_view c.send_to.new.self in record {
      has_run = driven_on rules first (session_view c.send_to-in-Again.new.self)
          (λ run. with_gone run (transferred_bytes c.send_to-in-Again.result first.pending))
          c.send_to-in-Again.ensures.run
          (driven_on rules old first (λ run. with_gone run (transferred_bytes c.send_to.result old.pending))
          c.send_to.ensures.run c.args.self.now.has_run);
    }
