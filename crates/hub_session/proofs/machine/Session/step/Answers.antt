use Rattle.hub_session.specs.Runs.{session_view}
use Rattle.hub_session.proofs.RunLemmas.{stepped_run}
use Rattle.hub_session.proofs.machine.Session.step.Goals as goal

pub returns-in-Between-clause-run : goal.returns-in-Between-clause-run
returns-in-Between-clause-run g c = λ run d.
    stepped_run g.S.Service.rules run (session_view c.args.self.now) (session_view c.take_request.new.self)
    c.take_request.result (c.take_request.ensures c.in-Between.is).0 d

pub returns-in-Within-clause-run : goal.returns-in-Within-clause-run
returns-in-Within-clause-run g c = λ run d.
    stepped_run g.S.Service.rules run (session_view c.args.self.now) (session_view c.send_item.new.self)
    c.send_item.result (c.send_item.ensures c.in-Within.is).0 d
