use Rattle.std.proofs.Common.{rules}
use Rattle.hub_session.specs.Runs.{session_view}
use Rattle.hub_session.proofs.RunLemmas.{given_up_between, given_up_within}
use Rattle.hub_session.proofs.machine.Session.give_up.Goals as goal

pub returns-in-Between : goal.returns-in-Between
returns-in-Between g c = record {
  given_up = search rules;
  closed = search rules;
  run = λ run d. given_up_between g.S.Service.rules run (session_view c.args.self.now) c.in-Between.is d;
}

pub returns-in-Within : goal.returns-in-Within
returns-in-Within g c = record {
  given_up = search rules;
  closed = search rules;
  run = λ run d.
      given_up_within g.S.Service.rules run c.in-Within.field-0 c.in-Within.field-1
      (session_view c.args.self.now) c.drop_stream.new.self c.in-Within.is c.drop_stream.ensures d;
}
