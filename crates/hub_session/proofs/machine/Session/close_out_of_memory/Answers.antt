use Rattle.std.proofs.Common.{refl, rules}
use Rattle.hub_http.specs.Boxes.{pending_in}
use Rattle.hub_session.specs.Runs.{session_view}
use Rattle.hub_session.proofs.RunLemmas.{given_up_behind}
use Rattle.hub_session.proofs.StepLemmas.{no_memory_run, told_no_memory}
use Rattle.hub_session.proofs.machine.Session.close_out_of_memory.Goals as goal

pub returns-then-is_empty-clause-run : goal.returns-then-is_empty-clause-run
returns-then-is_empty-clause-run g c = λ run d.
    given_up_behind g.S.Service.rules run c.args.self.now.place (session_view c.args.self.now)
    (session_view c.give_up.new.self) c.args.bytes.now refl c.requires c.give_up.ensures.given_up d

pub returns-in-Between-clause-told : goal.returns-in-Between-clause-told
returns-in-Between-clause-told g c = λ place some.
    told_no_memory g.S.Service.rules c.answer_fault-closing.result (session_view c.args.self.now)
    (session_view c.go_behind.new.self) (pending_in c.answer_fault-closing.new.writer)
    c.answer_fault-closing.ensures.closes c.answer_fault-closing.ensures.sent c.go_behind.ensures.shown

pub returns-in-Between-clause-run : goal.returns-in-Between-clause-run
returns-in-Between-clause-run g c = λ run d.
    no_memory_run g.S.Service.rules c.answer_fault-closing.result (session_view c.args.self.now)
    (session_view c.go_behind.new.self) (pending_in c.answer_fault-closing.new.writer) run c.args.bytes.now
    c.in-Between.is c.requires (search rules) c.answer_fault-closing.ensures.closes
    c.answer_fault-closing.ensures.sent c.go_behind.ensures.shown d

pub returns-in-Within-clause-run : goal.returns-in-Within-clause-run
returns-in-Within-clause-run g c = λ run d.
    given_up_behind g.S.Service.rules run c.args.self.now.place (session_view c.args.self.now)
    (session_view c.give_up-in-Within.new.self) c.args.bytes.now refl c.requires
    c.give_up-in-Within.ensures.given_up d
