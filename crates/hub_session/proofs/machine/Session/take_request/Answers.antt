use Rattle.std.proofs.Common.{◌∙◌, ap, append-nil, inl, refl, Some, sym}
use Rattle.hub_http.specs.Boxes.{pending_in}
use Rattle.hub_http.specs.Stream.{asked_by}
use Rattle.hub_http.specs.declared.fault.HttpFault.TheVariants.{Ended}
use Rattle.hub_session.specs.declared.answering.Begun.TheVariants.{Answered}
use Rattle.hub_session.specs.declared.closing.Closing.TheVariants.{Fault, Finished}
use Rattle.hub_session.specs.Runs.{Steps, session_view}
use Rattle.hub_session.proofs.StepLemmas.{step_broken, stepped_end, stepped_fault, stepped_whole}
use Rattle.hub_session.proofs.machine.Session.take_request.Goals as goal

pub returns-in-Answered : goal.returns-in-Answered
returns-in-Answered g c = λ place.
    let spelt = rw c.in-Ok-Whole.field-0-is at c.in-Ok-Whole.ensures.told in
    let before = c.args.self.now in
    let mid =
    session_view (record before {
      inbox = c.next.new.self;
      outbox = c.begin_answer.new.writer;
      service = c.begin_answer.new.service;
    }) in (
      stepped_whole g.S.Service.rules (asked_by c.in-Ok-Whole.request) c.in-Answered.next (session_view before) mid
          (session_view c.go_behind.new.self) c.go_behind.result place spelt c.next.ensures.over
          c.in-Answered.ensures.told c.go_behind.ensures.shown c.go_behind.ensures.step,
      λ broken.
          rw c.go_behind.ensures.outbox
          (c.begin_answer.ensures.counts.fault
          (c.in-Answered.is
          ∙ ap Answered (step_broken c.in-Answered.next (sym c.go_behind.ensures.step ∙ broken)))),
    )

pub returns-in-Ok-Whole : goal.returns-in-Ok-Whole
returns-in-Ok-Whole g c = λ place.
    let spelt = rw c.in-Ok-Whole.field-0-is at c.in-Ok-Whole.ensures.told in
    let told = c.in-Streaming.ensures.told in (
      Steps.begins (asked_by c.in-Ok-Whole.request) c.in-Streaming.sending
          place refl refl c.next.ensures.over told.3 spelt told.0 told.1 told.2,
      λ broken. let other = broken in absurd (cc),
    )

pub returns-in-Ok-End : goal.returns-in-Ok-End
returns-in-Ok-End g c = λ place.
    let told = rw c.in-Ok-End.field-0-is at c.in-Ok-End.ensures.told in
    let mid = session_view (record c.args.self.now { inbox = c.next.new.self }) in
    let step = c.go_behind-in-Ok-End.ensures.step in (
      stepped_end g.S.Service.rules (session_view c.args.self.now) mid
          (session_view c.go_behind-in-Ok-End.new.self) c.go_behind-in-Ok-End.result place told.0 told.1
          c.next.ensures.over refl refl c.go_behind-in-Ok-End.ensures.shown step,
      λ broken. let other = step_broken (Some Finished) (sym step ∙ broken) in absurd (cc),
    )

pub returns-in-Err-Ended : goal.returns-in-Err-Ended
returns-in-Err-Ended g c = λ place.
    let told = rw c.in-Err-Ended.field-0-is at c.in-Err-Ended.ensures.told in
    let before = c.args.self.now in
    let mid = session_view (record before { inbox = c.next.new.self }) in
    let step = c.go_behind-in-Err-Ended.ensures.step in (
      stepped_fault g.S.Service.rules Ended (Fault Ended) (session_view before) mid
          (session_view c.go_behind-in-Err-Ended.new.self) c.go_behind-in-Err-Ended.result place told.1
          c.next.ensures.over refl (inl refl) (sym (append-nil (pending_in before.outbox)))
          c.go_behind-in-Err-Ended.ensures.shown step,
      λ broken. let other = step_broken (Some (Fault Ended)) (sym step ∙ broken) in absurd (cc),
    )

pub returns : goal.returns
returns g c = λ place.
    let before = c.args.self.now in
    let told = c.answer_fault-closing.ensures in
    let mid = session_view (record before { inbox = c.next.new.self; outbox = c.answer_fault-closing.new.writer }) in
    let step = c.go_behind-in-Err.ensures.step in (
      stepped_fault g.S.Service.rules c.in-Err.fault c.answer_fault-closing.result (session_view before) mid
          (session_view c.go_behind-in-Err.new.self) c.go_behind-in-Err.result place c.in-Err.ensures.told.1
          c.next.ensures.over refl told.closes told.sent c.go_behind-in-Err.ensures.shown step,
      λ broken.
          let closing = step_broken (Some c.answer_fault-closing.result) (sym step ∙ broken) in
          rw c.go_behind-in-Err.ensures.outbox (told.counts.fault (cc)),
    )
