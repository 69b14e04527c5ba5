use Rattle.hub_http.specs.Stream.{asked_by}
use Rattle.hub_session.specs.Rules.{moment}
use Rattle.hub_session.proofs.AnswerLemmas.{stream_fed}
use Rattle.hub_session.proofs.SessionLemmas.{one_answered, one_finished, one_faulted}
use Rattle.hub_session.proofs.serving.serve_one.Goals as goal

pub returns-in-Answered-clause-told : goal.returns-in-Answered-clause-told
returns-in-Answered-clause-told g c = λ is_open.
    let told = rw c.in-Ok-Some.field-0-is at (c.in-Ok-Some.ensures.told is_open) in
    let after = moment c.begin_answer.new.service (g.W.Output.written c.begin_answer.new.writer) in
    one_answered g.S.Service.rules _ after _ _ c.in-Ok-Some.request _ told c.in-Answered.ensures.told

pub returns-in-Ok-Some-clause-told : goal.returns-in-Ok-Some-clause-told
returns-in-Ok-Some-clause-told g c = λ is_open.
    let told = rw c.in-Ok-Some.field-0-is at (c.in-Ok-Some.ensures.told is_open) in
    let begun = c.in-Streaming.ensures.told in
    let after = moment c.send_items-end.new.service (g.W.Output.written c.send_items-end.new.writer) in
    one_answered g.S.Service.rules _ after _ _ c.in-Ok-Some.request _ told
    (stream_fed g.S.Service.rules (asked_by c.in-Ok-Some.request) _ _ c.in-Streaming.sending.mode
    c.in-Streaming.sending.life _ _ _ _ begun.0 begun.1 c.after_stream.ensures begun.2
    c.send_items-end.ensures.fed)

pub returns-in-Ok-None-clause-told : goal.returns-in-Ok-None-clause-told
returns-in-Ok-None-clause-told g c = λ is_open.
    let told = rw c.in-Ok-None.field-0-is at (c.in-Ok-None.ensures.told is_open) in
    one_finished g.S.Service.rules _ _ _ told

pub returns-clause-told : goal.returns-clause-told
returns-clause-told g c = λ is_open.
    one_faulted g.S.Service.rules _ _ _ _ c.in-Err.fault _
    (c.in-Err.ensures.told is_open) c.answer_fault.ensures.closes c.answer_fault.ensures.sent
