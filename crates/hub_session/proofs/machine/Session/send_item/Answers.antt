use Rattle.std.proofs.Common.{◌∙◌, refl, sym, true}
use Rattle.hub_session.specs.declared.closing.StreamEnd.TheVariants.{Exhausted}
use Rattle.hub_session.specs.Runs.{Steps, moment_of, session_view}
use Rattle.hub_session.proofs.AnswerLemmas.{broken_stream}
use Rattle.hub_session.proofs.StepLemmas.{step_broken, stepped_ends, streamed_out}
use Rattle.hub_session.proofs.machine.Session.send_item.Goals as goal

pub returns-then-sending-eq18446744073709551615 : goal.returns-then-sending-eq18446744073709551615
returns-then-sending-eq18446744073709551615 g c = λ place.
    let old = session_view c.args.self.now in
    let mid = session_view (record c.args.self.now { service = c.drop_stream.new.self }) in
    let step = c.go_behind.ensures.step in (
      stepped_ends g.S.Service.rules c.args.sending c.args.close Exhausted c.after_stream.result old mid
          (session_view c.go_behind.new.self) c.go_behind.result place c.after_stream.ensures refl refl
          (streamed_out g.S.Service.rules c.args.sending (moment_of old)
          (moment_of mid) c.drop_stream.ensures refl c.if-sending-eq18446744073709551615.true)
          c.go_behind.ensures.shown step,
      λ broken.
          let next = step_broken c.after_stream.result (sym step ∙ broken) in
          let end = broken_stream c.args.close Exhausted (sym c.after_stream.ensures ∙ next) in
          absurd (cc),
    )

pub returns-in-Ok : goal.returns-in-Ok
returns-in-Ok g c = λ place. (
  Steps.sends c.args.sending c.in-Ok.rows c.args.close place refl refl refl refl
      (c.in-Ok.ensures.sent c.args.self.now.service c.args.self.now.outbox 0 c.send_next-sent.ensures),
  λ broken. let other = broken in absurd (cc),
)

pub returns-in-Err : goal.returns-in-Err
returns-in-Err g c = λ place.
    let sent = c.send_next-sent.ensures in
    let before = c.args.self.now in
    let mid =
    session_view (record before {
      outbox = c.after_item.new.writer;
      chunks = c.send_next-sent.new.chunks;
      service = c.after_item.new.service;
      is_sending = true;
    }) in
    let step = c.go_behind-in-Err.ensures.step in (
      stepped_ends g.S.Service.rules c.args.sending c.args.close c.in-Err.end c.after_stream-in-Err.result
          (session_view before) mid (session_view c.go_behind-in-Err.new.self) c.go_behind-in-Err.result place
          c.after_stream-in-Err.ensures refl refl
          (λ count low. c.in-Err.ensures.sent before.service before.outbox count sent)
          c.go_behind-in-Err.ensures.shown step,
      λ broken.
          let next = step_broken c.after_stream-in-Err.result (sym step ∙ broken) in
          let end = broken_stream c.args.close c.in-Err.end (sym c.after_stream-in-Err.ensures ∙ next) in
          rw c.go_behind-in-Err.ensures.outbox
          ((c.after_item.ensures.counts before.service before.outbox sent).fault (cc)),
    )
