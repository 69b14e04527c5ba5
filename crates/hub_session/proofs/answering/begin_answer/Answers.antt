use Rattle.std.proofs.Common.{◌∙◌, refl, sym, subst}
use Rattle.std.specs.Prelude.{is_err}
use Rattle.hub_http.specs.Counts.{Sends}
use Rattle.hub_http.specs.Stream.{asked_by}
use Rattle.hub_session.proofs.AnswerLemmas.{bare_sent, stream_broken, told_sent}
use Rattle.hub_session.proofs.answering.begin_answer.Goals as goal

pub returns-in-Whole-clause-told : goal.returns-in-Whole-clause-told
returns-in-Whole-clause-told g c =
    told_sent g.S.Service.rules (asked_by c.args.request.now) _ _ (is_err c.send_reply-sent.result)
    c.in-Whole.reply c.is_head-head_only.result _ _ c.in-Whole.ensures c.is_head-head_only.ensures
    c.after_whole.ensures c.send_reply-sent.ensures.sent

pub returns-then-head_only-clause-told : goal.returns-then-head_only-clause-told
returns-then-head_only-clause-told g c =
    bare_sent g.S.Service.rules (asked_by c.args.request.now) _ _ (is_err c.send-sent.result)
    c.in-Stream.mode c.in-Stream.life _ _ c.in-Stream.ensures c.drop_stream.ensures
    (sym c.is_head-head_only.ensures ∙ c.if-head_only.true) c.after_whole-then-head_only.ensures
    (subst (Sends (is_err c.send-sent.result) _ _) (c.as_bytes.ensures.value ∙ c.stream_head_text.ensures)
    c.send-sent.ensures.sent)

pub returns-in-Ok-clause-told : goal.returns-in-Ok-clause-told
returns-in-Ok-clause-told g c =
    rw c.new.ensures
    (c.in-Stream.ensures, sym c.is_head-head_only.ensures ∙ c.if-head_only.false, c.in-Ok.ensures.sent, refl)

pub returns-in-Err-clause-told : goal.returns-in-Err-clause-told
returns-in-Err-clause-told g c =
    stream_broken g.S.Service.rules (asked_by c.args.request.now) _ _ c.in-Stream.mode c.in-Stream.life
    _ c.in-Stream.ensures c.drop_stream-in-Err.ensures
    (sym c.is_head-head_only.ensures ∙ c.if-head_only.false) c.in-Err.ensures.sent
