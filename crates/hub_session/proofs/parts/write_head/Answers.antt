use Rattle.std.proofs.Common.{subst, ap, ◌∙◌}
use Rattle.std.specs.Prelude.{decimal, length}
use Rattle.hub_http.specs.Counts.{Sends}
use Rattle.hub_http.specs.Statuses.{reason_phrase}
use Rattle.hub_session.specs.Replies.{body_in, status_in}
use Rattle.hub_session.proofs.PartsLemmas.{head_parts}
use Rattle.hub_session.proofs.parts.write_head.Goals as goal

pub returns : goal.returns
returns g c = record {
  counts = c.write_parts.ensures.counts;
  sent = subst (Sends _ _ _)
      (head_parts (status_in c.args.reply.now) (length (body_in c.args.reply.now)) c.args.close _ _ _ _
      (c.as_bytes.ensures.value ∙ c.format.ensures.text
      ∙ ap decimal (c.as_u16.ensures ∙ c.framing-status.ensures.status))
      (c.as_bytes-2.ensures.value ∙ c.reason_phrase.ensures
      ∙ ap reason_phrase c.framing-status.ensures.status)
      (c.as_bytes-3.ensures.value ∙ c.format-2.ensures.text ∙ ap decimal c.framing-status.ensures.length)
      (c.as_bytes-4.ensures.value ∙ c.head_end.ensures))
      c.write_parts.ensures.sent;
}
