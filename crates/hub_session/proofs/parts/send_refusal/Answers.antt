use Rattle.std.proofs.Common.{[], append-nil, refl, rules, subst, ◌∙◌}
use Rattle.std.specs.Prelude.{is_err}
use Rattle.std.specs.Io.KnownBytes.{Appends}
use Rattle.hub_http.specs.Counts.{AppendsFront, Sends}
use Rattle.hub_http.specs.Texts.{refusal_body}
use Rattle.hub_http.proofs.CountLemmas.{counts_after, counts_for}
use Rattle.hub_http.proofs.SendLemmas.{sends_after}
use Rattle.hub_session.proofs.PartsLemmas.{broken_sends, refusal_parts}
use Rattle.hub_session.proofs.parts.send_refusal.Goals as goal

pub returns-in_err-write_parts : goal.returns-in_err-write_parts
returns-in_err-write_parts g c = record {
  counts = counts_for (λ broken. refl) c.in_err-write_parts.ensures.counts;
  sent = broken_sends _ _ _ _ (search rules)
      (subst (AppendsFront _ _)
      (refusal_parts _ _ c.args.refusal (c.as_bytes.ensures.value ∙ c.error.ensures)
      (c.as_bytes-2.ensures.value ∙ c.reason.ensures))
      c.in_err-write_parts.ensures.sent);
}

pub returns : goal.returns
returns g c = record {
  counts = counts_after c.in_ok-write_parts.ensures.counts c.send.ensures.counts;
  sent = subst (Sends (is_err c.send.result) _ _) (append-nil (refusal_body c.args.refusal))
      (sends_after (is_err c.send.result) _ _ _ (refusal_body c.args.refusal) []
      (subst (Appends _ _)
      (refusal_parts _ _ c.args.refusal (c.as_bytes.ensures.value ∙ c.error.ensures)
      (c.as_bytes-2.ensures.value ∙ c.reason.ensures))
      c.in_ok-write_parts.ensures.sent)
      c.send.ensures.sent);
}
