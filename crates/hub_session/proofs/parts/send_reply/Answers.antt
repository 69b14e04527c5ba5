use Rattle.std.proofs.Common.{refl, rules}
use Rattle.std.specs.Prelude.{is_err}
use Rattle.hub_http.proofs.CountLemmas.{counts_after, counts_for}
use Rattle.hub_session.proofs.PartsLemmas.{broken_head, broken_sends, sent_alone, sent_whole}
use Rattle.hub_session.proofs.parts.send_reply.Goals as goal

pub returns-in_err-write_head : goal.returns-in_err-write_head
returns-in_err-write_head g c = record {
  counts = counts_for (λ broken. refl) c.in_err-write_head.ensures.counts;
  sent = broken_sends _ _ _ _ (search rules)
      (broken_head c.args.reply c.args.head_only c.args.close _ _ c.in_err-write_head.ensures.sent);
}

pub returns-then-head_only : goal.returns-then-head_only
returns-then-head_only g c = record {
  counts = counts_after c.in_ok-write_head.ensures.counts c.send.ensures.counts;
  sent = sent_alone c.args.reply c.args.head_only c.args.close _ _
      c.in_ok-write_head.ensures.sent _ (is_err c.send.result) c.if-head_only.true c.send.ensures.sent;
}

pub returns : goal.returns
returns g c = record {
  counts = counts_after c.in_ok-write_head.ensures.counts c.send_body.ensures.counts;
  sent = sent_whole c.args.reply c.args.head_only c.args.close _ _
      c.in_ok-write_head.ensures.sent _ (is_err c.send_body.result) c.if-head_only.false
      c.send_body.ensures.sent;
}
