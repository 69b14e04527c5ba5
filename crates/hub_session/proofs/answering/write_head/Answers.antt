use Rattle.std.proofs.Common.{◌∙◌, refl, rules, subst}
use Rattle.std.specs.Prelude.{is_err}
use Rattle.std.specs.Io.KnownBytes.{Appends}
use Rattle.hub_http.specs.Chunks.{text_chunks}
use Rattle.hub_http.specs.Counts.{AppendsFront}
use Rattle.hub_http.specs.Items.{feed_head}
use Rattle.hub_http.specs.Texts.{head_text, chunked_line}
use Rattle.hub_http.proofs.CountLemmas.{counts_after, counts_for}
use Rattle.hub_http.proofs.SendLemmas.{front_of_more, sends_after}
use Rattle.hub_session.proofs.PartsLemmas.{broken_sends}
use Rattle.hub_session.proofs.answering.write_head.Goals as goal

pub returns-in_err-write_all : goal.returns-in_err-write_all
returns-in_err-write_all g c = record {
  counts = counts_for (λ broken. refl) c.in_err-write_all.ensures.counts;
  sent = broken_sends _ _ _ _ (search rules)
      (front_of_more _ _ (head_text 200 chunked_line c.args.close) (text_chunks (feed_head c.args.mode))
      (subst (AppendsFront _ _)
      (c.as_bytes.ensures.value ∙ c.stream_head_text.ensures) c.write_all.ensures.front));
}

pub returns : goal.returns
returns g c = record {
  counts = counts_after c.in_ok-write_all.ensures.counts c.begin_items.ensures.counts;
  sent = sends_after (is_err c.begin_items.result) _ _ _ (head_text 200 chunked_line c.args.close)
      (text_chunks (feed_head c.args.mode))
      (subst (Appends _ _) (c.as_bytes.ensures.value ∙ c.stream_head_text.ensures)
      c.in_ok-write_all.ensures.ok)
      c.begin_items.ensures.sent;
}
