use Rattle.std.proofs.Common.{◌≡◌, ◌∙◌, Ok, refl, rules, subst}
use Rattle.hub_http.specs.Chunks.{WritesTo}
use Rattle.hub_http.specs.Counts.{AppendsFront}
use Rattle.hub_http.proofs.CountLemmas.{counts_after, counts_for}
use Rattle.hub_http.proofs.SendLemmas.{front_after}
use Rattle.hub_session.proofs.FeedLemmas.{fault_behind}
use Rattle.hub_session.proofs.feed.finish_item.Goals as goal

pub returns-in_err-item : goal.returns-in_err-item
returns-in_err-item g c = λ start text told.
    let same : c.args.item.written ≡ c.from_residual.result = search rules in
    fault_behind _ _ _ c.from_residual.result start c.args.writer.now text _ (search rules)
    (subst (λ r. WritesTo g.W.Output.written g.W.Output.fault_count g.W.Output.failure_count r start
    c.args.writer.now text) same told)

pub returns-in-Err : goal.returns-in-Err
returns-in-Err g c = λ start text told.
    let same : c.args.item.written ≡ Ok c.in_ok-item.field-0 = search rules in
    let written =
    subst (λ r. WritesTo g.W.Output.written g.W.Output.fault_count g.W.Output.failure_count r start
    c.args.writer.now text) same told in
    record {
      bytes_written = front_after _ _ _ _ _ written.bytes_written
          (subst (AppendsFront _ _) (c.as_bytes.ensures.value ∙ c.behind_chunk.ensures) c.in-Err.ensures.sent);
      counts = counts_after written.counts (counts_for (λ broken. refl) c.in-Err.ensures.counts);
    }
