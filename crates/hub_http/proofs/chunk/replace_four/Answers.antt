use Rattle.std.proofs.Common.{◌∙◌, ◌++◌, ◌+◌, ap, take, drop, length, arith}
use Rattle.hub_document.proofs.AppendLemmas.{lent_back}
use Rattle.hub_http.proofs.ChunkLemmas.{four_replaced, four_front}
use Rattle.hub_http.proofs.chunk.replace_four.Goals as goal

pub returns-clause-ok : goal.returns-clause-ok
returns-clause-ok c =
    lent_back _ c.write_at.new.bytes _ (c.write_at.ensures.len ∙ c.as_mut_slice.ensures.len)
    ∙ four_replaced c.args.out.now.items c.args.text.now c.extend_from_slice.new.self.items
    c.truncate.new.self.items c.write_at.new.bytes c.args.start c.len-len.result (omega arith) (omega arith)
    c.in_ok-extend_from_slice.ensures.items
    (c.truncate.ensures.items ∙ ap (take _) c.copy_within.ensures.items)
    (c.write_at.ensures.written
    ∙ ap (λ l. take c.args.start l ++ (c.args.text.now ++ drop (c.args.start + length c.args.text.now) l))
    c.as_mut_slice.ensures.value)

pub returns-clause-front : goal.returns-clause-front
returns-clause-front c =
    four_front c.args.out.now.items _ _ c.args.start c.len-len.result (omega arith) (omega arith)
    (returns-clause-ok c)
