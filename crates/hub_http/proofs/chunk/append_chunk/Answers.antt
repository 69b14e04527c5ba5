use Rattle.std.proofs.Common.{◌∙◌, ◌++◌, ap, arith}
use Rattle.hub_http.proofs.ChunkLemmas.{chunk_made, ends_stand}
use Rattle.hub_http.proofs.chunk.append_chunk.Goals as goal

pub set_head-requires-clause-behind : goal.set_head-requires-clause-behind
set_head-requires-clause-behind g c =
    ends_stand c.args.out.now.items _ c.append.new.buffer.items _ c.len-start.result (omega arith)
    (c.in_ok-append.ensures.ok
    ∙ ap (λ l. l ++ g.T.Text.bytes c.args.text.now) c.in_ok-extend_from_slice.ensures.items)
    c.in_ok-extend_from_slice-2.ensures.items

pub returns : goal.returns
returns g c =
    chunk_made c.set_head.result c.args.out.now.items _ c.append.new.buffer.items
    c.extend_from_slice-2.new.self.items c.set_head.new.out.items c.len-start.result _ (omega arith)
    (omega arith) (omega arith)
    (c.in_ok-append.ensures.ok
    ∙ ap (λ l. l ++ g.T.Text.bytes c.args.text.now) c.in_ok-extend_from_slice.ensures.items)
    c.in_ok-extend_from_slice-2.ensures.items c.set_head.ensures.ok c.set_head.ensures.front
