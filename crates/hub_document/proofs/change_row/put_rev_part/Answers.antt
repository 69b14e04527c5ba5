use Rattle.std.proofs.Common.{◌∙◌, arith}
use Rattle.hub_document.proofs.AppendLemmas.{appended, lent_back, over_end}
use Rattle.hub_document.proofs.change_row.put_rev_part.Goals as goal

pub returns : goal.returns
returns c =
    appended _ _ _
    (lent_back _ c.put_over.new.bytes _ (c.put_over.ensures.len ∙ c.as_mut_slice.ensures.len)
    ∙ over_end c.args.out.now.items _ _ c.args.rev.now c.put_over.new.bytes c.len-start.result 9
    (c.as_mut_slice.ensures.value ∙ c.in_ok-extend_from_slice.ensures.items) (omega (arith, c.len-start.ensures))
    c.put_over.ensures.bytes)
