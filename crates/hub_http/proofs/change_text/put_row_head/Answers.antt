use Rattle.hub_document.proofs.AppendLemmas.{appended}
use Rattle.hub_document.proofs.WriteLemmas.{five_parts}
use Rattle.hub_http.specs.ChangeTexts.{row_head, id_member}
use Rattle.hub_http.proofs.change_text.put_row_head.Goals as goal

pub returns : goal.returns
unfolding row_head id_member
returns c =
    appended _ _ _
    (rw (
      c.in_ok-extend_from_slice-3.ensures.items,
      c.in_ok-put_quoted.ensures.ok,
      c.in_ok-extend_from_slice-2.ensures.items,
      c.in_ok-put_sequence.ensures.ok,
      c.in_ok-extend_from_slice.ensures.items,
    )
    (five_parts c.args.out.now.items _ _ _ _ _))
