use Rattle.hub_document.proofs.AppendLemmas.{appended}
use Rattle.hub_http.specs.ChangeTexts.{row_end}
use Rattle.hub_document.proofs.WriteLemmas.{three_parts}
use Rattle.hub_http.proofs.change_text.put_row_end.Goals as goal

pub returns : goal.returns
unfolding row_end
returns c =
    appended _ _ _
    (rw (
      c.in_ok-extend_from_slice.ensures.items,
      c.in_ok-put_doc.ensures.ok,
      c.in_ok-put_mark.ensures.ok,
      ← c.row.view_is,
    )
    (three_parts c.args.out.now.items _ _ _))
