use Rattle.hub_document.proofs.AppendLemmas.{appended}
use Rattle.hub_http.specs.UpdateTexts.{update_row_text}
use Rattle.hub_http.proofs.UpdateLemmas.{seven_parts}
use Rattle.hub_http.proofs.update_text.UpdateRowRowText.put_row.Goals as goal

pub returns : goal.returns
unfolding update_row_text
returns c =
    appended _ _ _
    (rw (
      c.in_ok-extend_from_slice-5.ensures.items,
      c.in_ok-put_sequence.ensures.ok,
      c.in_ok-extend_from_slice-4.ensures.items,
      c.in_ok-extend_from_slice-3.ensures.items,
      c.as_bytes.ensures.value,
      c.kind_text.ensures,
      c.in_ok-extend_from_slice-2.ensures.items,
      c.in_ok-put_quoted.ensures.ok,
      c.as_str.ensures.value,
      c.in_ok-extend_from_slice.ensures.items,
      ← c.self.view_is,
    )
    (seven_parts c.args.out.now.items _ _ _ _ _ _ _))
