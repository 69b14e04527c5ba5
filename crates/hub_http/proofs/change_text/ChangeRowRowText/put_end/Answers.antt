use Rattle.hub_document.proofs.AppendLemmas.{appended}
use Rattle.hub_http.specs.ChangeTexts.{change_end_text}
use Rattle.hub_document.proofs.WriteLemmas.{five_parts}
use Rattle.hub_http.proofs.change_text.ChangeRowRowText.put_end.Goals as goal

pub returns : goal.returns
unfolding change_end_text
returns c =
    appended _ _ _
    (rw (
      c.in_ok-extend_from_slice-4.ensures.items,
      c.in_ok-extend_from_slice-3.ensures.items,
      c.as_bytes.ensures.value,
      c.format.ensures.text,
      c.in_ok-extend_from_slice-2.ensures.items,
      c.in_ok-put_sequence.ensures.ok,
      c.in_ok-extend_from_slice.ensures.items,
    )
    (five_parts c.args.out.now.items _ _ _ _ _))
