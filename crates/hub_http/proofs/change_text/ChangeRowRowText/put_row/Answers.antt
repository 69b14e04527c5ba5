use Rattle.hub_document.proofs.AppendLemmas.{appended}
use Rattle.hub_http.specs.ChangeTexts.{change_row_text}
use Rattle.hub_document.proofs.WriteLemmas.{three_parts}
use Rattle.hub_http.proofs.change_text.ChangeRowRowText.put_row.Goals as goal

pub returns : goal.returns
unfolding change_row_text
returns c =
    appended _ _ _
    (rw (
      c.in_ok-put_row_end.ensures.ok,
      ← c.self.view_is,
      c.in_ok-put_changes.ensures.ok,
      c.in_ok-put_row_head.ensures.ok,
      c.as_str-id.ensures.value,
    )
    (three_parts c.args.out.now.items _ _ _))
