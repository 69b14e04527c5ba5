use Rattle.hub_document.proofs.AppendLemmas.{appended}
use Rattle.hub_http.specs.ChangeTexts.{doc_member, row_end}
use Rattle.hub_http.proofs.ChangeLemmas.{doc_ended}
use Rattle.hub_http.proofs.change_text.PlainRow.put_end.Goals as goal

pub returns-in_default : goal.returns-in_default
unfolding row_end doc_member
returns-in_default c = rw (← c.row.view_is, c.in_default.is) c.put_short_end.ensures

pub returns : goal.returns
returns c =
    appended _ _ _
    (rw (
      c.in_ok-extend_from_slice-2.ensures.items,
      c.in_ok-write_doc.ensures.ok,
      c.in_ok-extend_from_slice.ensures.items,
      c.as_bytes.ensures.value,
      c.doc_front.ensures,
      ← c.row.view_is,
    )
    (doc_ended c.args.out.now.items _ c.in-Some.body c.in-Some.is))
