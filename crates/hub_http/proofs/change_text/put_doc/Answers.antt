use Rattle.hub_document.proofs.AppendLemmas.{appended}
use Rattle.std.proofs.Common.{sym, append-nil, append_assoc}
use Rattle.hub_http.specs.ChangeTexts.{doc_member}
use Rattle.hub_http.proofs.change_text.put_doc.Goals as goal

pub returns-in_default : goal.returns-in_default
unfolding doc_member
returns-in_default c =
    appended _ _ _
    (rw (← c.row.view_is, c.in_default.is) (sym (append-nil c.args.out.now.items)))

pub returns : goal.returns
unfolding doc_member
returns c =
    appended _ _ _
    (rw (
      c.in_ok-write_doc.ensures.ok,
      c.in_ok-extend_from_slice.ensures.items,
      ← c.row.view_is,
      c.in-Some.is,
      ← c.row.view_is,
    )
    (append_assoc c.args.out.now.items _ _))
