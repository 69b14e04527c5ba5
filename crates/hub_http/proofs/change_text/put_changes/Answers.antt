use Rattle.hub_document.proofs.AppendLemmas.{appended}
use Rattle.hub_document.proofs.WriteLemmas.{three_parts}
use Rattle.std.proofs.Common.{◌∙◌, ap, sym}
use Rattle.hub_document.specs.Changes.{lent_in}
use Rattle.hub_http.specs.ChangeTexts.{revision_text}
use Rattle.hub_http.proofs.ChangeLemmas.{one_revision}
use Rattle.hub_http.proofs.change_text.put_changes.Goals as goal

pub returns-in_ok-extend_from_slice-in-One-2 : goal.returns-in_ok-extend_from_slice-in-One-2
unfolding revision_text
returns-in_ok-extend_from_slice-in-One-2 c =
    appended _ _ _
    (one_revision c.args.out.now.items _ c.args.changes.now c.in-One.rev.now
    (sym (ap lent_in c.in-One.is) ∙ c.lent.ensures)
    (rw (
      c.in_ok-extend_from_slice-in-One-2.ensures.items,
      c.in_ok-print_quoted-in-One.ensures.ok,
      c.in_ok-extend_from_slice-in-One.ensures.items,
    )
    (three_parts c.args.out.now.items _ _ _)))
