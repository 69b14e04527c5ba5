use Rattle.hub_document.proofs.AppendLemmas.{appended, refused, front_of, front_by, front_same}
use Rattle.hub_document.proofs.PartLemmas.{plain_head}
use Rattle.hub_document.proofs.change_row.put_plain_head.Goals as goal

pub returns : goal.returns
returns c before is =
    appended _ _ _
    (rw (
      c.in_ok-put_rev_part.ensures.ok,
      c.in_ok-extend_from_slice-2.ensures.items,
      c.as_bytes.ensures.value,
      c.in_ok-extend_from_slice.ensures.items,
      is,
    )
    (plain_head c.args.out.now.items before _ _ c.requires))

pub returns-in_err-extend_from_slice : goal.returns-in_err-extend_from_slice
returns-in_err-extend_from_slice c before is =
    refused _ _ _ _ c.from_residual.ensures.0 (front_same _ _ c.in_err-extend_from_slice.ensures.items)

pub returns-in_err-extend_from_slice-2 : goal.returns-in_err-extend_from_slice-2
returns-in_err-extend_from_slice-2 c before is =
    refused _ _ _ _ c.from_residual-in_err-extend_from_slice-2.ensures.0 (front_by _ _ _ (front_of _ _ _ c.in_ok-extend_from_slice.ensures.items) (front_same _ _ c.in_err-extend_from_slice-2.ensures.items))

pub returns-in_err-put_rev_part : goal.returns-in_err-put_rev_part
returns-in_err-put_rev_part c before is =
    refused _ _ _ _ c.from_residual-in_err-put_rev_part.ensures.0 (front_by _ _ _ (front_by _ _ _ (front_of _ _ _ c.in_ok-extend_from_slice.ensures.items) (front_of _ _ _ c.in_ok-extend_from_slice-2.ensures.items)) c.in_err-put_rev_part.ensures.front)
