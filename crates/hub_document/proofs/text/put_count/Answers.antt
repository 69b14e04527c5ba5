use Rattle.hub_document.proofs.AppendLemmas.{appended, refused, front_of, front_by, front_same}
use Rattle.hub_document.proofs.PartLemmas.{count_is}
use Rattle.hub_document.proofs.WriteLemmas.{three_parts}
use Rattle.hub_document.proofs.text.put_count.Goals as goal

pub returns : goal.returns
returns c =
    appended _ _ _
    (rw (
      count_is c.args.count c.ranges.count.fits,
      c.in_ok-extend_from_slice-3.ensures.items,
      c.in_ok-extend_from_slice-2.ensures.items,
      c.as_bytes.ensures.value,
      c.format.ensures.text,
      c.in_ok-extend_from_slice.ensures.items,
    )
    (three_parts c.args.out.now.items _ _ _))

pub returns-in_err-extend_from_slice : goal.returns-in_err-extend_from_slice
returns-in_err-extend_from_slice c =
    refused _ _ _ _ c.from_residual.ensures.0 (front_same _ _ c.in_err-extend_from_slice.ensures.items)

pub returns-in_err-extend_from_slice-2 : goal.returns-in_err-extend_from_slice-2
returns-in_err-extend_from_slice-2 c =
    refused _ _ _ _ c.from_residual-in_err-extend_from_slice-2.ensures.0 (front_by _ _ _ (front_of _ _ _ c.in_ok-extend_from_slice.ensures.items) (front_same _ _ c.in_err-extend_from_slice-2.ensures.items))

pub returns-in_err-extend_from_slice-3 : goal.returns-in_err-extend_from_slice-3
returns-in_err-extend_from_slice-3 c =
    refused _ _ _ _ c.from_residual-in_err-extend_from_slice-3.ensures.0 (front_by _ _ _ (front_by _ _ _ (front_of _ _ _ c.in_ok-extend_from_slice.ensures.items) (front_of _ _ _ c.in_ok-extend_from_slice-2.ensures.items)) (front_same _ _ c.in_err-extend_from_slice-3.ensures.items))
