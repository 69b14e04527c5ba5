use Rattle.hub_document.proofs.AppendLemmas.{appended, refused, front_of, front_by, front_same}
use Rattle.hub_document.proofs.PartLemmas.{history_written}
use Rattle.hub_document.proofs.WriteLemmas.{five_parts}
use Rattle.hub_document.proofs.text.put_path.Goals as goal

pub returns : goal.returns
returns c =
    appended _ _ _
    (rw (
      c.in-Some.is,
      history_written,
      c.head.ensures.value,
      c.in_ok-extend_from_slice-4.ensures.items,
      c.in_ok-put_hashes.ensures.ok,
      c.revisions.ensures,
      c.in_ok-extend_from_slice-3.ensures.items,
      c.in_ok-extend_from_slice-2.ensures.items,
      c.as_bytes.ensures.value,
      c.format.ensures.text,
      c.generation.ensures.value,
      c.in_ok-extend_from_slice.ensures.items,
    )
    (five_parts c.args.out.now.items _ _ _ _ _))

pub returns-in_err-extend_from_slice : goal.returns-in_err-extend_from_slice
returns-in_err-extend_from_slice c =
    refused _ _ _ _ c.from_residual.ensures.0
    (front_same _ _ c.in_err-extend_from_slice.ensures.items)

pub returns-in_err-extend_from_slice-2 : goal.returns-in_err-extend_from_slice-2
returns-in_err-extend_from_slice-2 c =
    refused _ _ _ _ c.from_residual-in_err-extend_from_slice-2.ensures.0
    (front_by _ _ _ (front_of _ _ _ c.in_ok-extend_from_slice.ensures.items)
    (front_same _ _ c.in_err-extend_from_slice-2.ensures.items))

pub returns-in_err-extend_from_slice-3 : goal.returns-in_err-extend_from_slice-3
returns-in_err-extend_from_slice-3 c =
    refused _ _ _ _ c.from_residual-in_err-extend_from_slice-3.ensures.0
    (front_by _ _ _ (front_by _ _ _ (front_of _ _ _ c.in_ok-extend_from_slice.ensures.items)
    (front_of _ _ _ c.in_ok-extend_from_slice-2.ensures.items))
    (front_same _ _ c.in_err-extend_from_slice-3.ensures.items))

pub returns-in_err-put_hashes : goal.returns-in_err-put_hashes
returns-in_err-put_hashes c =
    refused _ _ _ _ c.from_residual-in_err-put_hashes.ensures.0
    (front_by _ _ _ (front_by _ _ _ (front_by _ _ _ (front_of _ _ _ c.in_ok-extend_from_slice.ensures.items)
    (front_of _ _ _ c.in_ok-extend_from_slice-2.ensures.items))
    (front_of _ _ _ c.in_ok-extend_from_slice-3.ensures.items))
    c.in_err-put_hashes.ensures.front)

pub returns-in_err-extend_from_slice-4 : goal.returns-in_err-extend_from_slice-4
returns-in_err-extend_from_slice-4 c =
    refused _ _ _ _ c.from_residual-in_err-extend_from_slice-4.ensures.0
    (front_by _ _ _ (front_by _ _ _ (front_by _ _ _ (front_by _ _ _ (front_of _ _ _ c.in_ok-extend_from_slice.ensures.items)
    (front_of _ _ _ c.in_ok-extend_from_slice-2.ensures.items))
    (front_of _ _ _ c.in_ok-extend_from_slice-3.ensures.items))
    c.in_ok-put_hashes.ensures.front)
    (front_same _ _ c.in_err-extend_from_slice-4.ensures.items))
