use Rattle.hub_document.proofs.WriteLemmas.{five_parts}
use Rattle.hub_replies.specs.Bulk.{reason_members}
use Rattle.hub_replies.proofs.batch.put_reason.Goals as goal

pub returns : goal.returns
unfolding reason_members
returns c =
    rw (
      c.in_ok-extend_from_slice-5.ensures.items,
      c.in_ok-extend_from_slice-4.ensures.items,
      c.as_bytes-2.ensures.value,
      c.reason.ensures,
      c.in_ok-extend_from_slice-3.ensures.items,
      c.in_ok-extend_from_slice-2.ensures.items,
      c.as_bytes.ensures.value,
      c.error.ensures,
      c.in_ok-extend_from_slice.ensures.items,
    )
    (five_parts c.args.out.now.items _ _ _ _ _)
