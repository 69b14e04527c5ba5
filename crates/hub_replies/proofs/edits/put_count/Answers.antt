use Rattle.hub_document.proofs.WriteLemmas.{quoted_count, three_parts}
use Rattle.hub_replies.proofs.edits.put_count.Goals as goal

pub returns : goal.returns
returns c =
    rw (
      quoted_count c.args.count c.ranges.count.fits,
      c.in_ok-push.ensures.items,
      c.in_ok-extend_from_slice-2.ensures.items,
      c.as_bytes.ensures.value,
      c.format.ensures.text,
      c.in_ok-extend_from_slice.ensures.items,
    )
    (three_parts c.args.out.now.items _ _ _)
