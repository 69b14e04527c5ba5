use Rattle.hub_document.proofs.WriteLemmas.{five_parts}
use Rattle.hub_replies.specs.Bodies.{edit_text}
use Rattle.hub_replies.proofs.batch.put_stored.Goals as goal

pub returns : goal.returns
unfolding edit_text
returns c =
    rw (
      c.in_ok-push.ensures.items,
      c.in_ok-print_quoted.ensures.ok,
      c.in_ok-extend_from_slice-2.ensures.items,
      c.in_ok-put_id.ensures,
      c.in_ok-extend_from_slice.ensures.items,
    )
    (five_parts c.args.out.now.items _ _ _ _ _)
