use Rattle.hub_document.proofs.WriteLemmas.{five_parts}
use Rattle.hub_replies.specs.Bodies.{diff_text, revisions_text}
use Rattle.hub_replies.proofs.diffs.DiffMember.put.Goals as goal

pub returns : goal.returns
unfolding diff_text revisions_text
returns c =
    rw (
      ← c.self.view_is,
      c.in_ok-push.ensures.items,
      c.in_ok-put_ancestors.ensures,
      c.as_slice-2.ensures,
      c.in_ok-put_list.ensures,
      c.as_slice.ensures,
      c.in_ok-extend_from_slice.ensures.items,
      c.in_ok-put_quoted.ensures.ok,
      c.as_str.ensures.value,
    )
    (five_parts c.args.out.now.items _ _ _ _ _)
