use Rattle.std.proofs.Common.{◌<◌, length, append_assoc, arith}
use Rattle.std.proofs.lemmas.Grind.{common_steps}
use Rattle.hub_replies.specs.Bodies.{revisions_text}
use Rattle.hub_replies.proofs.ListLemmas.{some_ancestors}
use Rattle.hub_replies.proofs.diffs.put_ancestors.Goals as goal

pub returns : goal.returns
unfolding revisions_text
returns c =
    let some : 0 < length c.args.revs.now = grind (arith, common_steps, c.if-is_empty.ensures) in
    rw (
      some_ancestors c.args.revs.now some,
      c.in_ok-put_list.ensures,
      c.in_ok-extend_from_slice.ensures.items,
    )
    (append_assoc c.args.out.now.items _ _)
