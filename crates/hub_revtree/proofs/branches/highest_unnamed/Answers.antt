use Rattle.std.proofs.Common.{◌∙◌, sym}
use Rattle.hub_revtree.proofs.AncestorLemmas.{highest_named, highest_unnamed}
use Rattle.hub_revtree.proofs.branches.highest_unnamed.Goals as goal

pub loop-rev-preserved-then-is_named : goal.loop-rev-preserved-then-is_named
loop-rev-preserved-then-is_named c =
    highest_named c.args.branches.now.list c.args.revs.now
    c.loop-rev.rev-index c.rev-item.result c.loop-rev-test.true c.rev-item.is c.loop-rev.highest _
    (sym c.is_named.ensures ∙ c.if-is_named.true) c.loop-rev.invariant

pub loop-rev-preserved : goal.loop-rev-preserved
loop-rev-preserved c =
    rw (c.max-highest.ensures, c.generation.ensures.value)
    (highest_unnamed c.args.branches.now.list c.args.revs.now c.loop-rev.rev-index c.rev-item.result
    c.loop-rev-test.true c.rev-item.is c.loop-rev.highest _
    (sym c.is_named.ensures ∙ c.if-is_named.false) c.loop-rev.invariant)
