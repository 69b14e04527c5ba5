use Rattle.std.proofs.Common.{sym, ◌∙◌}
use Rattle.hub_revtree.proofs.LeafLemmas.{best_behind, best_passed, best_taken, none_yet}
use Rattle.hub_revtree.proofs.leaf.best_leaf.Goals as goal

pub loop-at-init : goal.loop-at-init
loop-at-init c =
    none_yet c.args.branches.now.list c.len-at.result c.len-number.result
    c.len-at.ensures.length c.len-number.ensures.length

pub loop-at-preserved-in_default : goal.loop-at-preserved-in_default
loop-at-preserved-in_default c =
    let inner = c.in_default.ensures.inner in (
      best_behind c.args.branches.now.list c.loop-at.at inner.0 c.loop-at-test.true inner.1.0
          c.loop-at.best c.loop-at.invariant.0 inner.1.1,
      c.loop-at.invariant.1,
    )

pub loop-at-preserved-then-not-is_better : goal.loop-at-preserved-then-not-is_better
loop-at-preserved-then-not-is_better c = (
  best_passed c.args.branches.now.list c.loop-at.at c.in-Some.leaf c.loop-at-test.true
      c.in-Some.ensures.leaf.0 c.loop-at.best c.loop-at.invariant.0
      (sym c.is_better.ensures ∙ c.if-not-is_better.true),
  c.loop-at.invariant.1,
)

pub loop-at-preserved : goal.loop-at-preserved
loop-at-preserved c =
    let head = c.in-Some.ensures.leaf in (
      best_taken c.args.branches.now.list c.loop-at.at c.in-Some.leaf c.loop-at-test.true head.0
          c.loop-at.best c.loop-at.invariant.0 head.1 (sym c.is_better.ensures ∙ c.if-not-is_better.false),
      head.0,
    )
