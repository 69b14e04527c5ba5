use Rattle.std.proofs.Common.{◌∙◌, reverse, sym, ap, arith}
use Rattle.std.proofs.lemmas.List.{drop_all}
use Rattle.hub_revtree.proofs.LeafLemmas.{found_of, found_behind, found_taken}
use Rattle.hub_revtree.proofs.leaf.best_leaves.Goals as goal

pub loop-at-preserved-in_default : goal.loop-at-preserved-in_default
loop-at-preserved-in_default c =
    let inner = c.in_default.ensures.inner in
    found_behind c.args.branches.now.list c.loop-at.at inner.0 c.loop-at-test.true inner.1.0
    c.loop-at.leaves.items c.loop-at.invariant inner.1.1

pub loop-at-preserved : goal.loop-at-preserved
loop-at-preserved c =
    let head = c.in-Some.ensures.leaf in
    c.in_ok-push.ensures.items
    ∙ found_taken c.args.branches.now.list c.loop-at.at c.in-Some.leaf c.loop-at-test.true head.0
    c.loop-at.leaves.items c.loop-at.invariant head.1

pub loop-at-init : goal.loop-at-init
loop-at-init c =
    c.new-leaves.ensures.items
    ∙ sym (ap (λ some. reverse (found_of c.args.branches.now.list some))
    (drop_all c.len-at.result c.args.branches.now.list (omega (arith, c.len-at.ensures.length))))
