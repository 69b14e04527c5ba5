use Rattle.std.proofs.Common.{◌∙◌, ◌++◌, ◌∷◌, [], take_all, ap, sym}
use Rattle.hub_revtree.specs.Branch.{unnamed_in}
use Rattle.hub_revtree.proofs.BranchLemmas.{on_err, one_named, one_unnamed, some_unnamed}
use Rattle.hub_revtree.proofs.branches.unnamed.Goals as goal

pub loop-rev-preserved-then-is_named : goal.loop-rev-preserved-then-is_named
loop-rev-preserved-then-is_named c =
    c.loop-rev.invariant
    ∙ sym (one_named c.args.branches.now.list c.args.revs.now c.loop-rev.rev-index c.rev-item.result
    c.loop-rev-test.true c.rev-item.is (sym c.is_named.ensures ∙ c.if-is_named.true))

pub returns-in_err-push-clause-memory : goal.returns-in_err-push-clause-memory
returns-in_err-push-clause-memory c =
    on_err c.from_residual.result _
    (some_unnamed c.args.branches.now.list c.args.revs.now c.loop-rev.rev-index c.rev-item.result
    c.loop-rev-test.true c.rev-item.is (sym c.is_named.ensures ∙ c.if-is_named.false))

pub loop-rev-preserved : goal.loop-rev-preserved
loop-rev-preserved c =
    c.in_ok-push.ensures.items
    ∙ (ap (λ revs. revs ++ c.rev-item.result ∷ []) c.loop-rev.invariant
    ∙ sym (one_unnamed c.args.branches.now.list c.args.revs.now c.loop-rev.rev-index c.rev-item.result
    c.loop-rev-test.true c.rev-item.is (sym c.is_named.ensures ∙ c.if-is_named.false)))

pub returns-clause-ok : goal.returns-clause-ok
returns-clause-ok c =
    c.loop-rev.invariant
    ∙ ap (unnamed_in c.args.branches.now.list) (take_all c.loop-rev.rev-index c.args.revs.now
    c.loop-rev-test.false)
