use Rattle.std.proofs.Common.{◌∙◌, ap, sym}
use Rattle.std.specs.Prelude.{filter, nat_lt}
use Rattle.hub_revtree.proofs.BranchLemmas.{on_err}
use Rattle.hub_revtree.proofs.AncestorLemmas.{no_ancestors, some_ancestors, these_ancestors}
use Rattle.hub_revtree.proofs.tree.RevTree.possible_ancestors.Goals as goal

pub returns-then-not-has_leaf_below-clause-ok : goal.returns-then-not-has_leaf_below-clause-ok
returns-then-not-has_leaf_below-clause-ok c =
    c.new-then-not-has_leaf_below.ensures ∙ c.new.ensures.items
    ∙ sym (no_ancestors c.branches-branches.result.now.list
    c.args.self.now.edits c.branches-branches.ensures.edits c.args.revs.now c.highest_unnamed-newest.result
    c.highest_unnamed-newest.ensures c.has_leaf_below.result c.has_leaf_below.ensures
    c.if-not-has_leaf_below.true)

pub returns-in_err-leaves-clause-memory : goal.returns-in_err-leaves-clause-memory
returns-in_err-leaves-clause-memory c =
    on_err c.from_residual.result _
    (some_ancestors c.branches-branches.result.now.list
    c.args.self.now.edits c.branches-branches.ensures.edits c.args.revs.now c.highest_unnamed-newest.result
    c.highest_unnamed-newest.ensures c.has_leaf_below.result c.has_leaf_below.ensures
    c.if-not-has_leaf_below.false)

pub returns-in_err-found-clause-memory : goal.returns-in_err-found-clause-memory
returns-in_err-found-clause-memory c =
    on_err c.from_residual-in_err-found.result _
    (some_ancestors c.branches-branches.result.now.list
    c.args.self.now.edits c.branches-branches.ensures.edits c.args.revs.now c.highest_unnamed-newest.result
    c.highest_unnamed-newest.ensures c.has_leaf_below.result c.has_leaf_below.ensures
    c.if-not-has_leaf_below.false)

pub returns-clause-ok : goal.returns-clause-ok
returns-clause-ok c =
    c.new-2.ensures ∙ c.in_ok-found.ensures
    ∙ ap (filter (λ r. nat_lt r.generation c.highest_unnamed-newest.result))
    (c.as_slice.ensures ∙ c.in_ok-leaves.ensures.ok)
    ∙ these_ancestors c.branches-branches.result.now.list
    c.args.self.now.edits c.branches-branches.ensures.edits c.args.revs.now c.highest_unnamed-newest.result
    c.highest_unnamed-newest.ensures
