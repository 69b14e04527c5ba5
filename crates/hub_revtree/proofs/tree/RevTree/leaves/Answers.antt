use Rattle.std.proofs.Common.{◌∙◌, ap, sym, []}
use Rattle.std.specs.Prelude.{map}
use Rattle.hub_model.specs.Leaves.{leaves_of, revisions_of}
use Rattle.hub_revtree.proofs.LeafLemmas.{revs_of}
use Rattle.hub_revtree.proofs.TreeLemmas.{sorted_by}
use Rattle.hub_revtree.proofs.tree.RevTree.leaves.Goals as goal

pub returns-then-is_empty-clause-ok : goal.returns-then-is_empty-clause-ok
returns-then-is_empty-clause-ok c =
    c.new-then-is_empty.ensures
    ∙ c.new.ensures.items
    ∙ ap (λ es. revisions_of (leaves_of es [])) (sym (c.is_empty.ensures.0 c.if-is_empty.true))

pub returns-clause-ok : goal.returns-clause-ok
returns-clause-ok c =
    c.new-2.ensures
    ∙ c.in_ok-revs.ensures
    ∙ ap (map (λ w. w.rev)) (c.as_slice.ensures.value ∙ c.in_ok-leaves.ensures)
    ∙ revs_of _
    ∙ ap revisions_of (sorted_by c.branches.result.now.list c.args.self.now.edits c.branches.ensures.edits)
