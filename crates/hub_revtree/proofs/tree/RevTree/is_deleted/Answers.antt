use Rattle.std.proofs.Common.{[], sym, ◌∙◌}
use Rattle.hub_model.specs.Leaves.{leaves_of}
use Rattle.hub_revtree.specs.Branch.{edits_in}
use Rattle.hub_revtree.proofs.AloneLemmas.{head_mark, mark_of, no_stem, no_winner}
use Rattle.hub_revtree.proofs.StemLooks.{read_stem}
use Rattle.hub_revtree.proofs.TreeLemmas.{rev_tree}
use Rattle.hub_revtree.proofs.tree.RevTree.is_deleted.Goals as goal

pub returns-in-Some-clause-tree : goal.returns-in-Some-clause-tree
returns-in-Some-clause-tree c = rw (sym c.self.view_is) (rev_tree _ c.self.invariant.legal)

pub returns-in-Some-clause-mark : goal.returns-in-Some-clause-mark
returns-in-Some-clause-mark c =
    let stem = c.in-Some.stem.now in
    let found = rw c.as_slice.ensures.value at c.in-Some.ensures.lookup.3 in
    let there = read_stem c.stems.result.now.items c.self.inside.best stem found.0 (found.1 stem) in
    rw (sym c.self.view_is)
    (mark_of _ c.deleted.result
    (rw (c.stems.ensures.shown, c.self.invariant.first)
    at (head_mark c.stems.result.now.items c.stems.ensures.stems c.self.inside.best stem there
    c.deleted.result (c.deleted.ensures ∙ c.mark.ensures.deletes))))

pub returns-in-None-clause-tree : goal.returns-in-None-clause-tree
returns-in-None-clause-tree c = rw (sym c.self.view_is) (rev_tree _ c.self.invariant.legal)

pub returns-in-None-clause-mark : goal.returns-in-None-clause-mark
returns-in-None-clause-mark c =
    let past = rw c.as_slice.ensures.value at c.in-None.ensures.lookup.3 in
    rw (sym c.self.view_is)
    (sym (no_winner (leaves_of (edits_in c.self.inside.branches.list) [])
    (sym c.self.invariant.first
    ∙ no_stem c.stems.result.now.items c.self.inside.branches.list c.self.inside.best
    c.stems.ensures.shown past)).1)
