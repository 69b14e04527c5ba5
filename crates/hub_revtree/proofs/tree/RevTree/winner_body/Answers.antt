use Rattle.std.proofs.Common.{[], refl, sym, ◌∙◌}
use Rattle.hub_model.specs.Leaves.{leaves_of}
use Rattle.hub_revtree.specs.Branch.{edits_in}
use Rattle.hub_revtree.proofs.AloneLemmas.{head_body, no_doc, no_stem, winner_doc}
use Rattle.hub_revtree.proofs.StemLooks.{read_stem}
use Rattle.hub_revtree.proofs.TreeLemmas.{rev_tree}
use Rattle.hub_revtree.proofs.tree.RevTree.winner_body.Goals as goal

pub returns-in_err-stem : goal.returns-in_err-stem
returns-in_err-stem c =
    let past = rw c.as_slice.ensures.value at c.in_err-stem.ensures.lookup.3 in
    rw (c.from_residual.ensures, sym c.self.view_is)
    (sym (no_doc (leaves_of (edits_in c.self.inside.branches.list) [])
    (sym c.self.invariant.first
    ∙ no_stem c.stems.result.now.items c.self.inside.branches.list c.self.inside.best
    c.stems.ensures.shown past)))

pub returns : goal.returns
returns c =
    let stem = c.in_ok-stem.stem.now in
    let found = rw c.as_slice.ensures.value at c.in_ok-stem.ensures.lookup.3 in
    let there = read_stem c.stems.result.now.items c.self.inside.best stem found.0 (found.1 stem) in
    rw (sym c.self.view_is)
    (winner_doc c.self.inside.branches.list (edits_in c.self.inside.branches.list) refl
    (rev_tree _ c.self.invariant.legal) _ c.self.invariant.first c.body.result.now
    (rw c.stems.ensures.shown
    at (head_body c.stems.result.now.items c.stems.ensures.stems c.self.inside.best stem there
    c.body.result.now c.body.ensures)))
