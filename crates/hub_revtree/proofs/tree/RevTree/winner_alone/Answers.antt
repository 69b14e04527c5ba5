use Rattle.std.proofs.Common.{◌∙◌, [], sym}
use Rattle.hub_model.specs.Leaves.{leaves_of}
use Rattle.hub_revtree.specs.Branch.{edits_in}
use Rattle.hub_revtree.proofs.AloneLemmas.{alone_of, head_alone, head_other, no_stem, no_winner}
use Rattle.hub_revtree.proofs.AloneLemmas.{ok_of, refused_for, winner_other}
use Rattle.hub_revtree.proofs.StemLooks.{read_stem}
use Rattle.hub_revtree.proofs.tree.RevTree.winner_alone.Goals as goal

pub returns-in-Some-clause-ok : goal.returns-in-Some-clause-ok
returns-in-Some-clause-ok c =
    let stem = c.in-Some.stem.now in
    let found = rw c.as_slice.ensures.value at c.in-Some.ensures.lookup.3 in
    let there = read_stem c.stems.result.now.items c.self.inside.best stem found.0 (found.1 stem) in
    ok_of c.newest.result _ _ c.newest.ensures.ok
    (λ changes is. rw (sym c.self.view_is)
    (alone_of _ changes
    (rw (c.stems.ensures.shown, c.self.invariant.first)
    at (head_alone c.stems.result.now.items c.stems.ensures.stems c.self.inside.best stem there changes
    (rw c.run.ensures at is)))))

pub returns-in-Some-clause-memory : goal.returns-in-Some-clause-memory
returns-in-Some-clause-memory c =
    let stem = c.in-Some.stem.now in
    let found = rw c.as_slice.ensures.value at c.in-Some.ensures.lookup.3 in
    let there = read_stem c.stems.result.now.items c.self.inside.best stem found.0 (found.1 stem) in
    refused_for c.newest.result c.newest.ensures.memory
    (λ other. rw (sym c.self.view_is)
    (winner_other _
    (rw (c.stems.ensures.shown, c.self.invariant.first)
    at (head_other c.stems.result.now.items c.stems.ensures.stems c.self.inside.best stem there
    (rw c.run.ensures at other)))))

pub returns-in-None-clause-ok : goal.returns-in-None-clause-ok
returns-in-None-clause-ok c =
    let past = rw c.as_slice.ensures.value at c.in-None.ensures.lookup.3 in
    rw (sym c.self.view_is)
    (c.new-in-None-2.ensures
    ∙ c.new-in-None.ensures
    ∙ c.new.ensures.items
    ∙ sym (no_winner (leaves_of (edits_in c.self.inside.branches.list) [])
    (sym c.self.invariant.first
    ∙ no_stem c.stems.result.now.items c.self.inside.branches.list c.self.inside.best
    c.stems.ensures.shown past)).0)
