use Rattle.std.proofs.Common.{◌≡◌, arith}
use Rattle.std.specs.Prelude.{None, Some, slice_get}
use Rattle.hub_revtree.specs.declared.heads.StoredEdit.{StoredEdit}
use Rattle.hub_revtree.proofs.HeadLemmas.{no_stem_long, no_stem_tip, numbered_path, stem_long, stem_tip}
use Rattle.hub_revtree.proofs.StemLooks.{read_stem, some_path}
use Rattle.hub_revtree.proofs.tree.RevTree.edit.Goals as goal
use Rattle.hub_revtree.proofs.tree.RevTree.edit.Goals.{In_ok-stem}

pub returns-in_err-stem-clause-tip : goal.returns-in_err-stem-clause-tip
returns-in_err-stem-clause-tip c =
    let past = rw c.as_slice.ensures.value at c.in_err-stem.ensures.lookup.3 in
    rw c.from_residual.ensures
    (no_stem_tip c.stems.result.now.items c.branches.result.now.list c.args.self.now.edits c.stems.ensures
    c.branches.ensures.edits c.args.at past)

pub returns-in_err-stem-clause-path : goal.returns-in_err-stem-clause-path
returns-in_err-stem-clause-path c =
    let past = rw c.as_slice.ensures.value at c.in_err-stem.ensures.lookup.3 in
    rw c.from_residual.ensures
    (numbered_path {A = StoredEdit} c.args.self.now.edits c.branches.ensures.tree (λ e. e.rev)
    (λ e. e.deleted) (λ e. e.body.now) (λ e. e.count) None c.args.at
    (no_stem_tip c.stems.result.now.items c.branches.result.now.list c.args.self.now.edits c.stems.ensures
    c.branches.ensures.edits c.args.at past)
    (no_stem_long c.stems.result.now.items c.branches.result.now.list c.args.self.now.edits c.stems.ensures
    c.branches.ensures.edits c.args.at past))

-- the stem of the number
stem_of : (c : In_ok-stem) → slice_get c.stems.result.now.items c.args.at ≡ Some c.in_ok-stem.stem.now
stem_of c =
    let found = rw c.as_slice.ensures.value at c.in_ok-stem.ensures.lookup.3 in
    read_stem c.stems.result.now.items c.args.at c.in_ok-stem.stem.now found.0 (found.1 c.in_ok-stem.stem.now)

pub returns-clause-tip : goal.returns-clause-tip
returns-clause-tip c =
    let there = stem_of (goal.at.returns-clause-tip c).In_ok-stem in
    stem_tip c.stems.result.now.items c.branches.result.now.list c.args.self.now.edits c.stems.ensures
    c.branches.ensures.edits c.args.at c.in_ok-stem.stem.now c.stored.result.rev c.stored.result.deleted
    c.stored.result.body.now there (rw c.stored.ensures.rev c.head.ensures) c.stored.ensures.deleted
    c.stored.ensures.body

pub returns-clause-path : goal.returns-clause-path
returns-clause-path c =
    let there = stem_of (goal.at.returns-clause-path c).In_ok-stem in
    numbered_path {A = StoredEdit} c.args.self.now.edits c.branches.ensures.tree (λ e. e.rev)
    (λ e. e.deleted) (λ e. e.body.now) (λ e. e.count) (Some c.stored.result) c.args.at
    (returns-clause-tip c)
    (stem_long c.stems.result.now.items c.branches.result.now.list c.args.self.now.edits c.stems.ensures
    c.branches.ensures.edits c.args.at c.in_ok-stem.stem.now c.stored.result.count there
    c.stored.ensures.count)

pub returns-clause-some : goal.returns-clause-some
returns-clause-some c =
    let stem = c.in_ok-stem.stem.now in
    let there = stem_of (goal.at.returns-clause-some c).In_ok-stem in
    omega (
      arith,
      c.stored.ensures.count,
      (c.stems.ensures.stems.counted c.args.at stem there).0,
      some_path stem.revisions (c.stems.ensures.stems.falling c.args.at stem there),
    )
