use Rattle.std.proofs.Common.{◌∙◌, refl, sym}
use Rattle.hub_revtree.proofs.AloneLemmas.{no_stem}
use Rattle.hub_revtree.proofs.MarkLemmas.{inner_at}
use Rattle.hub_revtree.proofs.StemLooks.{read_stem}
use Rattle.hub_revtree.proofs.branches.Branches.is_head_inner.Goals as goal

pub returns-in-Some : goal.returns-in-Some
returns-in-Some c =
    let stem = c.in-Some.stem.now in
    let found = rw c.as_slice.ensures.value at c.in-Some.ensures.lookup.3 in
    let there = read_stem c.self.inside.stems.items c.args.at stem found.0 (found.1 stem) in
    rw (sym c.self.view_is, c.is_inner.ensures, c.mark.ensures.inner)
    (λ w e. inner_at c.self.inside.stems.items c.self.invariant.0
    c.self.invariant.3 c.args.at stem w there e)

pub returns-in-None : goal.returns-in-None
returns-in-None c =
    let past = rw c.as_slice.ensures.value at c.in-None.ensures.lookup.3 in
    rw (sym c.self.view_is) (λ w e. absurd (
    let none =
    sym (no_stem c.self.inside.stems.items _ c.args.at refl past) ∙ e in cc
    ))
