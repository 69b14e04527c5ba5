use Rattle.std.proofs.Common.{◌∙◌, ap, sym}
use Rattle.std.specs.Prelude.{not}
use Rattle.hub_revtree.proofs.MarkLemmas.{found_leaf, found_none}
use Rattle.hub_revtree.proofs.branches.Branches.is_leaf.Goals as goal

pub returns-in-Some : goal.returns-in-Some
returns-in-Some c =
    rw (sym c.self.view_is)
    (ap not (c.is_inner.ensures ∙ c.mark.ensures.inner)
    ∙ found_leaf c.self.inside.stems.items c.self.invariant.0 c.self.invariant.3 c.args.rev.now
    c.in-Some.stem.now (rw c.as_slice.ensures.value at c.in-Some.ensures))

pub returns-in-None : goal.returns-in-None
returns-in-None c =
    rw (sym c.self.view_is)
    (found_none c.self.inside.stems.items c.self.invariant.0 c.self.invariant.3 c.args.rev.now
    (rw c.as_slice.ensures.value at c.in-None.ensures))
