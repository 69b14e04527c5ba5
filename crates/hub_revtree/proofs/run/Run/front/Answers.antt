use Rattle.std.proofs.Common.{◌∙◌, subst, sym, arith}
use Rattle.hub_model.specs.Path.{IsPath}
use Rattle.hub_revtree.proofs.BringLemmas.{take_falls}
use Rattle.hub_revtree.proofs.RunLemmas.{digests_kept}
use Rattle.hub_revtree.proofs.run.Run.front.Goals as goal

pub from_digests-requires : goal.from_digests-requires
from_digests-requires c =
    subst IsPath
    (sym (digests_kept c.args.revisions.now c.index-revisions-0.result c.generation-in-Some-2.result
    c.in-Some-2.digests.items c.args.count c.requires.path c.index-revisions-0.is
    c.generation-in-Some-2.ensures.value (rw c.in-Some-2.is at c.in_ok-digests.ensures)))
    (take_falls c.args.count c.args.revisions.now (λ z. omega (arith, z, c.requires.within.0))
    c.requires.path)

pub whole-requires : goal.whole-requires
whole-requires c =
    subst IsPath (sym c.in_ok-from_slice-in-None.ensures.items)
    (take_falls c.args.count c.args.revisions.now (λ z. omega (arith, z, c.requires.within.0))
    c.requires.path)

pub returns-in-Some-2 : goal.returns-in-Some-2
returns-in-Some-2 c =
    c.from_digests.ensures
    ∙ digests_kept c.args.revisions.now c.index-revisions-0.result c.generation-in-Some-2.result
    c.in-Some-2.digests.items c.args.count c.requires.path c.index-revisions-0.is
    c.generation-in-Some-2.ensures.value (rw c.in-Some-2.is at c.in_ok-digests.ensures)
