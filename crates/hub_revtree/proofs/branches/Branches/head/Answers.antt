use Rattle.std.proofs.Common.{sym, arith}
use Rattle.hub_revtree.proofs.StemLooks.{head_at, listed_stem, low_stem}
use Rattle.hub_revtree.proofs.branches.Branches.head.Goals as goal

pub index-stem-requires : goal.index-stem-requires
index-stem-requires c =
    let low = low_stem c.self.inside.stems.items _ c.args.self.now c.args.at c.self.view_is c.requires in
    omega (arith, low, c.self.inside.stems.ok.0)

pub returns : goal.returns
returns c =
    rw (sym c.self.view_is, c.deleted.ensures, c.mark.ensures.deletes)
    (head_at c.self.inside.stems.items c.self.invariant.0
    c.args.at c.index-stem.result.now c.head.result
    (listed_stem c.self.inside.stems.items _ c.args.self.now c.args.at c.index-stem.result.now c.self.view_is
    c.requires c.index-stem.ensures)
    c.head.ensures)
