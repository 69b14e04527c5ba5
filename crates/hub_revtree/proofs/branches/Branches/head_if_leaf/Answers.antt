use Rattle.std.proofs.Common.{◌∙◌, sym, arith}
use Rattle.hub_revtree.proofs.MarkLemmas.{inner_at, inner_head}
use Rattle.hub_revtree.proofs.StemLooks.{listed_stem, low_stem}
use Rattle.hub_revtree.proofs.branches.Branches.head_if_leaf.Goals as goal

pub index-requires : goal.index-requires
index-requires c =
    let low = low_stem c.self.inside.stems.items _ c.args.self.now c.args.at c.self.view_is c.requires in
    omega (arith, low, c.self.inside.stems.ok.0)

pub returns-then-is_inner-clause-inner : goal.returns-then-is_inner-clause-inner
returns-then-is_inner-clause-inner c =
    let there =
    listed_stem c.self.inside.stems.items _ c.args.self.now c.args.at c.index.result.now c.self.view_is
    c.requires c.index.ensures in
    let inner = rw (c.is_inner.ensures, c.mark.ensures.inner) at c.if-is_inner.true in
    rw (sym c.self.view_is)
    (inner_head c.self.inside.stems.items c.self.invariant.0
    c.self.invariant.3 c.args.at c.index.result.now there inner)

pub returns-clause-leaf : goal.returns-clause-leaf
returns-clause-leaf c =
    let there =
    listed_stem c.self.inside.stems.items _ c.args.self.now c.args.at c.index.result.now c.self.view_is
    c.requires c.index.ensures in
    let leaf = rw (c.is_inner.ensures, c.mark.ensures.inner) at c.if-is_inner.false in
    let head = rw (sym c.self.view_is) at c.head.ensures in (
      c.head.ensures,
      rw (sym c.self.view_is)
          (sym (inner_at c.self.inside.stems.items c.self.invariant.0
          c.self.invariant.3 c.args.at c.index.result.now c.head.result there head) ∙ leaf),
    )
