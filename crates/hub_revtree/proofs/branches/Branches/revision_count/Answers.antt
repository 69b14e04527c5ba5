use Rattle.std.proofs.Common.{◌-◌, ◌^◌, sym, arith}
use Rattle.hub_revtree.proofs.CountLemmas.{saturated_all, saturated_more}
use Rattle.hub_revtree.proofs.RunLemmas.{get_some}
use Rattle.hub_revtree.proofs.branches.Branches.revision_count.Goals as goal

pub loop-number-preserved : goal.loop-number-preserved
loop-number-preserved c =
    let xs = c.as_slice-stems.result.now in
    let i = get_some xs c.loop-number.number (omega (arith, c.loop-number-test.true)) in
    saturated_more xs c.loop-number.number i.0
    c.loop-number.count c.new_in.result c.saturating_add-count.result (2 ^ 64 - 1) i.1 c.loop-number.invariant
    (c.new_in.ensures i.0 i.1) c.saturating_add-count.ensures

pub returns : goal.returns
returns c =
    let xs = c.self.inside.stems.items in
    rw (sym c.self.view_is)
    (saturated_all xs c.loop-number.number c.loop-number.count (2 ^ 64 - 1) c.self.invariant.0
    (rw c.as_slice-stems.ensures.value at c.loop-number-test.false)
    (rw c.as_slice-stems.ensures.value at c.loop-number.invariant))
