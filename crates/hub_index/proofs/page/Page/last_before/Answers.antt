use Rattle.std.proofs.Common.{◌+◌, ◌*◌, ◌<◌, ◌∙◌, arith}
use Rattle.hub_index.proofs.SlotLemmas.{nothing_below, found_below, fits_below}
use Rattle.hub_index.proofs.page.Page.last_before.Goals as goal

pub returns-in_err-at : goal.returns-in_err-at
returns-in_err-at c =
    rw (← c.self.view_is)
    (c.from_residual.ensures
    ∙ nothing_below (256 * c.self.inside.number) c.args.place c.saturating_sub-end.result
    c.self.inside.slots.items c.as_slice.result.now c.as_slice.ensures.value c.saturating_sub-end.ensures
    c.in_err-at.ensures)

-- the found row lies below the place
fits : (c : goal.In_ok-at) → 256 * c.self.inside.number + (c.in_ok-at.at + 1) < c.args.place
fits c =
    fits_below (256 * c.self.inside.number) c.args.place c.saturating_sub-end.result c.self.inside.slots.items
    c.as_slice.result.now c.as_slice.ensures.value c.saturating_sub-end.ensures
    c.in_ok-at.at c.in_ok-at.document c.in_ok-at.ensures

pub overflow_add-result : goal.overflow_add-result
overflow_add-result c = omega (arith, c.ranges.place, fits c)

pub overflow_add-result-2 : goal.overflow_add-result-2
overflow_add-result-2 c = omega (arith, c.ranges.place, fits c)

pub returns : goal.returns
returns c =
    rw (← c.self.view_is)
    (found_below (256 * c.self.inside.number) c.args.place c.saturating_sub-end.result c.self.inside.slots.items
    c.as_slice.result.now c.as_slice.ensures.value c.saturating_sub-end.ensures
    c.in_ok-at.at c.in_ok-at.document c.in_ok-at.ensures)
