use Rattle.std.proofs.Common.{ℕ, List, Option, ◌+◌, ◌*◌, ◌^◌, ◌<◌, ◌∙◌, arith, sym, subst}
use Rattle.std.specs.List.{All}
use Rattle.hub_index.specs.Pages.{page_rows}
use Rattle.hub_index.proofs.SlotLemmas.{nothing_from, found_from, fits_from}
use Rattle.hub_index.proofs.page.Page.next_after.Goals as goal

pub returns-in_err-at : goal.returns-in_err-at
returns-in_err-at c =
    rw (← c.self.view_is)
    (c.from_residual.ensures
    ∙ nothing_from (256 * c.self.inside.number) c.args.place c.saturating_sub-from.result
    c.self.inside.slots.items
    c.as_slice.result.now c.as_slice.ensures.value c.saturating_sub-from.ensures c.in_err-at.ensures)

-- the found row lies at a number of 64 bits
fits : (c : goal.In_ok-at) → 256 * c.self.inside.number + (c.in_ok-at.at + 1) < 2 ^ 64
fits c =
    fits_from (256 * c.self.inside.number) c.args.place c.saturating_sub-from.result c.self.inside.slots.items
    c.as_slice.result.now c.as_slice.ensures.value c.saturating_sub-from.ensures
    c.in_ok-at.at c.in_ok-at.document (2 ^ 64)
    (subst (λ (page : ℕ × List (Option ℕ)). All (λ (row : ℕ × ℕ). row.0 < 2 ^ 64) (page_rows page))
    (sym c.self.view_is) c.requires) c.in_ok-at.ensures

pub overflow_add-result : goal.overflow_add-result
overflow_add-result c = omega (arith, fits c)

pub overflow_add-result-2 : goal.overflow_add-result-2
overflow_add-result-2 c = omega (arith, fits c)

pub returns : goal.returns
returns c =
    rw (← c.self.view_is)
    (found_from (256 * c.self.inside.number) c.args.place c.saturating_sub-from.result c.self.inside.slots.items
    c.as_slice.result.now c.as_slice.ensures.value c.saturating_sub-from.ensures
    c.in_ok-at.at c.in_ok-at.document c.in_ok-at.ensures)
