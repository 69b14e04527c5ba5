use Rattle.std.proofs.Common.{ℕ, List, Option, length, ◌∙◌, sym, ap}
use Rattle.hub_index.specs.Pages.{page_count}
use Rattle.hub_index.proofs.PageLemmas.{pages_counted}
use Rattle.hub_index.proofs.page_index.PageIndex.pages.Goals as goal

pub returns : goal.returns
returns c =
    ap (λ (pages : List (ℕ × List (Option ℕ))). length pages) c.as_slice.ensures.value
    ∙ (sym (pages_counted c.self.inside.pages.items c.self.invariant.rising c.self.invariant.each)
    ∙ ap page_count c.self.view_is)
