use Rattle.std.proofs.Common.{ℕ, ◌+◌, List, Option, drop, find, nat_lt, ◌∙◌, sym, ap, ◌∷◌}
use Rattle.std.proofs.lemmas.List.{drop_more}
use Rattle.hub_index.specs.Pages.{rows_of}
use Rattle.hub_index.proofs.PageLemmas.{from_page, find_same, found_first, found_later}
use Rattle.hub_index.proofs.page_index.row_after.Goals as goal

pub loop-at-init : goal.loop-at-init
loop-at-init c =
    find_same (λ (row : ℕ × ℕ). nat_lt c.args.place row.0) (rows_of c.args.pages.now)
    (rows_of (drop c.place_of-at.result c.args.pages.now))
    (from_page c.args.place c.place_of-at.result c.args.pages.now c.requires.each
    c.place_of-at.ensures.within c.place_of-at.ensures.parted.0)

pub returns-in-Some : goal.returns-in-Some
returns-in-Some c =
    let x : ℕ × List (Option ℕ) = c.index-pages-at.result in
    sym
    (c.loop-at.invariant
    ∙ (ap (λ pages. find (λ (row : ℕ × ℕ). nat_lt c.args.place row.0) (rows_of pages))
    (drop_more c.args.pages.now c.loop-at.at x c.loop-at-test.true
    ∙ ap (λ y. y ∷ drop (c.loop-at.at + 1) c.args.pages.now) (sym c.index-pages-at.is))
    ∙ found_first (λ (row : ℕ × ℕ). nat_lt c.args.place row.0) x
    (drop (c.loop-at.at + 1) c.args.pages.now) c.in-Some.row c.in-Some.ensures))

pub loop-at-preserved : goal.loop-at-preserved
loop-at-preserved c =
    let x : ℕ × List (Option ℕ) = c.index-pages-at.result in
    c.loop-at.invariant
    ∙ (ap (λ pages. find (λ (row : ℕ × ℕ). nat_lt c.args.place row.0) (rows_of pages))
    (drop_more c.args.pages.now c.loop-at.at x c.loop-at-test.true
    ∙ ap (λ y. y ∷ drop (c.loop-at.at + 1) c.args.pages.now) (sym c.index-pages-at.is))
    ∙ found_later (λ (row : ℕ × ℕ). nat_lt c.args.place row.0) x
    (drop (c.loop-at.at + 1) c.args.pages.now) c.in_default.ensures)
