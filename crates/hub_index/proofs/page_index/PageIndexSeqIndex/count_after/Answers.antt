use Rattle.std.proofs.Common.{◌≡◌, ℕ, ◌+◌, List, ◌∷◌, Option, drop, count_by, nat_lt, ◌∙◌, sym, ap, arith}
use Rattle.std.proofs.lemmas.List.{drop_more, drop_all}
use Rattle.std.proofs.lemmas.List.Sums.{count_by-le-length}
use Rattle.hub_index.specs.Pages.{rows_of, page_rows}
use Rattle.hub_index.proofs.PageLemmas.{from_page, count_same, counted_first, few_rows}
use Rattle.hub_index.proofs.page_index.PageIndexSeqIndex.count_after.Goals as goal

pub place_of-at-requires : goal.place_of-at-requires
place_of-at-requires c = rw c.as_slice-pages.ensures.value c.self.invariant.rising

-- the count of the rows above a place
abbrev above : ℕ → List (ℕ × ℕ) → ℕ
above place rows = count_by (λ (row : ℕ × ℕ). nat_lt place row.0) rows

pub loop-at-init : goal.loop-at-init
loop-at-init c =
    let pages = c.as_slice-pages.result.now in
    let at = c.place_of-at.result in
    let same =
    count_same (λ (row : ℕ × ℕ). nat_lt c.args.place row.0) (rows_of pages) (rows_of (drop at pages))
    (from_page c.args.place at pages (rw c.as_slice-pages.ensures.value c.self.invariant.each)
    c.place_of-at.ensures.within c.place_of-at.ensures.parted.0) in
    let total : 0 + above c.args.place (rows_of (drop at pages)) ≡ above c.args.place (rows_of pages) =
    omega (arith, same) in
    total

-- the count with this page, and the count of the pages that are left
counted : (c : goal.After-count_after-count)
    → (c.loop-at.count + c.count_after-count.result)
    + above c.args.place (rows_of (drop (c.loop-at.at + 1) c.as_slice-pages.result.now))
    ≡ above c.args.place (rows_of c.as_slice-pages.result.now)
counted c =
    let pages = c.as_slice-pages.result.now in
    let at = c.loop-at.at in
    let x : ℕ × List (Option ℕ) = c.index-pages-at.result in
    let before : c.loop-at.count + above c.args.place (rows_of (drop at pages))
    ≡ above c.args.place (rows_of pages) = c.loop-at.invariant in
    let here : c.count_after-count.result ≡ above c.args.place (page_rows x) = c.count_after-count.ensures in
    let cut : above c.args.place (rows_of (drop at pages))
    ≡ above c.args.place (page_rows x) + above c.args.place (rows_of (drop (at + 1) pages)) =
    ap (λ pages. above c.args.place (rows_of pages))
    (drop_more pages at x c.loop-at-test.true ∙ ap (λ y. y ∷ drop (at + 1) pages) (sym c.index-pages-at.is))
    ∙ counted_first (λ (row : ℕ × ℕ). nat_lt c.args.place row.0) x (drop (at + 1) pages)
    in
    omega (arith, before, here, cut)

pub overflow_add-count : goal.overflow_add-count
overflow_add-count c =
    omega (
      arith,
      counted c,
      few_rows c.as_slice-pages.result.now (rw c.as_slice-pages.ensures.value c.self.invariant),
      count_by-le-length (λ (row : ℕ × ℕ). nat_lt c.args.place row.0) (rows_of c.as_slice-pages.result.now),
    )

pub loop-at-preserved : goal.loop-at-preserved
loop-at-preserved c = counted c

pub returns-clause-count : goal.returns-clause-count
returns-clause-count c =
    let pages = c.as_slice-pages.result.now in
    let before : c.loop-at.count + above c.args.place (rows_of (drop c.loop-at.at pages))
    ≡ above c.args.place (rows_of pages) = c.loop-at.invariant in
    let none =
    ap (λ pages. above c.args.place (rows_of pages)) (drop_all c.loop-at.at pages c.loop-at-test.false) in
    let all = ap (above c.args.place) (ap rows_of c.as_slice-pages.ensures.value ∙ c.self.view_is) in
    omega (arith, before, none, all)
