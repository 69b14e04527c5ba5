use Rattle.std.proofs.Common.{◌≡◌, ℕ, ◌-◌, ◌<◌, ◌≤◌, List, [], ◌∷◌, ◌++◌, Option, length}
use Rattle.std.proofs.Common.{get_or, take, find, reverse, nat_lt, ◌∙◌, sym, ap, arith}
use Rattle.std.proofs.lemmas.List.{take_more}
use Rattle.hub_index.specs.Pages.{rows_of}
use Rattle.hub_index.proofs.PageLemmas.{upto_page, find_reverse_same, found_last, found_before}
use Rattle.hub_index.proofs.page_index.PageIndexSeqIndex.last_before.Goals as goal

pub place_of-at-requires : goal.place_of-at-requires
place_of-at-requires c = rw c.as_slice-pages.ensures.value c.self.invariant.rising

pub loop-at-init : goal.loop-at-init
loop-at-init c = record {
  within = c.place_of-at.ensures.within;
  rest =
      find_reverse_same (λ (row : ℕ × ℕ). nat_lt row.0 c.args.place) (rows_of c.as_slice-pages.result.now)
      (rows_of (take c.place_of-at.result c.as_slice-pages.result.now))
      (upto_page c.args.place c.place_of-at.result c.as_slice-pages.result.now
      (rw c.as_slice-pages.ensures.value c.self.invariant.each)
      c.place_of-at.ensures.within c.place_of-at.ensures.parted.1);
}

-- the last row of the pages before a place, where page `at - 1` is the last of them
last_page : (pages : List (ℕ × List (Option ℕ))) (at place : ℕ) (x : ℕ × List (Option ℕ)) → 0 < at
    → at ≤ length pages → x ≡ get_or pages (at - 1) x
    → find (λ row. nat_lt row.0 place) (reverse (rows_of (take at pages)))
    ≡ find (λ row. nat_lt row.0 place) (reverse (rows_of (take (at - 1) pages ++ x ∷ [])))
last_page pages at place x some l is =
    ap (λ ps. find (λ row. nat_lt row.0 place) (reverse (rows_of ps)))
    (ap (λ n. take n pages) (omega arith)
    ∙ (take_more pages (at - 1) x (omega arith) ∙ ap (λ y. take (at - 1) pages ++ y ∷ []) (sym is)))

pub returns-in-Some-clause-last : goal.returns-in-Some-clause-last
returns-in-Some-clause-last c =
    let pages = c.as_slice-pages.result.now in
    let at = c.loop-at.at in
    let x : ℕ × List (Option ℕ) = c.index-pages-at.result in
    sym
    (c.loop-at.invariant.rest
    ∙ (last_page pages at c.args.place x (omega arith) c.loop-at.invariant.within c.index-pages-at.is
    ∙ found_last (λ row. nat_lt row.0 c.args.place) x (take (at - 1) pages) c.in-Some.row c.in-Some.ensures))
    ∙ ap (λ rows. find (λ (row : ℕ × ℕ). nat_lt row.0 c.args.place) (reverse rows))
    (ap rows_of c.as_slice-pages.ensures.value ∙ c.self.view_is)

pub loop-at-preserved : goal.loop-at-preserved
loop-at-preserved c =
    let pages = c.as_slice-pages.result.now in
    let at = c.loop-at.at in
    let x : ℕ × List (Option ℕ) = c.index-pages-at.result in
    record {
      within = omega arith;
      rest =
          c.loop-at.invariant.rest
          ∙ (last_page pages at c.args.place x (omega arith) c.loop-at.invariant.within c.index-pages-at.is
          ∙ found_before (λ row. nat_lt row.0 c.args.place) x (take (at - 1) pages) c.in_default.ensures);
    }

pub returns-clause-last : goal.returns-clause-last
returns-clause-last c =
    let none : c.loop-at.at ≡ 0 = omega arith in
    sym (c.loop-at.invariant.rest
    ∙ ap (λ n. find (λ (row : ℕ × ℕ). nat_lt row.0 c.args.place)
    (reverse (rows_of (take n c.as_slice-pages.result.now))))
    none)
    ∙ ap (λ rows. find (λ (row : ℕ × ℕ). nat_lt row.0 c.args.place) (reverse rows))
    (ap rows_of c.as_slice-pages.ensures.value ∙ c.self.view_is)
