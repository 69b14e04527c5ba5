use Rattle.std.proofs.Common.{◌≡◌, ℕ, ◌+◌, ◌*◌, ◌<◌, ◌≤◌, List, Option, None, set}
use Rattle.std.proofs.Common.{length, ◌∙◌, ap, subst, sym, arith, count_by, is_some}
use Rattle.std.specs.List.{All, AllPairs}
use Rattle.std.specs.List.Sorted.{IsPartitionPoint}
use Rattle.std.proofs.lemmas.List.{get_or_default}
use Rattle.std.proofs.lemmas.List.Elements.{All-set}
use Rattle.std.proofs.lemmas.List.Quantifiers.{all_pairs_remove}
use Rattle.hub_index.specs.Pages.{IsPage, rows_of}
use Rattle.hub_index.proofs.PageLemmas.{same_number, remove_set, none_there, pages_missed}
use Rattle.hub_index.proofs.PageLemmas.{behind, row_behind}
use Rattle.hub_index.proofs.PageLemmas.{pages_cleared, rows_dropped, dropped_is, cleared_is, is_page}
use Rattle.hub_index.proofs.page_index.remove_row.Goals as goal
use Rattle.hub_index.proofs.page_index.remove_row.Goals.{then-at-len-via-then-at-len}
use Rattle.hub_index.proofs.page_index.remove_row.Goals.{then-at-len-via-else-at-len+then-number}
use Rattle.hub_index.proofs.page_index.remove_row.Goals.{After-live}

pub returns-then-at-len-clause-rows : goal.returns-then-at-len-clause-rows
returns-then-at-len-clause-rows c =
    let es : List (ℕ × List (Option ℕ)) = c.args.pages.now.items in
    let k = c.slot_of-number.result.0 in
    let at = c.place_of-at.result in
    let parted : IsPartitionPoint (λ (e : ℕ × List (Option ℕ)). e.0 < k)
    (λ (e : ℕ × List (Option ℕ)). k ≤ e.0) es at =
    subst (λ (pages : List (ℕ × List (Option ℕ))).
    IsPartitionPoint (λ (e : ℕ × List (Option ℕ)). e.0 < k) (λ (e : ℕ × List (Option ℕ)). k ≤ e.0) pages at)
    c.as_slice.ensures.value c.place_of-at.ensures.parted
    in
    pages_missed k c.slot_of-number.result.1 (behind c.args.seq) c.slot_of-number.ensures.slot
    (omega (arith, c.slot_of-number.ensures.before)) es c.requires.pages
    (none_there es k at c.requires.rising parted (λ d l q. elim c.then-at-len.branch [
      | then-at-len-via-then-at-len w ↦ omega (arith, l, w.if-at-len.true, c.len.ensures)
      | then-at-len-via-else-at-len+then-number w ↦
          w.if-number.true
          (w.number.ensures
          ∙ ap (λ (e : ℕ × List (Option ℕ)). e.0)
          (w.index.ensures ∙ get_or_default es at w.index.result.now d l)
          ∙ q)
    ]))
    ∙ row_behind c.args.seq c.ranges.seq.fits es c.requires.pages

-- the page is there
low : (c : After-live) → c.place_of-at.result < length c.args.pages.now.items
low c = omega (arith, c.place_of-at.ensures.within, c.as_slice.ensures.len, c.if-at-len.false, c.len.ensures)

-- the sequence of the slot, on the page that was read twice
place : (c : After-live)
    → 256 * c.index_mut-page.result.now.0 + c.slot_of-number.result.1 + 1 ≡ behind c.args.seq
place c =
    let number =
    same_number c.args.pages.now.items c.place_of-at.result c.slot_of-number.result.0
    c.index_mut-page.result.now c.index.result.now (low c) c.index_mut-page.ensures.value
    c.index.ensures (sym c.number.ensures ∙ c.if-number.false) in
    omega (arith, number, c.slot_of-number.ensures.before)

pub returns-then-live-eq0 : goal.returns-then-live-eq0
returns-then-live-eq0 c =
    let es : List (ℕ × List (Option ℕ)) = c.args.pages.now.items in
    let at = c.place_of-at.result in
    let x : ℕ × List (Option ℕ) = c.index_mut-page.result.now in
    let i = c.slot_of-number.result.1 in
    let l = low (goal.at.returns-then-live-eq0 c).After-live in
    let is = place (goal.at.returns-then-live-eq0 c).After-live in
    let gone = c.remove.ensures.items ∙ remove_set es at c.put.new.self in
    record {
      rows =
          ap rows_of gone
          ∙ (rows_dropped es at x l c.index_mut-page.ensures.value c.requires.pages i (behind c.args.seq)
          c.slot_of-number.ensures.slot is (set x.1 i None)
          (ap (λ (e : ℕ × List (Option ℕ)). count_by is_some e.1) (sym c.put.ensures)
          ∙ (sym c.live.ensures ∙ c.if-live-eq0.true))
          ∙ pages_cleared es at x l c.index_mut-page.ensures.value c.requires.pages i (behind c.args.seq)
          c.slot_of-number.ensures.slot is c.requires.rising)
          ∙ row_behind c.args.seq c.ranges.seq.fits es c.requires.pages;
      pages = subst (All IsPage) (sym gone) (dropped_is es at c.requires.pages);
      rising =
          subst (AllPairs (λ (a b : ℕ × List (Option ℕ)). a.0 < b.0)) (sym gone)
          (all_pairs_remove (λ (a b : ℕ × List (Option ℕ)). a.0 < b.0) es at l c.requires.rising);
    }

pub returns-else-live-eq0-clause-rows : goal.returns-else-live-eq0-clause-rows
returns-else-live-eq0-clause-rows c =
    let es : List (ℕ × List (Option ℕ)) = c.args.pages.now.items in
    let at = c.place_of-at.result in
    let before = (goal.at.returns-else-live-eq0-clause-rows c).After-live in
    ap (λ (e : ℕ × List (Option ℕ)). rows_of (set es at e)) c.put.ensures
    ∙ pages_cleared es at c.index_mut-page.result.now (low before) c.index_mut-page.ensures.value
    c.requires.pages c.slot_of-number.result.1 (behind c.args.seq) c.slot_of-number.ensures.slot
    (place before) c.requires.rising
    ∙ row_behind c.args.seq c.ranges.seq.fits es c.requires.pages

pub returns-else-live-eq0-clause-pages : goal.returns-else-live-eq0-clause-pages
returns-else-live-eq0-clause-pages c =
    let es : List (ℕ × List (Option ℕ)) = c.args.pages.now.items in
    let at = c.place_of-at.result in
    let x : ℕ × List (Option ℕ) = c.index_mut-page.result.now in
    let i = c.slot_of-number.result.1 in
    let before = (goal.at.returns-else-live-eq0-clause-pages c).After-live in
    let count = ap (λ (e : ℕ × List (Option ℕ)). count_by is_some e.1) c.put.ensures in
    let live : 0 < count_by is_some (set x.1 i None) =
    omega (arith, count, c.live.ensures, c.if-live-eq0.false) in
    All-set IsPage es at c.put.new.self
    (subst IsPage (sym c.put.ensures)
    (cleared_is x.0 i (behind c.args.seq) c.slot_of-number.ensures.slot (place before) x.1
    (is_page es at x (low before) c.index_mut-page.ensures.value c.requires.pages) live))
    c.requires.pages
