use Rattle.std.proofs.Common.{◌≡◌, ℕ, ◌+◌, ◌-◌, ◌*◌, ◌<◌, List, [], ◌∷◌, ◌++◌}
use Rattle.std.proofs.Common.{Option, Some, None, replicate, set, length, refl, ◌∙◌, ap, subst, sym, arith}
use Rattle.std.specs.List.{All, AllPairs}
use Rattle.std.proofs.lemmas.List.{length-replicate}
use Rattle.std.proofs.lemmas.List.Elements.{All-replicate}
use Rattle.std.proofs.lemmas.List.Quantifiers.{all_pairs_push}
use Rattle.hub_index.specs.Pages.{IsPage, rows_of}
use Rattle.hub_index.proofs.PageLemmas.{same_number, pages_filled, pages_filled_are}
use Rattle.hub_index.proofs.PageLemmas.{below_new, rows_added, added_is}
use Rattle.hub_index.proofs.page_index.add_row.Goals as goal
use Rattle.hub_index.proofs.page_index.add_row.Goals.{else-end-gt0-via-then-end-gt0+else-number}
use Rattle.hub_index.proofs.page_index.add_row.Goals.{else-end-gt0-via-else-end-gt0}

-- the sequence of the slot, on the page that was read twice
last : (c : goal.After-pages-1)
    → 256 * c.index_mut.result.now.0 + c.slot_of-number.result.1 + 1 ≡ c.args.seq
last c =
    let number =
    same_number c.args.pages.now.items (c.len-end.result - 1) c.slot_of-number.result.0
    c.index_mut.result.now c.index.result.now (omega (arith, c.len-end.ensures, c.if-end-gt0.true))
    c.index_mut.ensures.value c.index.ensures (sym c.number.ensures ∙ c.if-number.true) in
    omega (arith, number, c.slot_of-number.ensures.before, c.requires.positive)

pub returns-then-number-clause-ok : goal.returns-then-number-clause-ok
returns-then-number-clause-ok c =
    let es : List (ℕ × List (Option ℕ)) = c.args.pages.now.items in
    let at = c.len-end.result - 1 in
    ap (λ (e : ℕ × List (Option ℕ)). rows_of (set es at e)) c.put.ensures
    ∙ pages_filled es at c.index_mut.result.now (omega (arith, c.len-end.ensures, c.if-end-gt0.true))
    c.index_mut.ensures.value c.requires.laid.each c.slot_of-number.result.1 c.args.seq
    c.slot_of-number.ensures.slot (last c) (omega (arith, c.len-end.ensures)) c.requires.above c.args.document

pub returns-then-number-clause-pages : goal.returns-then-number-clause-pages
returns-then-number-clause-pages c =
    let es : List (ℕ × List (Option ℕ)) = c.args.pages.now.items in
    let at = c.len-end.result - 1 in
    subst (λ (e : ℕ × List (Option ℕ)). All IsPage (set es at e)) (sym c.put.ensures)
    (pages_filled_are es at c.index_mut.result.now (omega (arith, c.len-end.ensures, c.if-end-gt0.true))
    c.index_mut.ensures.value c.requires.laid.each c.slot_of-number.result.1 c.args.seq
    c.slot_of-number.ensures.slot (last c) (omega (arith, c.len-end.ensures)) c.requires.above c.args.document
    (omega (arith, c.ranges.seq.fits)))

-- the slots of a new page
abbrev empty : List (Option ℕ)
empty = replicate 256 None

none : All (λ (slot : Option ℕ). slot ≡ None) empty
none = All-replicate (λ (slot : Option ℕ). slot ≡ None) 256 None refl

-- the pages, with the new one
pushed : (c : goal.In_ok-push)
    → c.push.new.self.items ≡ c.args.pages.now.items
    ++ (c.slot_of-number.result.0, set empty c.slot_of-number.result.1 (Some c.args.document)) ∷ []
pushed c =
    c.in_ok-push.ensures.items
    ∙ ap (λ (e : ℕ × List (Option ℕ)). c.args.pages.now.items ++ e ∷ [])
    (c.put-2.ensures
    ∙ ap (λ (e : ℕ × List (Option ℕ)). (e.0, set e.1 c.slot_of-number.result.1 (Some c.args.document)))
    c.in_ok-page.ensures)

pub returns-clause-ok : goal.returns-clause-ok
returns-clause-ok c =
    ap rows_of (pushed c)
    ∙ rows_added c.slot_of-number.result.0 c.slot_of-number.result.1 c.args.seq c.slot_of-number.ensures.slot
    (omega (arith, c.slot_of-number.ensures.before, c.requires.positive))
    c.args.document empty (length-replicate {A = Option ℕ} 256 None) none c.args.pages.now.items

pub returns-clause-pages : goal.returns-clause-pages
returns-clause-pages c =
    subst (All IsPage) (sym (pushed c))
    (added_is c.slot_of-number.result.0 c.slot_of-number.result.1 c.args.seq c.slot_of-number.ensures.slot
    (omega (arith, c.slot_of-number.ensures.before, c.requires.positive))
    c.args.document empty (length-replicate {A = Option ℕ} 256 None) none c.args.pages.now.items
    (omega (arith, c.ranges.seq.fits)) c.requires.laid.each)

pub returns-clause-rising : goal.returns-clause-rising
returns-clause-rising c =
    let es : List (ℕ × List (Option ℕ)) = c.args.pages.now.items in
    let k = c.slot_of-number.result.0 in
    let low : All (λ (e : ℕ × List (Option ℕ)). e.0 < k) es = elim c.else-end-gt0.branch [
      | else-end-gt0-via-then-end-gt0+else-number w ↦
          let last : c.len-end.result - 1 + 1 ≡ length es =
          omega (arith, c.len-end.ensures, w.if-end-gt0.true) in
          below_new k c.slot_of-number.result.1 c.args.seq c.slot_of-number.ensures.slot
          (omega (arith, c.slot_of-number.ensures.before, c.requires.positive))
          es (c.len-end.result - 1) w.index.result.now last w.index.ensures
          (λ q. w.if-number.false (w.number.ensures ∙ q)) c.requires.laid.rising c.requires.laid.each c.requires.above
      | else-end-gt0-via-else-end-gt0 w ↦
          λ z d l. absurd (omega (arith, l, c.len-end.ensures, w.if-end-gt0.false))
    ] in
    subst (AllPairs (λ (a b : ℕ × List (Option ℕ)). a.0 < b.0)) (sym (pushed c))
    (all_pairs_push (λ (a b : ℕ × List (Option ℕ)). a.0 < b.0) es
    (k, set empty c.slot_of-number.result.1 (Some c.args.document)) c.requires.laid.rising low)
