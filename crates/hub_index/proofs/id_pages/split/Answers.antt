use Rattle.std.proofs.Common.{arith, ◌≡◌, ℕ, Vec, Global, length, drop, ap, ◌∙◌, List, get_or, insert, ◌+◌}
use Rattle.std.proofs.lemmas.List.{take_rest}
use Rattle.hub_index.specs.Order.{IsNumberPage}
use Rattle.hub_index.proofs.IdPageLemmas.{cut_numbers, cut_before, cut_lower, cut_upper, cut_pages, some_at}
use Rattle.hub_index.proofs.id_pages.split.Goals as goal

-- the numbers of the upper page
upper : (c : goal.After-pages-1) → c.in_ok-upper.upper.items ≡ drop 128 c.index.result.now.items
upper c =
    c.in_ok-upper.ensures.items
    ∙ (take_rest c.deref.result.now 128 ∙ ap (λ (l : List ℕ). drop 128 l) c.deref.ensures.value)

-- the page that is cut, as it is read after the upper page was put behind it
there : (c : goal.After-pages-1)
    → c.index_mut.result.now
    ≡ get_or (insert c.args.pages.now.items (c.args.page + 1) c.in_ok-upper.upper)
    c.args.page c.index_mut.result.now
there c =
    c.index_mut.ensures.value
    ∙ ap (λ (l : List (Vec ℕ Global)). get_or l c.args.page c.index_mut.result.now)
    c.in_ok-insert.ensures.items

pub returns : goal.returns
returns c =
    let f : Vec ℕ Global → List ℕ = λ v. v.items in
    let es = c.args.pages.now.items in
    let k = c.args.page in
    let x = c.index.result.now in
    let y = c.index_mut.result.now in
    let low = c.cut.new.numbers in
    let high = c.in_ok-upper.upper in
    let is = c.index.ensures in
    let full = some_at (λ (v : Vec ℕ Global). length v.items ≡ 256) es k c.requires in
    let size = full.1 x is in
    rw c.in_ok-insert.ensures.items (record {
      numbers = cut_numbers f es k x y low high full.0 is size (upper c) (there c) c.cut.ensures;
      pages =
          cut_pages f es k x y low high full.0 is size (upper c) (there c) c.cut.ensures IsNumberPage
          (λ z h. record { some = omega arith; few = omega arith });
      before = cut_before f es k x y low high full.0 is size (upper c) (there c) c.cut.ensures;
      lower = cut_lower f es k x y low high full.0 is size (upper c) (there c) c.cut.ensures;
      upper = cut_upper f es k x y low high full.0 is size (upper c) (there c) c.cut.ensures;
    })
