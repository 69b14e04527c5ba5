use Rattle.std.proofs.Common.{◌≡◌, ℕ, List, Vec, Global, ◌∙◌, ap, sym, subst, Bool, true, false, Some, None}
use Rattle.std.specs.Prelude.{if◌then◌else◌}
use Rattle.std.specs.Str.{bytes_eq}
use Rattle.hub_index.specs.Order.{IsOrder, has_id, number_in}
use Rattle.hub_index.proofs.IdPageLemmas.{page_order, page_finds}
use Rattle.hub_index.proofs.OrderLemmas.{found_past, found_here}
use Rattle.hub_index.proofs.id_order.IdOrder.find.Given.{Over}
use Rattle.hub_index.proofs.id_order.IdOrder.find.Goals as goal
use Rattle.hub_index.proofs.id_order.IdOrder.find.Goals.{After-as_slice-list, In_ok-number}

-- the numbers of the page are in order, and the number of the id stands among them or nowhere
record IsItsPage (ids : List (List ℕ)) (id all page : List ℕ) : Type 0 where
  order : IsOrder ids page
  finds : number_in ids page id ≡ number_in ids all id

its_page : (g : Over) (c : After-as_slice-list g)
    → IsItsPage (g.N.Named.ids c.args.names.now) c.args.id.now c.args.self.now c.as_slice-list.result.now
its_page g c =
    let f : Vec ℕ Global → List ℕ = λ v. v.items in
    let ids = g.N.Named.ids c.args.names.now in
    let id = c.args.id.now in
    let pages = c.self.inside.pages.items in
    let k = c.page_at-page.result in
    let x = c.in_ok-numbers.numbers.now in
    let low = rw c.deref.ensures.value at c.in_ok-numbers.ensures.lookup.3.0 in
    let is = rw c.deref.ensures.value at c.in_ok-numbers.ensures.lookup.1 in
    let below = rw c.as_slice.ensures.value at c.page_at-page.ensures.below in
    let above = rw c.as_slice.ensures.value at c.page_at-page.ensures.above in
    record {
      order =
          subst (IsOrder ids) (sym c.as_slice-list.ensures.value)
          (page_order f ids id pages k x low is below above
          (subst (IsOrder ids) (sym c.self.view_is) c.requires.order));
      finds =
          ap (λ (l : List ℕ). number_in ids l id) c.as_slice-list.ensures.value
          ∙ (sym (page_finds f ids id pages k x low is below above)
          ∙ ap (λ (l : List ℕ). number_in ids l id) c.self.view_is);
    }

pub place_in-at-requires : goal.place_in-at-requires
place_in-at-requires g c = record { order = (its_page g c).order }

pub returns-in_err-number : goal.returns-in_err-number
returns-in_err-number g c =
    let at = c.place_in-at in
    let page = its_page g (goal.at.returns-in_err-number g c).After-as_slice-list in
    c.from_residual-in_err-number.ensures
    ∙ (sym (found_past (g.N.Named.ids c.args.names.now) c.args.id.now c.as_slice-list.result.now at.result
    page.order.rising at.ensures.before at.ensures.behind c.in_err-number.ensures.lookup.3)
    ∙ page.finds)

-- the number at the place of the id is the id's, or the id has none
found : (g : Over) (c : In_ok-number g)
    → IsItsPage (g.N.Named.ids c.args.names.now) c.args.id.now c.args.self.now c.as_slice-list.result.now
    → (b : Bool) → has_id (g.N.Named.ids c.args.names.now) c.args.id.now c.in_ok-number.field-0.now ≡ b
    → (if b then Some c.in_ok-number.field-0.now else None)
    ≡ number_in (g.N.Named.ids c.args.names.now) c.args.self.now c.args.id.now
found g c page b has =
    let at = c.place_in-at in
    let n = c.in_ok-number.field-0.now in
    sym (found_here (g.N.Named.ids c.args.names.now) c.args.id.now c.as_slice-list.result.now at.result
    page.order.rising at.ensures.before at.ensures.behind c.in_ok-number.ensures.lookup.3.0 n
    c.in_ok-number.ensures.lookup.1
    ∙ ap (λ b. if b then Some n else None) has)
    ∙ page.finds

pub returns-then-eq : goal.returns-then-eq
returns-then-eq g c =
    let at = goal.at.returns-then-eq g c in
    found g at.In_ok-number (its_page g at.After-as_slice-list) true
    (ap (λ t. bytes_eq t c.args.id.now) (sym c.id.ensures) ∙ sym c.if-eq.ensures)

pub returns-else-eq : goal.returns-else-eq
returns-else-eq g c =
    let at = goal.at.returns-else-eq g c in
    found g at.In_ok-number (its_page g at.After-as_slice-list) false
    (ap (λ t. bytes_eq t c.args.id.now) (sym c.id.ensures) ∙ sym c.if-eq.ensures)
