use Rattle.std.proofs.Common.{ℕ, List, Vec, Global, ◌<◌, ◌≤◌, ◌++◌, ◌∷◌, [], length, ◌∙◌, ap, sym, subst}
use Rattle.std.proofs.lemmas.Result.{on_ok_weaker}
use Rattle.hub_index.specs.Order.{IsOrder, numbers_of, with_number}
use Rattle.hub_index.proofs.OrderLemmas.{order_more}
use Rattle.hub_index.proofs.IdPageLemmas.{at_some, page_there, page_order, page_takes}
use Rattle.hub_index.proofs.id_order.IdOrder.insert.Given.{Over}
use Rattle.hub_index.proofs.id_order.IdOrder.insert.Goals as goal
use Rattle.hub_index.proofs.id_order.IdOrder.insert.Goals.{After-as_slice-2}

-- the page of the id is there
there : (g : Over) (c : After-as_slice-2 g) → c.page_at-page.result < length c.self.inside.pages.items
there g c =
    page_there c.page_at-page.result (length c.as_slice.result.now) c.len.result
    (length c.self.inside.pages.items) c.page_at-page.ensures.within c.page_at-page.ensures.first
    (ap (λ (l : List (Vec ℕ Global)). length l) c.as_slice.ensures.value)
    (c.as_slice.ensures.len ∙ sym c.len.ensures) c.if-page-len.false

pub place_in-at-requires : goal.place_in-at-requires
place_in-at-requires g c =
    let f : Vec ℕ Global → List ℕ = λ v. v.items in
    let ids = g.N.Named.ids c.args.names.now in
    let order : IsOrder ids (numbers_of c.self.inside.pages.items) =
    subst (IsOrder ids) (sym c.self.view_is) c.requires.order in
    let below = rw c.as_slice.ensures.value at c.page_at-page.ensures.below in
    let above = rw c.as_slice.ensures.value at c.page_at-page.ensures.above in
    record {
      order =
          subst (IsOrder ids) (sym c.as_slice-2.ensures.value)
          (page_order f ids c.args.id.now c.self.inside.pages.items c.page_at-page.result c.index.result.now
          (there g c) c.index.ensures below above order);
    }

pub put-requires-clause-place : goal.put-requires-clause-place
put-requires-clause-place g c =
    let low = there g (goal.at.put-requires-clause-place g c).After-as_slice-2 in
    at_some (λ (v : Vec ℕ Global). c.place_in-at.result ≤ length v.items) c.self.inside.pages.items
    c.page_at-page.result c.index.result.now low c.index.ensures
    (subst (λ (l : List ℕ). c.place_in-at.result ≤ length l) c.as_slice-2.ensures.value
    c.place_in-at.ensures.within)

pub returns-clause-ok : goal.returns-clause-ok
returns-clause-ok g c =
    let f : Vec ℕ Global → List ℕ = λ v. v.items in
    let ids = g.N.Named.ids c.args.names.now in
    let low = there g (goal.at.returns-clause-ok g c).After-as_slice-2 in
    let below = rw c.as_slice.ensures.value at c.page_at-page.ensures.below in
    let above = rw c.as_slice.ensures.value at c.page_at-page.ensures.above in
    let within = rw c.as_slice-2.ensures.value at c.place_in-at.ensures.within in
    let before = rw c.as_slice-2.ensures.value at c.place_in-at.ensures.before in
    let behind = rw c.as_slice-2.ensures.value at c.place_in-at.ensures.behind in
    on_ok_weaker c.put.result
    (λ e. e
    ∙ (page_takes f ids c.args.id.now c.self.inside.pages.items c.page_at-page.result c.index.result.now
    low c.index.ensures below above c.place_in-at.result c.args.number within before behind
    ∙ ap (λ (l : List ℕ). with_number ids l c.args.id.now c.args.number) c.self.view_is))
    c.put.ensures.ok

pub returns-clause-order : goal.returns-clause-order
returns-clause-order g c =
    let ids = g.N.Named.ids c.args.names.now in
    on_ok_weaker c.put.result
    (λ e. subst (IsOrder (ids ++ c.args.id.now ∷ [])) (sym e)
    (order_more ids c.args.self.now c.args.id.now c.args.number c.requires.order
    c.requires.next c.requires.new))
    (returns-clause-ok g c)
