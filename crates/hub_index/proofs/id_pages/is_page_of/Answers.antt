use Rattle.std.proofs.Common.{rules, ◌≡◌, ℕ, ◌+◌, ◌<◌, ◌∙◌}
use Rattle.std.proofs.Common.{List, length, Vec, Global, not, true, take, drop, ap, sym, arith}
use Rattle.std.specs.List.{All}
use Rattle.std.specs.Ordering.{is_gt}
use Rattle.std.proofs.lemmas.Bool.{OnTrue_from}
use Rattle.hub_model.proofs.Tests.{not_true}
use Rattle.hub_index.specs.Order.{begins_up_to, id_cmp, is_below, numbers_of}
use Rattle.hub_index.proofs.IdPageLemmas.{firsts_parted, below_page, above_from}
use Rattle.hub_index.proofs.OrderLemmas.{fails_from}
use Rattle.hub_index.proofs.id_pages.is_page_of.Goals as goal

pub returns : goal.returns
returns g c =
    let f : Vec ℕ Global → List ℕ = λ v. v.items in
    let ids = g.N.Named.ids c.args.names.now in
    let id = c.args.id.now in
    let pages = c.args.pages.now in
    let k = c.args.page in
    let x : Vec ℕ Global = c.index-pages-page.result in
    let y : Vec ℕ Global = c.index-pages-page-2.result in
    let some : All (λ (x : Vec ℕ Global). 0 < length x.items) pages = λ k d l. (c.requires.pages k d l).some in
    record {
      within = search rules;
      below =
          OnTrue_from (not c.begins_up_to-2.result)
          (All (λ n. is_below ids id n ≡ true) (numbers_of (take k pages)))
          (λ h.
          below_page f ids id pages k x (omega (arith, c.if-page-pages.false)) c.index-pages-page.is
          c.requires.order.rising
          (ap (begins_up_to ids id) (sym c.as_slice.ensures.value)
          ∙ (sym c.begins_up_to.ensures ∙ c.if-not-begins_up_to.false)));
      above =
          OnTrue_from (not c.begins_up_to-2.result)
          (All (λ n. is_gt (id_cmp ids id n) ≡ true) (numbers_of (drop (k + 1) pages)))
          (λ h.
          above_from f ids id pages (k + 1) some c.requires.order
          (fails_from (λ (x : Vec ℕ Global). begins_up_to ids id x.items) pages (k + 1) y
          (firsts_parted f ids id pages some c.requires.order.rising) c.index-pages-page-2.is
          (ap (begins_up_to ids id) (sym c.as_slice-2.ensures.value)
          ∙ (sym c.begins_up_to-2.ensures ∙ not_true c.begins_up_to-2.result h))));
    }
