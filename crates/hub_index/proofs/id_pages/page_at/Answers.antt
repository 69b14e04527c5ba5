use Rattle.std.proofs.Common.{rules, ℕ, ◌-◌, ◌<◌, List, length, Vec, Global, ap, sym, ◌∙◌, arith}
use Rattle.std.specs.List.{All}
use Rattle.std.proofs.lemmas.List.Sorted.{IsPartitionPoint-from_clause}
use Rattle.hub_index.specs.Order.{begins_up_to}
use Rattle.hub_index.proofs.IdPageLemmas.{firsts_parted, before_page, behind_page}
use Rattle.hub_index.proofs.OrderLemmas.{passes_up_to}
use Rattle.hub_index.proofs.id_pages.page_at.Goals as goal

pub returns : goal.returns
returns g c =
    let f : Vec ℕ Global → List ℕ = λ v. v.items in
    let ids = g.N.Named.ids c.args.names.now in
    let id = c.args.id.now in
    let pages = c.args.pages.now in
    let count = c.partition_point.result in
    let some : All (λ (x : Vec ℕ Global). 0 < length x.items) pages = λ k d l. (c.requires.pages k d l).some in
    let point =
    IsPartitionPoint-from_clause (λ (x : Vec ℕ Global). begins_up_to ids id x.items)
    pages count c.partition_point.ensures.partitioned
    (firsts_parted f ids id pages some c.requires.order.rising) (λ a r f called. search rules) in
    record {
      within = search rules;
      first = search rules;
      below =
          rw c.saturating_sub.ensures
          (before_page f ids id pages count c.partition_point.ensures.bound c.requires.order.rising point.0);
      above = rw c.saturating_sub.ensures (behind_page f ids id pages count some c.requires.order point.1);
    }

pub returns-then-begins_up_to-clause-below : goal.returns-then-begins_up_to-clause-below
returns-then-begins_up_to-clause-below g c =
    let f : Vec ℕ Global → List ℕ = λ v. v.items in
    let ids = g.N.Named.ids c.args.names.now in
    let id = c.args.id.now in
    let pages = c.args.pages.now in
    let x : Vec ℕ Global = c.index-pages-end.result in
    before_page f ids id pages (length pages) (omega arith) c.requires.order.rising
    (passes_up_to (λ (x : Vec ℕ Global). begins_up_to ids id x.items) pages
    (length pages - 1) (length pages) x
    (firsts_parted f ids id pages (λ k d l. (c.requires.pages k d l).some) c.requires.order.rising)
    (omega (arith, c.if-end-gt0.true)) (omega (arith, c.if-end-gt0.true)) c.index-pages-end.is
    (ap (begins_up_to ids id) (sym c.as_slice.ensures.value)
    ∙ (sym c.begins_up_to.ensures ∙ c.if-begins_up_to.true)))
