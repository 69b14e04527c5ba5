use Rattle.std.proofs.Common.{◌≡◌, ℕ, ◌-◌, ◌<◌, ◌∙◌, length, get_or, true, arith}
use Rattle.std.specs.List.{AllWithin}
use Rattle.std.proofs.lemmas.Bool.{OnTrue_from}
use Rattle.std.proofs.lemmas.List.{get_or_default}
use Rattle.hub_index.specs.Order.{is_below}
use Rattle.hub_index.proofs.OrderLemmas.{below_parted, below_read, passes_up_to}
use Rattle.hub_index.proofs.id_pages.belongs_from.Goals as goal

pub returns-else-at-eq0 : goal.returns-else-at-eq0
returns-else-at-eq0 g c =
    let ids = g.N.Named.ids c.args.names.now in
    let id = c.args.id.now in
    let numbers = c.args.numbers.now in
    let k = c.args.at - 1 in
    let low : k < length numbers = omega (arith, c.requires.place, c.if-at-eq0.false) in
    let last : ℕ = get_or numbers k 0 in
    OnTrue_from c.is_lt.result (AllWithin (λ n. is_below ids id n ≡ true) numbers 0 c.args.at)
    (λ h.
    passes_up_to (is_below ids id) numbers k c.args.at last
    (below_parted ids id numbers c.requires.order.rising) (omega (arith, c.if-at-eq0.false)) low
    (get_or_default numbers k 0 last low)
    (below_read ids id last _ _ _ c.id.ensures c.cmp.ensures c.is_lt.ensures ∙ h))
