use Rattle.std.proofs.Common.{rules, ℕ, ◌+◌, ◌-◌, ◌∙◌, length, get_or, arith}
use Rattle.std.proofs.lemmas.List.Sorted.{IsPartitionPoint-from_clause}
use Rattle.std.proofs.lemmas.List.{get_or_default}
use Rattle.hub_index.specs.Order.{is_below}
use Rattle.hub_index.proofs.OrderLemmas.{below_parted, below_read, parted, passes_up_to}
use Rattle.hub_index.proofs.id_pages.place_in.Goals as goal

pub returns : goal.returns
returns g c =
    let p = is_below (g.N.Named.ids c.args.names.now) c.args.id.now in
    let point =
    IsPartitionPoint-from_clause p c.args.numbers.now c.partition_point.result
    c.partition_point.ensures.partitioned
    (below_parted (g.N.Named.ids c.args.names.now) c.args.id.now c.args.numbers.now c.requires.order.rising)
    (λ a r f called. search rules) in
    let cut =
    parted p c.args.numbers.now c.partition_point.result c.partition_point.ensures.bound point.0 point.1 in
    record { within = c.partition_point.ensures.bound; before = cut.0; behind = cut.1 }

pub returns-then-is_lt : goal.returns-then-is_lt
returns-then-is_lt g c =
    let ids = g.N.Named.ids c.args.names.now in
    let id = c.args.id.now in
    let numbers = c.args.numbers.now in
    let at = length numbers - 1 in
    let last : ℕ = get_or numbers at 0 in
    let low =
    passes_up_to (is_below ids id) numbers at (length numbers) last
    (below_parted ids id numbers c.requires.order.rising) (omega (arith, c.if-count-gt0.true))
    (omega (arith, c.if-count-gt0.true))
    (get_or_default numbers at 0 last (omega (arith, c.if-count-gt0.true)))
    (below_read ids id last _ _ _ c.id.ensures c.cmp.ensures c.is_lt.ensures ∙ c.if-is_lt.true) in
    let cut =
    parted (is_below ids id) numbers (length numbers) (omega arith) low (λ i d a b. absurd (omega arith)) in
    record { within = omega arith; before = cut.0; behind = cut.1 }

pub returns-then-belongs_up_to : goal.returns-then-belongs_up_to
returns-then-belongs_up_to g c =
    let cut =
    parted (is_below (g.N.Named.ids c.args.names.now) c.args.id.now) c.args.numbers.now c.args.guess
    (omega (arith, c.if-guess-count.true)) c.if-belongs_from.ensures c.if-belongs_up_to.ensures.yes in
    record { within = omega (arith, c.if-guess-count.true); before = cut.0; behind = cut.1 }

pub returns-then-belongs_up_to-2 : goal.returns-then-belongs_up_to-2
returns-then-belongs_up_to-2 g c =
    let cut =
    parted (is_below (g.N.Named.ids c.args.names.now) c.args.id.now) c.args.numbers.now (c.args.guess + 1)
    (omega (arith, c.if-belongs_up_to.ensures.within)) c.if-belongs_up_to.ensures.no
    c.if-belongs_up_to-2.ensures.yes in
    record { within = omega (arith, c.if-belongs_up_to.ensures.within); before = cut.0; behind = cut.1 }
