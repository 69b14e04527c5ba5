use Rattle.std.proofs.Common.{rules, ℕ, List, Option, nat_lt, arith}
use Rattle.std.proofs.lemmas.List.Sorted.{IsPartitionPoint-from_clause}
use Rattle.hub_index.proofs.PageLemmas.{place_is, place_searched, numbers_parted}
use Rattle.hub_index.proofs.page_index.place_of.Goals as goal

pub returns-in-Some-clause-parted : goal.returns-in-Some-clause-parted
returns-in-Some-clause-parted c =
    (place_is c.args.pages.now c.args.number c.in-Some.at c.requires c.in-Some.ensures).1

pub returns-in-Some-clause-within : goal.returns-in-Some-clause-within
returns-in-Some-clause-within c =
    let there = (place_is c.args.pages.now c.args.number c.in-Some.at c.requires c.in-Some.ensures).0 in
    omega (arith, there)

pub returns-in-None-clause-parted : goal.returns-in-None-clause-parted
returns-in-None-clause-parted c =
    place_searched c.args.pages.now c.args.number c.partition_point.result
    (IsPartitionPoint-from_clause (λ (e : ℕ × List (Option ℕ)). nat_lt e.0 c.args.number)
    c.args.pages.now c.partition_point.result c.partition_point.ensures.partitioned
    (numbers_parted c.args.pages.now c.args.number c.requires) (λ a r f called. search rules))
