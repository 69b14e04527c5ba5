use Rattle.std.proofs.lemmas.List.Filters.{dedup_is}
use Rattle.std.proofs.lemmas.List.Kept.{AllPairs-from_increasing, Contains-dedup_nat, Contains-from_dedup}
use Rattle.std.proofs.lemmas.List.Sorted.{Contains-permutation, IsPermutation-sym}
use Rattle.std.proofs.lemmas.Map.Keys.{IsStrictlyIncreasing-dedup}
use Rattle.hub_database.proofs.listing.arrange.Goals as goal

pub returns-clause-rises : goal.returns-clause-rises
returns-clause-rises c =
    rw (dedup_is _ _ _ c.dedup.ensures.filtered)
    (AllPairs-from_increasing _ (IsStrictlyIncreasing-dedup _ c.sort_unstable.ensures.sorted))

pub returns-clause-keeps : goal.returns-clause-keeps
returns-clause-keeps c =
    λ n h. rw (dedup_is _ _ _ c.dedup.ensures.filtered)
    (Contains-dedup_nat _ n (Contains-permutation _ _ n c.sort_unstable.ensures.permutation h))

pub returns-clause-adds_none : goal.returns-clause-adds_none
returns-clause-adds_none c =
    λ n h. Contains-permutation _ _ n (IsPermutation-sym _ _ c.sort_unstable.ensures.permutation)
    (Contains-from_dedup _ _ n (rw (dedup_is _ _ _ c.dedup.ensures.filtered) at h))
