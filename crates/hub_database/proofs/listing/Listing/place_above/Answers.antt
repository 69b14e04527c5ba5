-- The binary search ends at the first number above the place.
use Rattle.std.proofs.Common.{◌<◌, AllPairs, nat_le, of_calls, rules, subst, sym}
use Rattle.std.proofs.lemmas.Fn.{always_returns_same}
use Rattle.hub_database.proofs.ListingLemmas.{parted}
use Rattle.hub_database.proofs.listing.Listing.place_above.Goals as goal

pub returns : goal.returns
returns c =
    let point =
    c.partition_point.ensures.partitioned (λ n. nat_le n c.args.place)
    (always_returns_same _ _ _ (λ a r f k. search (rules, of_calls)))
    (parted c.deref-2.result.now c.args.place
    (subst (AllPairs (λ m n. m < n)) (sym c.deref-2.ensures.value) c.requires)) in
    rw c.deref-2.ensures.value at point
