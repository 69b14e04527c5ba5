use Rattle.std.proofs.Common.{arith}
use Rattle.std.proofs.lemmas.List.Kept.{AllPairs-from_increasing}
use Rattle.hub_database.proofs.listing.is_rising.Goals as goal

pub returns : goal.returns
returns c =
    λ t. AllPairs-from_increasing c.args.list.now
    (λ k within. c.loop-at.invariant.1 k (omega (arith, c.loop-at-test.false, within)))
