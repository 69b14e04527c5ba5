use Rattle.std.proofs.Common.{◌≡◌, drop}
use Rattle.hub_model.specs.RightlyHanded.{rows_of}
use Rattle.hub_follower.specs.Handed.{are_rising}
use Rattle.hub_follower.proofs.handed.are_rising.Given as goal

-- the rows so far rise, so the later items decide
abbrev pub invariant-loop-item : goal.invariant-loop-item
invariant-loop-item l =
    are_rising l.last l.seq l.seen (rows_of (drop l.item-index l.items))
    ≡ are_rising l.last l.since 0 (rows_of l.items)
