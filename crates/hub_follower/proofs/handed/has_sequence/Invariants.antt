use Rattle.std.proofs.Common.{◌≡◌, drop}
use Rattle.hub_model.specs.RightlyHanded.{rows_of}
use Rattle.hub_follower.specs.Handed.{has_sequence}
use Rattle.hub_follower.proofs.handed.has_sequence.Given as goal

-- no row so far has the sequence, so the later items decide
abbrev pub invariant-loop-item : goal.invariant-loop-item
invariant-loop-item l =
    has_sequence (rows_of (drop l.item-index l.items)) l.seq ≡ has_sequence (rows_of l.items) l.seq
