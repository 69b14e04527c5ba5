use Rattle.std.proofs.Common.{◌≡◌, drop}
use Rattle.hub_model.specs.RightlyHanded.{rows_of}
use Rattle.hub_follower.specs.Handed.{are_listed}
use Rattle.hub_follower.proofs.handed.are_listed.Given as goal

-- the rows so far are listed
abbrev pub invariant-loop-row : goal.invariant-loop-row
invariant-loop-row l =
    are_listed l.last (rows_of l.items) (drop l.row-index l.rows) ≡ are_listed l.last (rows_of l.items) l.rows
