use Rattle.std.proofs.Common.{◌≡◌, drop}
use Rattle.std.specs.List.{list_any}
use Rattle.hub_follower.specs.Handed.{same_row}
use Rattle.hub_follower.proofs.same_row.has_row.Given as goal

-- no row so far is the same, so the later rows decide
abbrev pub invariant-loop-other : goal.invariant-loop-other
invariant-loop-other l =
    list_any (same_row l.row) (drop l.other-index l.rows) ≡ list_any (same_row l.row) l.rows
