use Rattle.std.proofs.Common.{◌≡◌, ◌++◌, drop}
use Rattle.hub_service.specs.Bulk.{replies_of}
use Rattle.hub_service.proofs.bulk.replies_of.Given as goal

abbrev pub invariant-loop-fault : goal.invariant-loop-fault
invariant-loop-fault l =
    replies_of l.fn.new_edits l.faults l.fn.outcomes
    ≡ l.list.items ++ replies_of l.fn.new_edits (drop l.fault-index l.faults) l.left
