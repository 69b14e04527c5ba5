use Rattle.std.proofs.Common.{◌≡◌, ◌-◌, ◌≤◌, length}
use Rattle.std.specs.Io.KnownBytes.{Keeps}
use Rattle.hub_http.specs.Words.{to_come}
use Rattle.hub_http.proofs.requests.Requests.find_head.Given as goal

abbrev pub invariant-loop-head : goal.invariant-loop-head
invariant-loop-head g l =
    let faults = g.R.Input.fault_count in
    let failures = g.R.Input.failure_count in
    Keeps (to_come g.R.Input.left l.fn.self) (to_come g.R.Input.left l.self)
    × (l.self.ended ≡ l.fn.self.ended)
    × (faults l.fn.self.reader ≤ faults l.self.reader)
    × (failures l.fn.self.reader ≤ failures l.self.reader)

abbrev pub decreases-loop-head : goal.decreases-loop-head
decreases-loop-head g l = 16384 - length l.self.held
