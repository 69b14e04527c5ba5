use Rattle.std.proofs.Common.{◌≡◌, ◌-◌, ◌≤◌, List, ℕ, ◌++◌, length}
use Rattle.std.specs.Io.KnownBytes.{Keeps}
use Rattle.hub_http.specs.Words.{to_come}
use Rattle.hub_http.proofs.requests.Requests.fill.Given as goal

abbrev pub invariant-loop-self : goal.invariant-loop-self
invariant-loop-self g l =
    let faults = g.R.Input.fault_count in
    let failures = g.R.Input.failure_count in
    Keeps (to_come g.R.Input.left l.fn.self) (to_come g.R.Input.left l.self)
    × ((more : List ℕ) × (l.self.held ≡ l.fn.self.held ++ more))
    × (l.self.ended ≡ l.fn.self.ended)
    × (faults l.fn.self.reader ≤ faults l.self.reader)
    × (failures l.fn.self.reader ≤ failures l.self.reader)

abbrev pub decreases-loop-self : goal.decreases-loop-self
decreases-loop-self g l = l.wanted - length l.self.held
