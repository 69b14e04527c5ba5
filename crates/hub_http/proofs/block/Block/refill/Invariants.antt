use Rattle.std.proofs.Common.{◌≡◌, ◌≤◌, ◌<◌}
use Rattle.std.specs.Io.KnownBytes.{Keeps}
use Rattle.hub_http.specs.Counts.{HasGrown, HasGrownBy}
use Rattle.hub_http.proofs.block.Block.refill.Given as goal

abbrev pub invariant-loop : goal.invariant-loop
invariant-loop g l =
    let left = g.R.Input.left in
    let faults = g.R.Input.fault_count in
    let failures = g.R.Input.failure_count in
    Keeps (left l.fn.reader) (left l.reader)
    × (l.self-inside.len ≡ 0)
    × (faults l.fn.reader ≤ faults l.reader)
    × (0 < l.counter → HasGrown (faults l.fn.reader) (faults l.reader))
    × (failures l.fn.reader ≤ failures l.reader)
    × HasGrownBy l.counter (faults l.fn.reader) (faults l.reader)
