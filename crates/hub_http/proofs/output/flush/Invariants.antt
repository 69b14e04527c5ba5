use Rattle.std.proofs.Common.{◌<◌, ◌≤◌}
use Rattle.std.specs.Io.KnownBytes.{Keeps}
use Rattle.hub_http.specs.Counts.{HasGrown, HasGrownBy}
use Rattle.hub_http.proofs.output.flush.Given as goal

abbrev pub invariant-loop : goal.invariant-loop
invariant-loop g l =
    let written = g.W.Output.written in
    let faults = g.W.Output.fault_count in
    let failures = g.W.Output.failure_count in
    Keeps (written l.fn.writer) (written l.writer)
    × (faults l.fn.writer ≤ faults l.writer)
    × (0 < l.counter → HasGrown (faults l.fn.writer) (faults l.writer))
    × (failures l.fn.writer ≤ failures l.writer)
    × HasGrownBy l.counter (faults l.fn.writer) (faults l.writer)
