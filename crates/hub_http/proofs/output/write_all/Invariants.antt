use Rattle.std.proofs.Common.{◌≡◌, ◌≤◌, ◌<◌, ◌+◌, ◌-◌, ◌*◌, ℕ, ◌++◌, List, length}
use Rattle.std.specs.Io.KnownBytes.{Appends}
use Rattle.hub_http.specs.Counts.{HasGrownBy, most_tries}
use Rattle.hub_http.proofs.output.write_all.Given as goal

abbrev pub invariant-loop-rest : goal.invariant-loop-rest
invariant-loop-rest g l =
    let written = g.W.Output.written in
    let faults = g.W.Output.fault_count in
    let failures = g.W.Output.failure_count in
    ((done : List ℕ) × (l.bytes ≡ done ++ l.rest) × Appends (written l.fn.writer) (written l.writer) done)
    × (faults l.fn.writer ≤ faults l.writer)
    × (failures l.fn.writer ≤ failures l.writer)
    × (0 < l.tries) × (l.tries ≤ most_tries)
    × HasGrownBy (most_tries - l.tries) (faults l.fn.writer) (faults l.writer)

abbrev pub decreases-loop-rest : goal.decreases-loop-rest
decreases-loop-rest g l = length l.rest * 1000001 + l.tries
