use Rattle.std.proofs.Common.{◌≤◌, take}
use Rattle.std.specs.Io.KnownBytes.{Appends}
use Rattle.hub_session.specs.Replies.{parts_text}
use Rattle.hub_session.proofs.parts.write_parts.Given as goal

abbrev pub invariant-loop-part : goal.invariant-loop-part
invariant-loop-part g l =
    let written = g.W.Output.written in
    let faults = g.W.Output.fault_count in
    let failures = g.W.Output.failure_count in
    Appends (written l.fn.writer) (written l.writer) (parts_text (take l.part-index l.parts))
    × (faults l.fn.writer ≤ faults l.writer)
    × (failures l.fn.writer ≤ failures l.writer)
