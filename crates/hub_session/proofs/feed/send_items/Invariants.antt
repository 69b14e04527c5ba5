use Rattle.std.proofs.Common.{◌≤◌}
use Rattle.hub_session.specs.Rules.{moment}
use Rattle.hub_session.proofs.FeedLemmas.{Went}
use Rattle.hub_session.proofs.feed.send_items.Given as goal

abbrev pub invariant-loop : goal.invariant-loop
invariant-loop g l =
    let written = g.W.Output.written in
    let faults = g.W.Output.fault_count in
    let failures = g.W.Output.failure_count in
    Went g.S.Service.rules l.fn.sending.mode l.fn.sending.life (moment l.fn.service (written l.fn.writer))
    l.counter l.rows (moment l.service (written l.writer))
    × (faults l.fn.writer ≤ faults l.writer)
    × (l.rows ≤ l.counter)
    × (failures l.fn.writer ≤ failures l.writer)
