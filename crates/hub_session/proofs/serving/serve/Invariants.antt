use Rattle.std.proofs.Common.{◌≡◌, ◌≤◌, IfSome}
use Rattle.hub_http.specs.Words.{to_come, IsOpen, HasEnded}
use Rattle.hub_session.specs.Rules.{moment}
use Rattle.hub_session.proofs.SessionLemmas.{Served}
use Rattle.hub_session.proofs.serving.serve.Given as goal

abbrev pub invariant-loop : goal.invariant-loop
invariant-loop g l =
    let written = g.W.Output.written in
    let left = g.R.Input.left in
    record {
      served : IsOpen l.fn.requests → IfSome (to_come left l.fn.requests) (λ bytes.
          Served g.S.Service.rules bytes (moment l.fn.service (written l.fn.writer)) l.counter
          (to_come left l.requests) (moment l.service (written l.writer)));
      is_open : IsOpen l.fn.requests → IsOpen l.requests;
      ended : HasEnded l.fn.requests
          → (l.requests ≡ l.fn.requests) × (l.service ≡ l.fn.service)
          × (l.writer ≡ l.fn.writer) × (l.counter ≡ 0);
      writes : g.W.Output.fault_count l.fn.writer ≤ g.W.Output.fault_count l.writer;
      failed_writes : g.W.Output.failure_count l.fn.writer ≤ g.W.Output.failure_count l.writer;
      reads : g.R.Input.fault_count l.fn.requests.reader ≤ g.R.Input.fault_count l.requests.reader;
      failed_reads : g.R.Input.failure_count l.fn.requests.reader ≤ g.R.Input.failure_count l.requests.reader;
    }
