use Rattle.std.proofs.Common.{◌∙◌}
use Rattle.std.specs.Process.{exit_status}
use Rattle.hub_http.specs.Words.{to_come}
use Rattle.changes_hub.proofs.SessionLemmas.{ends_with}
use Rattle.changes_hub.proofs.answering.answer.Goals as goal

pub returns : goal.returns
returns g c = λ opened.
    ends_with (to_come g.R.Input.left c.args.requests.now) c.in_ok-closing.closing (exit_status c.from.result)
    (g.W.Output.written c.args.writer.now) _ _
    (c.in_ok-closing.ensures.session opened) c.in_ok-flush.ensures.bytes
    (c.from.ensures ∙ c.status_of.ensures)
