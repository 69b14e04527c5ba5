use Rattle.std.proofs.Common.{◌≡◌, ◌∙◌, sym, None}
use Rattle.std.specs.Prelude.{position}
use Rattle.hub_model.specs.Entries.{is_of}
use Rattle.hub_model.proofs.Entries.{entry_here, no_entry}
use Rattle.hub_shared.proofs.outboxes.outbox_of.Goals as goal

pub returns-in_err-at-clause-none : goal.returns-in_err-at-clause-none
returns-in_err-at-clause-none g c =
    let none : position (is_of c.args.feed) c.args.outboxes.now ≡ None =
    sym c.place_of.ensures ∙ c.in_err-at.was in
    rw c.from_residual.ensures (no_entry c.args.feed c.args.outboxes.now none)

pub returns-clause-found : goal.returns-clause-found
returns-clause-found g c =
    entry_here c.args.feed c.args.outboxes.now c.in_ok-at.at c.in_ok-at.ensures c.index-outboxes-at.result
    c.index-outboxes-at.is
