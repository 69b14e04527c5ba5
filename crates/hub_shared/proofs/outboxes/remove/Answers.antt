use Rattle.std.proofs.Common.{◌≡◌, ◌∙◌, sym, Some, None}
use Rattle.std.specs.Prelude.{position}
use Rattle.hub_model.specs.Entries.{is_of}
use Rattle.hub_model.proofs.Entries.{entry_here, no_entry, without_absent, without_here}
use Rattle.hub_shared.proofs.outboxes.remove.Goals as goal

pub returns-in_err-at-clause-outbox : goal.returns-in_err-at-clause-outbox
returns-in_err-at-clause-outbox g c =
    let outboxes = c.args.outboxes.now.items in
    let none : position (is_of c.args.feed) outboxes ≡ None =
    rw c.as_slice.ensures.value at (sym c.place_of.ensures ∙ c.in_err-at.was) in
    c.from_residual.ensures ∙ sym (no_entry c.args.feed outboxes none)

pub returns-in_err-at-clause-others : goal.returns-in_err-at-clause-others
returns-in_err-at-clause-others g c =
    let outboxes = c.args.outboxes.now.items in
    let none : position (is_of c.args.feed) outboxes ≡ None =
    rw c.as_slice.ensures.value at (sym c.place_of.ensures ∙ c.in_err-at.was) in
    sym (without_absent c.args.feed outboxes (no_entry c.args.feed outboxes none))

pub returns-clause-outbox : goal.returns-clause-outbox
returns-clause-outbox g c =
    let outboxes = c.args.outboxes.now.items in
    let placed : Some c.in_ok-at.at ≡ position (is_of c.args.feed) outboxes =
    rw c.as_slice.ensures.value at c.in_ok-at.ensures in
    sym (entry_here c.args.feed outboxes c.in_ok-at.at placed c.remove-outbox.result
    c.remove-outbox.ensures.value)

pub returns-clause-others : goal.returns-clause-others
returns-clause-others g c =
    let outboxes = c.args.outboxes.now.items in
    let placed : Some c.in_ok-at.at ≡ position (is_of c.args.feed) outboxes =
    rw c.as_slice.ensures.value at c.in_ok-at.ensures in
    c.remove-outbox.ensures.items
    ∙ without_here c.args.feed outboxes c.in_ok-at.at placed c.remove-outbox.result
    c.remove-outbox.ensures.value c.requires.rising
