use Rattle.std.proofs.Common.{◌≡◌, ◌∙◌, sym, subst, true}
use Rattle.std.specs.List.{list_any}
use Rattle.hub_shared.specs.Stored.{is_stored}
use Rattle.hub_databases.proofs.StoredLemmas.{stored_told}
use Rattle.hub_databases.proofs.hub.Hub.note_batch.Goals as goal

pub returns-then-has_stored-clause-lapsed : goal.returns-then-has_stored-clause-lapsed
returns-then-has_stored-clause-lapsed g c some =
    stored_told c.args.batch.replies
    (subst (λ replies. list_any is_stored replies ≡ true) c.as_slice.ensures
    (sym c.has_stored.ensures ∙ c.if-has_stored.true))
