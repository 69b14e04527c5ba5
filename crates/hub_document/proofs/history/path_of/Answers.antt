use Rattle.std.proofs.Common.{sym, ◌∙◌}
use Rattle.serde_json.specs.View.{view}
use Rattle.hub_document.proofs.PathLemmas.{history_is_path}
use Rattle.hub_document.proofs.history.path_of.Goals as goal

pub new-requires : goal.new-requires
new-requires c =
    history_is_path (view c.in-Some.history.now) c.in-Some-2.revisions.items
    (sym c.in-Some-start_of.ensures.some ∙ sym (rw c.in-Some-2.is at c.in_ok-revisions.ensures))
