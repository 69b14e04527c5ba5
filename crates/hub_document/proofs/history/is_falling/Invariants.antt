use Rattle.std.proofs.Common.{◌≡◌, drop, is_some}
use Rattle.serde_json.specs.View.{items_view}
use Rattle.hub_document.specs.Histories.{falling}
use Rattle.hub_document.proofs.history.is_falling.Given as goal

abbrev pub invariant-loop-id : goal.invariant-loop-id
invariant-loop-id l =
    is_some (falling l.start (items_view l.id-items))
    ≡ is_some (falling l.left (items_view (drop l.id-index l.id-items)))
