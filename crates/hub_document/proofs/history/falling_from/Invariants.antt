use Rattle.std.proofs.Common.{◌≡◌, ◌++◌, drop, option_map}
use Rattle.serde_json.specs.View.{items_view}
use Rattle.hub_document.specs.Histories.{falling}
use Rattle.hub_document.proofs.history.falling_from.Given as goal

abbrev pub invariant-loop-id : goal.invariant-loop-id
invariant-loop-id l =
    falling l.start (items_view l.id-items)
    ≡ option_map (λ rs. l.revisions.items ++ rs) (falling l.left (items_view (drop l.id-index l.id-items)))
