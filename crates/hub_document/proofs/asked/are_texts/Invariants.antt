use Rattle.std.proofs.Common.{◌≡◌, drop}
use Rattle.serde_json.specs.View.{items_view}
use Rattle.hub_document.specs.Asking.{are_texts}
use Rattle.hub_document.proofs.asked.are_texts.Given as goal

abbrev pub invariant-loop-item : goal.invariant-loop-item
invariant-loop-item l =
    are_texts (items_view l.item-items) ≡ are_texts (items_view (drop l.item-index l.item-items))
