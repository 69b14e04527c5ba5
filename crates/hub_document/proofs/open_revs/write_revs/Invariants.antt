use Rattle.std.proofs.Common.{◌≡◌, drop, is_some}
use Rattle.serde_json.specs.View.{items_view}
use Rattle.hub_document.specs.Asking.{revs_of}
use Rattle.hub_document.proofs.open_revs.write_revs.Given as goal

abbrev pub invariant-loop-item : goal.invariant-loop-item
invariant-loop-item l =
    is_some (revs_of (items_view l.item-items))
    ≡ is_some (revs_of (items_view (drop l.item-index l.item-items)))
