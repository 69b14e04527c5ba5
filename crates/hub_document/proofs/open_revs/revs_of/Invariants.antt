use Rattle.std.proofs.Common.{◌≡◌, ◌++◌, drop, option_map}
use Rattle.serde_json.specs.View.{items_view}
use Rattle.hub_document.specs.Asking.{revs_of}
use Rattle.hub_document.proofs.open_revs.revs_of.Given as goal

abbrev pub invariant-loop-item : goal.invariant-loop-item
invariant-loop-item l =
    revs_of (items_view l.item-items)
    ≡ option_map (λ rs. l.list.items ++ rs) (revs_of (items_view (drop l.item-index l.item-items)))
