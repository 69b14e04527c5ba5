use Rattle.std.proofs.Common.{◌≡◌, ◌++◌, drop, map, option_map, string_bytes}
use Rattle.serde_json.specs.View.{items_view}
use Rattle.hub_params.specs.ListedIds.{texts_of}
use Rattle.hub_params.proofs.listed_ids.texts_of.Given as goal

abbrev pub invariant-loop-value : goal.invariant-loop-value
invariant-loop-value l =
    texts_of (items_view l.value-items)
    ≡ option_map (λ texts. map string_bytes l.texts.items ++ texts)
    (texts_of (items_view (drop l.value-index l.value-items)))
