use Rattle.std.proofs.Common.{◌≡◌, ◌++◌, drop}
use Rattle.serde_json.specs.View.{items_view}
use Rattle.hub_service.specs.Bulk.{readings, read_docs, faults_of}
use Rattle.hub_service.proofs.bulk.read_elements.Given as goal

abbrev pub invariant-loop-element : goal.invariant-loop-element
invariant-loop-element l =
    (read_docs (readings l.fn.new_edits (items_view l.elements))
    ≡ l.docs.items ++ read_docs (readings l.fn.new_edits (items_view (drop l.element-index l.elements))))
    × (faults_of (readings l.fn.new_edits (items_view l.elements))
    ≡ l.faults.items ++ faults_of (readings l.fn.new_edits (items_view (drop l.element-index l.elements))))
