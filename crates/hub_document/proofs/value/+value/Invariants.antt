use Rattle.std.proofs.Common.{◌≡◌, drop, option_map}
use Rattle.json.specs.Value.{items_view as trees_view, members_view as tree_members_view}
use Rattle.serde_json.specs.Data.{no_members}
use Rattle.serde_json.specs.Read.{of_items, of_members}
use Rattle.serde_json.specs.View.{members_view}
use Rattle.hub_document.proofs.ValueLemmas.{items_before}
use Rattle.hub_document.proofs.value.+value.Given as goal

abbrev pub invariant-items_of-loop-tree : goal.invariant-items_of-loop-tree
invariant-items_of-loop-tree l =
    of_items (trees_view l.tree-items)
    ≡ option_map (items_before l.items.items) (of_items (trees_view (drop l.tree-index l.tree-items)))

abbrev pub invariant-members_of-loop-tree : goal.invariant-members_of-loop-tree
invariant-members_of-loop-tree l =
    of_members (tree_members_view l.tree-items) no_members
    ≡ of_members (tree_members_view (drop l.tree-index l.tree-items)) (members_view l.members.entries)
