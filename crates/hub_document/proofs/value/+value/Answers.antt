use Rattle.std.proofs.Common.{◌≡◌, ◌+◌, [], ◌∷◌, Some, drop}
use Rattle.std.proofs.Common.{option_map, string_bytes, sym, ap, ◌∙◌, arith, rules}
use Rattle.std.proofs.lemmas.List.{drop_all, drop_more}
use Rattle.json.specs.Value.{items_view as trees_view, members_view as tree_members_view}
use Rattle.serde_json.specs.Data.{item, put}
use Rattle.serde_json.specs.Read.{of_items, of_members}
use Rattle.serde_json.specs.View.{view, members_view}
use Rattle.serde_json.proofs.Views.{members_view-insert_entry}
use Rattle.hub_document.proofs.ValueLemmas.{items_before, items_before-no_items, item_read, member_read}
use Rattle.hub_document.proofs.ValueLemmas.{one_more_item}
use Rattle.hub_document.proofs.value.+value.Goals as goal

pub items_of-loop-tree-preserved : goal.items_of-loop-tree-preserved
items_of-loop-tree-preserved t c =
    let l = c.loop-tree in
    let trees = c.deref-tree-items.result.now in
    let tree = c.tree-item.result in
    let rest = drop (l.tree-index + 1) trees in
    let here : drop l.tree-index trees ≡ tree ∷ rest =
    drop_more trees l.tree-index tree (omega arith) ∙ ap (λ y. y ∷ rest) (sym c.tree-item.is) in
    let made = c.in_ok-item.item in
    let read : of_items (trees_view (tree ∷ rest)) ≡ option_map (item (view made))
    (of_items (trees_view rest)) =
    item_read tree rest (view made) c.in_ok-item.ensures.ok in
    l.invariant ∙ ap (λ ts. option_map (items_before l.items.items) (of_items (trees_view ts))) here
    ∙ ap (option_map (items_before l.items.items)) read
    ∙ one_more_item l.items.items made (of_items (trees_view rest))
    ∙ ap (λ vs. option_map (items_before vs) (of_items (trees_view rest))) (sym c.in-Ok.ensures.items)

pub items_of-returns-clause-ok : goal.items_of-returns-clause-ok
items_of-returns-clause-ok t c =
    let l = c.loop-tree in
    let trees = c.deref-tree-items.result.now in
    let none : drop l.tree-index trees ≡ [] = drop_all l.tree-index trees (omega arith) in
    ap (λ ts. of_items (trees_view ts)) (sym c.deref-tree-items.ensures.value) ∙ l.invariant
    ∙ ap (λ ts. option_map (items_before l.items.items) (of_items (trees_view ts))) none
    ∙ ap Some (items_before-no_items l.items.items)

pub members_of-loop-tree-preserved : goal.members_of-loop-tree-preserved
members_of-loop-tree-preserved t c =
    let l = c.loop-tree in
    let trees = c.deref-tree-items.result.now in
    let tree = c.tree-item.result in
    let rest = drop (l.tree-index + 1) trees in
    let here : drop l.tree-index trees ≡ tree ∷ rest =
    drop_more trees l.tree-index tree (omega arith) ∙ ap (λ y. y ∷ rest) (sym c.tree-item.is) in
    let found = members_view l.members.entries in
    let made = c.in_ok-member.member in
    let copied : string_bytes c.in_ok-name.name ≡ tree.0.now = search rules in
    let inserted : members_view c.insert.new.self.entries ≡ put tree.0.now (view made) found =
    ap members_view c.in-Ok.ensures.entries
    ∙ members_view-insert_entry l.members.entries c.in_ok-name.name made
    ∙ ap (λ name. put name (view made) found) copied in
    l.invariant ∙ ap (λ ts. of_members (tree_members_view ts) found) here
    ∙ member_read tree rest found (view made) c.in_ok-member.ensures.ok
    ∙ ap (of_members (tree_members_view rest)) (sym inserted)
