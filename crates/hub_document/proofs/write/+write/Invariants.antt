use Rattle.std.proofs.Common.{◌≡◌, ◌++◌, drop, false}
use Rattle.json.specs.Tree.{items_tokens, members_tokens}
use Rattle.serde_json.specs.View.{items_view, members_view}
use Rattle.serde_json.specs.Written.{items_have_float, members_have_float, items_outline, members_outline}
use Rattle.hub_document.proofs.write.+write.Given as goal

abbrev pub invariant-write_items-loop-item : goal.invariant-write_items-loop-item
invariant-write_items-loop-item l = record {
  text : l.initial.out.tokens ++ items_tokens (items_outline (items_view l.items.items))
      ≡ l.out.tokens ++ items_tokens (items_outline (items_view (drop l.item-index l.item-items)));
  whole : items_have_float (items_view (drop l.item-index l.item-items)) ≡ false;
  before : l.out.before ≡ l.initial.out.before;
}

abbrev pub invariant-write_members-loop-key : goal.invariant-write_members-loop-key
invariant-write_members-loop-key l = record {
  text : l.initial.out.tokens ++ members_tokens (members_outline (members_view l.members.entries))
      ≡ l.out.tokens ++ members_tokens (members_outline (members_view l.key-iterator));
  whole : members_have_float (members_view l.key-iterator) ≡ false;
  before : l.out.before ≡ l.initial.out.before;
}
