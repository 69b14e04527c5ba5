use Rattle.std.proofs.Common.{◌≡◌, ◌++◌}
use Rattle.hub_model.specs.RightlyHanded.{rows_of}
use Rattle.hub_follower.proofs.handed.rows_of.Given as goal

-- the rows are those of the items so far
abbrev pub invariant-loop-item : goal.invariant-loop-item
invariant-loop-item l = record {
  made : l.rows.items ≡ rows_of l.yielded;
  items : l.yielded ++ l.item-iterator.rest.items ≡ l.fn.items.items;
}
