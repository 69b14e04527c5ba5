use Rattle.std.proofs.Common.{◌≡◌, ◌+◌, ◌≤◌}
use Rattle.std.specs.List.{All}
use Rattle.hub_index_tests.proofs.page_tests.move_in_order.Given as goal

abbrev pub invariant-loop-at : goal.invariant-loop-at
invariant-loop-at l = record {
  same : l.index ≡ l.plain.items;
  below : All (λ r. r.0 ≤ l.from + l.at) l.plain.items;
}
