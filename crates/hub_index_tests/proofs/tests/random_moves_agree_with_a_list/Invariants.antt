use Rattle.std.proofs.Common.{◌≡◌, ◌<◌}
use Rattle.std.specs.List.{All}
use Rattle.hub_index_tests.proofs.tests.random_moves_agree_with_a_list.Given as goal

abbrev pub invariant-loop-new : goal.invariant-loop-new
invariant-loop-new g l = record {
  same : l.index ≡ l.plain.items;
  below : All (λ r. r.0 < l.new) l.plain.items;
}
