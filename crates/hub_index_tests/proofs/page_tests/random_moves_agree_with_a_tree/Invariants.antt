use Rattle.std.proofs.Common.{◌≡◌, ◌*◌, ◌<◌}
use Rattle.std.specs.List.{All}
use Rattle.hub_index_tests.proofs.page_tests.random_moves_agree_with_a_tree.Given as goal

abbrev pub invariant-loop-step : goal.invariant-loop-step
invariant-loop-step g l = record {
  tree : l.tree ≡ l.plain.items;
  pages : l.pages ≡ l.plain.items;
  below : All (λ r. r.0 < 20 * l.step) l.plain.items;
}
