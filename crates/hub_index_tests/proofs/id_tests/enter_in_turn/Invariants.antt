use Rattle.std.proofs.Common.{map, string_bytes}
use Rattle.hub_index.specs.Order.{IsOrder}
use Rattle.hub_index_tests.proofs.id_tests.enter_in_turn.Given as goal

abbrev pub invariant-loop-number : goal.invariant-loop-number
invariant-loop-number l = IsOrder (map string_bytes l.ids.list.items) l.order
