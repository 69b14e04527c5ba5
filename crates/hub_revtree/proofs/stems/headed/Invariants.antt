use Rattle.std.proofs.Common.{◌≡◌, false, drop}
use Rattle.std.specs.List.{list_any}
use Rattle.hub_model.specs.Path.{is_first}
use Rattle.hub_revtree.proofs.stems.headed.Given as goal

abbrev pub invariant-loop-number : goal.invariant-loop-number
invariant-loop-number l = list_any (λ s. is_first l.rev s.revisions) (drop l.number l.stems) ≡ false
