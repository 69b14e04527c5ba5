use Rattle.std.proofs.Common.{◌≡◌, ◌≤◌, drop, map}
use Rattle.hub_model.specs.Path.{names}
use Rattle.hub_revtree.specs.Mark.{Notes, plain}
use Rattle.hub_revtree.proofs.inner.note_joined.Given as goal

abbrev pub invariant-loop-at : goal.invariant-loop-at
invariant-loop-at l = record {
  low : 1 ≤ l.at;
  plain : map plain l.stems ≡ map plain l.initial.stems;
  noted : Notes l.initial.stems (λ r. names (drop l.at l.run) r) l.stems;
}
