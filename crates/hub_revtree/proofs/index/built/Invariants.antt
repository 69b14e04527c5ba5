use Rattle.std.proofs.Common.{◌≡◌, None, take}
use Rattle.hub_revtree.specs.Index.{IsIndex}
use Rattle.hub_revtree.proofs.index.built.Given as goal

abbrev pub invariant-loop-count : goal.invariant-loop-count
invariant-loop-count l = record {
  index : IsIndex l.index (take l.count l.stems);
  candidates : l.index.candidates ≡ None;
}
