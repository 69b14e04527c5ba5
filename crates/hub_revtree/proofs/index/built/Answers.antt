use Rattle.std.proofs.Common.{◌+◌, ◌∙◌, sym, subst, arith}
use Rattle.std.proofs.lemmas.List.{length-take}
use Rattle.hub_revtree.specs.Index.{IsIndex}
use Rattle.hub_revtree.proofs.CountLemmas.{are_taken}
use Rattle.hub_revtree.proofs.IndexLemmas.{one_shorter}
use Rattle.hub_revtree.proofs.index.built.Goals as goal

pub add-requires : goal.add-requires
add-requires c = record {
  stems = are_taken (c.loop-count.count + 1) c.args.stems.now c.requires;
  some = omega (
    arith,
    length-take (c.loop-count.count + 1) c.args.stems.now,
    c.loop-count-test.true,
  );
  index =
      subst (IsIndex c.loop-count.index)
      (sym (one_shorter c.args.stems.now c.loop-count.count (omega (arith, c.loop-count-test.true))))
      c.loop-count.invariant.index;
}

pub loop-count-init : goal.loop-count-init
loop-count-init c = record {
  index = c.in_ok-index.ensures.index;
  candidates = c.in_ok-index.ensures.candidates;
}

pub loop-count-preserved : goal.loop-count-preserved
loop-count-preserved c = record {
  index = c.in_ok-add.ensures.index;
  candidates = c.add.ensures.candidates ∙ c.loop-count.invariant.candidates;
}
