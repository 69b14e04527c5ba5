use Rattle.std.proofs.Common.{◌≡◌, suc, ap, length, arith}
use Rattle.std.specs.Prelude.{Some}
use Rattle.std.proofs.lemmas.Option.{slice_get_within}
use Rattle.hub_revtree.specs.Stem.{chain_from, chains_of, has_revision}
use Rattle.hub_revtree.proofs.StemLemmas.{first_from, none_more}
use Rattle.hub_revtree.proofs.branches.Branches.met_by.Goals as goal

pub loop-at-smaller-in-Some : goal.loop-at-smaller-in-Some
loop-at-smaller-in-Some c =
    let s = c.args.self.now in
    let k = c.in-Some.ensures.stored in
    let f = first_from s.stems c.in-Some.place c.in-Some.ensures.place.0 k.stems
    c.in-Some.ensures.place.2.found in
    let long : length (chain_from (chains_of s.stems) (Some c.in-Some.place)) ≡ suc (length f.0) =
    ap length f.1 in
    omega (arith, long, c.reach_from-behind.ensures)

pub loop-at-preserved : goal.loop-at-preserved
loop-at-preserved c = record {
  kept =
      let low = slice_get_within c.args.path.now c.loop-at.at c.in-None.ensures.place.0 c.in-None.ensures.place.1 in omega (arith, low);
  fresh = λ j. none_more (has_revision c.args.self.now.stems) c.args.path.now c.loop-at.at c.in-None.ensures.place.0
      c.in-None.ensures.place.1 (c.loop-at.invariant.fresh j) c.in-None.ensures.place.2.none;
}
