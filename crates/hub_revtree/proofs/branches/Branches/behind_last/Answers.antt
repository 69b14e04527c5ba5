use Rattle.std.proofs.Common.{◌≡◌, ◌∙◌, ◌-◌, length, sym, ap, subst}
use Rattle.std.specs.Prelude.{Some, slice_get}
use Rattle.hub_revtree.specs.Stem.{IsFoundBehind}
use Rattle.hub_revtree.proofs.BringLemmas.{last_at, last_place, nothing_first}
use Rattle.hub_revtree.proofs.branches.Branches.behind_last.Goals as goal

pub returns-then-count-from : goal.returns-then-count-from
returns-then-count-from c =
    let long : length c.args.run.now ≡ c.generation.result =
    sym c.len-count.ensures ∙ (c.if-count-from.true ∙ c.from.ensures) in
    rw (sym c.self.view_is) (λ x last. record {
      place = tt;
      none = λ r. nothing_first c.self.inside.stems.items c.self.invariant.0 c.self.invariant.5 c.args.run.now
          c.generation.result c.requires c.generation.ensures long x r last;
    })

pub returns : goal.returns
returns c =
    let at : slice_get c.args.run.now (length c.args.run.now - 1) ≡ Some c.at.result =
    ap (λ n. slice_get c.args.run.now (n - 1)) (sym c.len-count.ensures) ∙ c.at.ensures in
    rw (sym c.self.view_is) (λ x last.
    let same =
    last_at c.args.run.now (length c.args.run.now - 1) c.at.result x (last_place c.args.run.now c.requires) at
    last in
    subst (λ r. IsFoundBehind c.self.inside.stems.items r c.place_behind.result) same (record {
      place = rw c.as_slice-stems.ensures.value at c.place_behind.ensures.found;
      none = rw c.as_slice-stems.ensures.value at c.place_behind.ensures.none;
    }))
