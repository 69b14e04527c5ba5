use Rattle.std.proofs.Common.{◌≡◌, ◌<◌, ◌≤◌, ◌+◌, length, false, sym, ap, ◌∙◌, subst, refl, arith}
use Rattle.std.proofs.lemmas.Grind.{common_steps}
use Rattle.std.proofs.lemmas.Option.{same_Some}
use Rattle.hub_model.specs.Path.{names}
use Rattle.hub_revtree.specs.Stem.{Stem}
use Rattle.std.specs.Prelude.{Some, slice_get}
use Rattle.hub_revtree.proofs.LinkLemmas.{ends_parent, goes_absent, goes_inner, goes_parent}
use Rattle.hub_revtree.proofs.StemLooks.{read_stem}
use Rattle.hub_revtree.proofs.StepLemmas.{inner_brought, none_own, none_parent, parent_brought}
use Rattle.hub_revtree.proofs.stems.behind_in.Goals as goal
use Rattle.hub_revtree.proofs.stems.behind_in.Goals.{After-run-run}

-- the stem of the number
stem_of : (c : After-run-run) → slice_get c.args.stems.now c.args.number ≡ Some c.index-stems-number.result
stem_of c =
    read_stem c.args.stems.now c.args.number c.index-stems-number.result c.requires.within
    c.index-stems-number.is

pub overflow_add-result : goal.overflow_add-result
overflow_add-result c = omega (arith, c.in_ok-at.ensures.low)

pub returns-in_err-at : goal.returns-in_err-at
returns-in_err-at c =
    let there = stem_of (goal.at.returns-in_err-at c).After-run-run in
    let absent = rw c.run-run.ensures at c.in_err-at.ensures.absent in
    rw c.from_residual.ensures (record {
      found = tt;
      none =
          λ stem r e.
          none_own c.args.stems.now c.requires.stems c.args.number stem e c.args.sought.now
          (subst (λ (z : Stem). names z.revisions c.args.sought.now ≡ false)
          (same_Some c.index-stems-number.result stem (sym there ∙ e)) absent) r;
      goes = tt;
      ends =
          goes_absent c.args.stems.now c.requires.stems c.args.number c.index-stems-number.result
          there c.args.sought.now absent;
    })

pub returns-then-from-len : goal.returns-then-from-len
returns-then-from-len c =
    let xs = c.args.stems.now in
    let stem = c.index-stems-number.result in
    let there = stem_of (goal.at.returns-then-from-len c).After-run-run in
    let at = rw c.run-run.ensures at c.in_ok-at.ensures.found in
    let long = ap length c.run-run.ensures in
    let low : c.in_ok-at.at + 1 < length stem.revisions =
    grind (arith, common_steps, c.if-from-len.true, c.from.ensures, c.len.ensures, long) in
    record {
      found =
          inner_brought xs c.requires.stems c.args.number stem there c.args.sought.now c.in_ok-at.at at
          (record { stem = c.args.number; at = c.in_ok-at.at + 1 }) refl low;
      none = tt;
      goes =
          goes_inner xs c.requires.stems c.args.number stem there c.args.sought.now c.in_ok-at.at at low;
      ends = tt;
    }

pub returns-else-from-len : goal.returns-else-from-len
returns-else-from-len c =
    let xs = c.args.stems.now in
    let stem = c.index-stems-number.result in
    let there = stem_of (goal.at.returns-else-from-len c).After-run-run in
    let at = rw c.run-run.ensures at c.in_ok-at.ensures.found in
    let long = ap length c.run-run.ensures in
    let past : length stem.revisions ≤ c.in_ok-at.at + 1 =
    grind (arith, common_steps, c.if-from-len.false, c.from.ensures, c.len.ensures, long) in
    rw c.parent.ensures (record {
      found =
          parent_brought xs c.requires.stems c.args.number stem there c.args.sought.now c.in_ok-at.at at past;
      none = none_parent xs c.requires.stems c.args.number stem there c.args.sought.now c.in_ok-at.at at past;
      goes = goes_parent xs c.requires.stems c.args.number stem there c.args.sought.now c.in_ok-at.at at;
      ends = ends_parent xs c.requires.stems c.args.number stem there c.args.sought.now c.in_ok-at.at at past;
    })
