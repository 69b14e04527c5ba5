use Rattle.std.proofs.Common.{◌≡◌, ◌-◌, ◌∙◌, ap, drop, length, refl, subst, sym, take, arith}
use Rattle.std.specs.Prelude.{is_some}
use Rattle.std.proofs.lemmas.Option.{slice_get_read}
use Rattle.hub_model.specs.Path.{IsHistory}
use Rattle.hub_revtree.specs.Common.{common}
use Rattle.hub_revtree.specs.Stem.{own_from}
use Rattle.hub_revtree.proofs.BranchLemmas.{some_history}
use Rattle.hub_revtree.proofs.MeetLemmas.{Goes, agree_all, agrees_more, agrees_none, agrees_unknown}
use Rattle.hub_revtree.proofs.MeetLemmas.{agrees_whole, all_agree, differs, some_common, within_common}
use Rattle.hub_revtree.proofs.StemLooks.{stem_read}
use Rattle.hub_revtree.proofs.WalkLemmas.{agrees_shown, common_own, legal_in, low, told_in, stored_by}
use Rattle.hub_revtree.proofs.branches.Branches.new_count.Goals as goal
use Rattle.hub_revtree.proofs.branches.Branches.new_count.Goals.{After-common, In-Some, then-is_none, else-is_none}

-- the path goes on with a stem
goes : (c : In-Some)
    → Goes c.args.self.now.stems c.revisions-revisions.result.now c.loop-at.at c.loop-at.told c.in-Some.place
goes c = record {
  so_far = c.loop-at.invariant.agrees;
  first = c.index-revisions-at.result;
  here =
      slice_get_read c.revisions-revisions.result.now _ c.loop-at.at c.index-revisions-at.result refl
      c.loop-at-test.true c.index-revisions-at.is;
  told = c.in-Some.ensures.told;
  found = c.in-Some.ensures.found;
  within = c.in-Some.ensures.within;
}

pub loop-at-init : goal.loop-at-init
loop-at-init c =
    let s = c.args.self.now in
    let k = stored_by c.self.inside.stems.items _ s c.self.view_is c.self.invariant in
    let r = c.revisions-revisions.result.now in
    let legal = legal_in s k in
    record { agrees = agrees_none s.stems k.stems legal r; kept = omega arith }

pub common-requires : goal.common-requires
common-requires c =
    let s = c.args.self.now in
    let k = stored_by c.self.inside.stems.items _ s c.self.view_is c.self.invariant in
    let stem = c.index-stems-place.result in
    let there =
    stem_read c.self.inside.stems.items c.as_slice-stems.result.now _ s c.in-Some.place stem c.self.view_is
    c.as_slice-stems.ensures.value c.in-Some.ensures.within c.index-stems-place.is in
    omega (
      arith,
      low s k c.in-Some.place c.in-Some.ensures.within stem there,
      c.from.ensures,
      ap length c.run.ensures,
    )

-- how far the path goes with the stem's own revisions
own : (c : After-common)
    → common (take (length c.revisions-revisions.result.now - c.loop-at.at)
    (drop c.loop-at.at c.revisions-revisions.result.now)) (own_from c.args.self.now.stems c.in-Some.place)
    ≡ c.common.result
own c =
    let s = c.args.self.now in
    let k = stored_by c.self.inside.stems.items _ s c.self.view_is c.self.invariant in
    let r = c.revisions-revisions.result.now in
    let stem = c.index-stems-place.result in
    let there =
    stem_read c.self.inside.stems.items c.as_slice-stems.result.now _ s c.in-Some.place stem c.self.view_is
    c.as_slice-stems.ensures.value c.in-Some.ensures.within c.index-stems-place.is in
    common_own s k c.in-Some.place c.in-Some.ensures.within stem there
    (take (length r - c.loop-at.at) (drop c.loop-at.at r)) c.common.result
    (rw (c.from.ensures, c.run.ensures) at c.common.ensures)

pub returns-in_err-count-in-Some-clause-agrees : goal.returns-in_err-count-in-Some-clause-agrees
returns-in_err-count-in-Some-clause-agrees c =
    let s = c.args.self.now in
    let k = stored_by c.self.inside.stems.items _ s c.self.view_is c.self.invariant in
    let r = c.revisions-revisions.result.now in
    let legal = legal_in s k in
    let g = goes (goal.at.returns-in_err-count-in-Some-clause-agrees c).In-Some in
    let one = own (goal.at.returns-in_err-count-in-Some-clause-agrees c).After-common
    ∙ c.in_err-count-in-Some.was in
    agrees_shown s k c.args.path.now r _ c.revisions-revisions.ensures
    (ap is_some c.from_residual.ensures
    ∙ differs s.stems k.stems legal r c.loop-at.at c.loop-at.told c.in-Some.place g
    (subst IsHistory (sym c.revisions-revisions.ensures) c.requires) one)

pub returns-then-count-revisions-clause-agrees : goal.returns-then-count-revisions-clause-agrees
returns-then-count-revisions-clause-agrees c =
    let s = c.args.self.now in
    let k = stored_by c.self.inside.stems.items _ s c.self.view_is c.self.invariant in
    let r = c.revisions-revisions.result.now in
    let legal = legal_in s k in
    let g = goes (goal.at.returns-then-count-revisions-clause-agrees c).In-Some in
    let one = own (goal.at.returns-then-count-revisions-clause-agrees c).After-common
    ∙ c.in_ok-count-in-Some.was in
    agrees_shown s k c.args.path.now r _ c.revisions-revisions.ensures
    (agree_all s.stems k.stems legal r
    (all_agree s.stems k.stems legal r c.loop-at.at c.loop-at.told c.in-Some.place g
    c.in_ok-count-in-Some.count one (omega arith)))

pub overflow_add-at : goal.overflow_add-at
overflow_add-at c =
    let s = c.args.self.now in
    let k = stored_by c.self.inside.stems.items _ s c.self.view_is c.self.invariant in
    let r = c.revisions-revisions.result.now in
    let legal = legal_in s k in
    let g = goes (goal.at.overflow_add-at c).In-Some in
    let one = own (goal.at.overflow_add-at c).After-common ∙ c.in_ok-count-in-Some.was in
    omega (
      arith,
      within_common s.stems k.stems legal r c.loop-at.at c.loop-at.told c.in-Some.place g
          c.in_ok-count-in-Some.count one,
    )

pub loop-at-smaller-in-Some : goal.loop-at-smaller-in-Some
loop-at-smaller-in-Some c =
    let s = c.args.self.now in
    let k = stored_by c.self.inside.stems.items _ s c.self.view_is c.self.invariant in
    let r = c.revisions-revisions.result.now in
    let legal = legal_in s k in
    let g = goes (goal.at.loop-at-smaller-in-Some c).In-Some in
    let one = own (goal.at.loop-at-smaller-in-Some c).After-common ∙ c.in_ok-count-in-Some.was in
    omega (
      arith,
      some_common s.stems k.stems legal r c.loop-at.at c.loop-at.told c.in-Some.place g
          c.in_ok-count-in-Some.count one,
    )

pub loop-at-preserved-in-Some : goal.loop-at-preserved-in-Some
loop-at-preserved-in-Some c =
    let s = c.args.self.now in
    let k = stored_by c.self.inside.stems.items _ s c.self.view_is c.self.invariant in
    let r = c.revisions-revisions.result.now in
    let legal = legal_in s k in
    let g = goes (goal.at.loop-at-preserved-in-Some c).In-Some in
    let one = own (goal.at.loop-at-preserved-in-Some c).After-common ∙ c.in_ok-count-in-Some.was in
    let within =
    within_common s.stems k.stems legal r c.loop-at.at c.loop-at.told c.in-Some.place g
    c.in_ok-count-in-Some.count one in
    let agrees =
    agrees_more s.stems k.stems legal r c.loop-at.at c.loop-at.told c.in-Some.place g
    c.in_ok-count-in-Some.count one c.after-told.result
    (λ z. omega (arith, z, c.if-count-revisions.false)) c.after-told.ensures.within
    (told_in s k c.after-told.result c.in-Some.place c.after-told.ensures) in
    elim c.if-is_none.branch [
      | then-is_none w ↦ record { agrees = agrees; kept = omega (arith, w.kept-is) }
      | else-is_none w ↦ record { agrees = agrees; kept = omega (arith, w.kept-is, c.loop-at.invariant.kept) }
    ]

pub loop-at-preserved : goal.loop-at-preserved
loop-at-preserved c =
    let s = c.args.self.now in
    let k = stored_by c.self.inside.stems.items _ s c.self.view_is c.self.invariant in
    let r = c.revisions-revisions.result.now in
    let legal = legal_in s k in
    record {
      agrees =
          agrees_unknown s.stems k.stems legal r c.loop-at.at c.loop-at.told c.index-revisions-at.result
          c.loop-at.invariant.agrees c.in-None.ensures.told
          (slice_get_read r _ c.loop-at.at c.index-revisions-at.result refl c.loop-at-test.true
          c.index-revisions-at.is) c.in-None.ensures.none;
      kept = omega arith;
    }

pub returns-clause-agrees : goal.returns-clause-agrees
returns-clause-agrees c =
    let s = c.args.self.now in
    let k = stored_by c.self.inside.stems.items _ s c.self.view_is c.self.invariant in
    let r = c.revisions-revisions.result.now in
    let legal = legal_in s k in
    agrees_shown s k c.args.path.now r _ c.revisions-revisions.ensures
    (agrees_whole s.stems k.stems legal r c.loop-at.at c.loop-at.told c.loop-at.invariant.agrees c.loop-at-test.false)

pub returns-then-count-revisions-clause-within : goal.returns-then-count-revisions-clause-within
returns-then-count-revisions-clause-within c =
    let long = ap length c.revisions-revisions.ensures in (
      omega (arith, c.max.ensures),
      omega (arith, long, c.max.ensures, c.loop-at.invariant.kept, c.loop-at-test.true),
    )

pub returns-clause-within : goal.returns-clause-within
returns-clause-within c =
    let long = ap length c.revisions-revisions.ensures in
    let some = some_history c.args.path.now c.requires in
    (omega (arith, long, some), omega (arith, long))
