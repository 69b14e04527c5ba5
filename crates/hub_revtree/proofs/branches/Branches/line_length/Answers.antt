use Rattle.std.proofs.Common.{◌≡◌, ◌<◌, ◌+◌, ◌-◌, ◌∙◌, ap, length, arith}
use Rattle.std.proofs.lemmas.List.{length-drop}
use Rattle.std.specs.Prelude.{Some}
use Rattle.hub_revtree.specs.Branch.{edits_in}
use Rattle.hub_revtree.specs.Extend.{line_to}
use Rattle.hub_revtree.specs.Stem.{own_from, rev_at}
use Rattle.hub_revtree.proofs.StemLooks.{stem_read}
use Rattle.hub_revtree.proofs.WalkLemmas.{begins_within, few_in, line_begins, line_less, line_long, low}
use Rattle.hub_revtree.proofs.WalkLemmas.{own_is, whole_long}
use Rattle.hub_revtree.proofs.branches.Branches.line_length.Goals as goal
use Rattle.hub_revtree.proofs.branches.Branches.line_length.Goals.{After-from, After-reach_from}

pub loop-next-init : goal.loop-next-init
loop-next-init c =
    let s = c.args.self.now in
    let k = c.place-next.ensures.stored in
    let begins =
    line_begins s k c.args.rev.now c.place-next.result c.place-next.ensures.place in
    record {
      within = begins_within s k c.args.rev.now c.place-next.result c.place-next.ensures.place;
      whole = omega (arith, ap length begins);
    }

pub reach_from-requires : goal.reach_from-requires
reach_from-requires c = rw c.in-Some.is at c.loop-next.invariant.within

-- the length so far, and that of the whole chain from the place
whole : (c : After-reach_from) → c.loop-next.count + c.reach_from.result
    ≡ length (line_to (edits_in c.args.self.now.list) (Some c.args.rev.now))
whole c =
    let s = c.args.self.now in
    let k = c.place-next.ensures.stored in
    let w = rw c.in-Some.is at c.loop-next.invariant.within in
    let stem = c.index-stems-place.result in
    let there =
    stem_read c.self.inside.stems.items c.as_slice-stems.result.now _ s c.in-Some.place stem c.self.view_is
    c.as_slice-stems.ensures.value w c.index-stems-place.is in
    let long =
    whole_long s k c.in-Some.place w stem there c.loop-next.next c.generation.result c.in-Some.is
    (rw c.run.ensures at c.generation.ensures) (c.if-generation-reach.true ∙ c.reach.ensures) in
    omega (arith, long, c.reach_from.ensures, c.loop-next.invariant.whole)

pub overflow_add-result : goal.overflow_add-result
overflow_add-result c =
    let all = whole (goal.at.overflow_add-result c).After-reach_from in
    let few = few_in c.args.self.now c.place-next.ensures.stored c.args.rev.now in
    omega (arith, all, few, c.place-next.ensures.low)

pub overflow_cast-result : goal.overflow_cast-result
overflow_cast-result c =
    let all = whole (goal.at.overflow_cast-result c).After-reach_from in
    let few = few_in c.args.self.now c.place-next.ensures.stored c.args.rev.now in
    omega (arith, all, few, c.place-next.ensures.low)

pub returns-then-generation-reach : goal.returns-then-generation-reach
returns-then-generation-reach c = whole (goal.at.returns-then-generation-reach c).After-reach_from

-- the stem has a revision at the place, and from there on the rest of the line
step : (c : After-from) → (c.from.result < c.len.result)
    × (c.loop-next.count + (c.len.result - c.from.result)
    + length (line_to (edits_in c.args.self.now.list) (rev_at c.args.self.now.stems c.after-next.result))
    ≡ length (line_to (edits_in c.args.self.now.list) (Some c.args.rev.now)))
step c =
    let s = c.args.self.now in
    let k = c.place-next.ensures.stored in
    let w = rw c.in-Some.is at c.loop-next.invariant.within in
    let stem = c.index-stems-place.result in
    let there =
    stem_read c.self.inside.stems.items c.as_slice-stems.result.now _ s c.in-Some.place stem c.self.view_is
    c.as_slice-stems.ensures.value w c.index-stems-place.is in
    let some = low s k c.in-Some.place w stem there in
    let size : length (own_from s.stems c.in-Some.place) ≡ length stem.revisions - c.in-Some.place.at =
    ap length (own_is s k c.in-Some.place w stem there) ∙ length-drop c.in-Some.place.at stem.revisions in
    let long =
    line_long s k c.loop-next.next c.after-next.result c.in-Some.place c.in-Some.is w c.after-next.ensures in
    let many = ap length c.run-in-Some.ensures in (
      omega (arith, some, c.from.ensures, c.len.ensures, many),
      omega (arith, long, size, some, c.from.ensures, c.len.ensures, many, c.loop-next.invariant.whole),
    )

pub overflow_sub-count : goal.overflow_sub-count
overflow_sub-count c =
    let more = (step (goal.at.overflow_sub-count c).After-from).0 in omega (arith, more)

pub overflow_add-count : goal.overflow_add-count
overflow_add-count c =
    let all = (step (goal.at.overflow_add-count c).After-from).1 in
    let few = few_in c.args.self.now c.place-next.ensures.stored c.args.rev.now in
    omega (arith, all, few, c.place-next.ensures.low)

pub after-next-requires : goal.after-next-requires
after-next-requires c = rw c.in-Some.is at c.loop-next.invariant.within

pub loop-next-smaller : goal.loop-next-smaller
loop-next-smaller c =
    line_less c.args.self.now c.place-next.ensures.stored c.loop-next.next c.after-next.result c.in-Some.place
    c.in-Some.is (rw c.in-Some.is at c.loop-next.invariant.within) c.after-next.ensures

pub loop-next-preserved : goal.loop-next-preserved
loop-next-preserved c = record {
  within = c.after-next.ensures.within;
  whole = (step (goal.at.loop-next-preserved c).After-from).1;
}

pub overflow_cast-result-2 : goal.overflow_cast-result-2
overflow_cast-result-2 c =
    let few = few_in c.args.self.now c.place-next.ensures.stored c.args.rev.now in
    omega (arith, c.loop-next.invariant.whole, few, c.place-next.ensures.low)
