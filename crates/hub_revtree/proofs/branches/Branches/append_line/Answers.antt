use Rattle.std.proofs.Common.{◌++◌, ◌∙◌, ap, append_assoc, sym}
use Rattle.hub_revtree.specs.Branch.{edits_in}
use Rattle.hub_revtree.specs.Extend.{line_to}
use Rattle.hub_revtree.specs.Stem.{own_from, rev_at}
use Rattle.hub_revtree.proofs.StemLooks.{stem_read}
use Rattle.hub_revtree.proofs.WalkLemmas.{begins_within, line_begins, line_less, line_step, own_is}
use Rattle.hub_revtree.proofs.branches.Branches.append_line.Goals as goal

pub loop-next-init : goal.loop-next-init
loop-next-init c =
    let s = c.args.self.now in
    let k = c.place-next.ensures.stored in
    record {
      within = begins_within s k c.args.rev.now c.place-next.result c.place-next.ensures.place;
      whole = ap (λ z. c.args.line.now.items ++ z)
          (line_begins s k c.args.rev.now c.place-next.result c.place-next.ensures.place);
    }

pub after-next-requires : goal.after-next-requires
after-next-requires c = rw c.in-Some.is at c.loop-next.invariant.within

pub loop-next-smaller : goal.loop-next-smaller
loop-next-smaller c =
    let s = c.args.self.now in
    let k = c.place-next.ensures.stored in
    line_less s k c.loop-next.next c.after-next.result c.in-Some.place c.in-Some.is
    (rw c.in-Some.is at c.loop-next.invariant.within) c.after-next.ensures

pub loop-next-preserved : goal.loop-next-preserved
loop-next-preserved c =
    let s = c.args.self.now in
    let k = c.place-next.ensures.stored in
    let w = rw c.in-Some.is at c.loop-next.invariant.within in
    let stem = c.index-stems-place.result in
    let there =
    stem_read c.self.inside.stems.items c.as_slice-stems.result.now _ s c.in-Some.place stem c.self.view_is
    c.as_slice-stems.ensures.value w c.index-stems-place.is in
    let rest = line_to (edits_in s.list) (rev_at s.stems c.after-next.result) in
    record {
      within = c.after-next.ensures.within;
      whole =
          ap (λ z. z ++ rest)
          (rw (c.from.ensures, c.run-run.ensures) at c.in_ok-append_from.ensures
          ∙ ap (λ z. c.loop-next.line.items ++ z) (sym (own_is s k c.in-Some.place w stem there)))
          ∙ append_assoc c.loop-next.line.items (own_from s.stems c.in-Some.place) rest
          ∙ ap (λ z. c.loop-next.line.items ++ z)
          (sym (line_step s k c.loop-next.next c.after-next.result c.in-Some.place c.in-Some.is w
          c.after-next.ensures))
          ∙ c.loop-next.invariant.whole;
    }
