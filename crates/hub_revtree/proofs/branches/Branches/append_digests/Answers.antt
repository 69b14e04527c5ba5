use Rattle.std.proofs.Common.{◌++◌, ◌∙◌, ap, append_assoc, map, sym}
use Rattle.std.proofs.lemmas.List.{map-append}
use Rattle.hex.specs.Hex.{encode_lower}
use Rattle.hub_model.specs.Revision.{Revision}
use Rattle.hub_revtree.specs.Branch.{edits_in}
use Rattle.hub_revtree.specs.Extend.{line_to}
use Rattle.hub_revtree.specs.Stem.{own_from, rev_at}
use Rattle.hub_revtree.proofs.StemLooks.{stem_read}
use Rattle.hub_revtree.proofs.WalkLemmas.{begins_within, line_begins, line_less, line_step, own_is}
use Rattle.hub_revtree.proofs.branches.Branches.append_digests.Goals as goal

pub loop-next-init : goal.loop-next-init
loop-next-init c =
    let s = c.args.self.now in
    let k = c.place-next.ensures.stored in
    record {
      within = begins_within s k c.args.rev.now c.place-next.result c.place-next.ensures.place;
      whole =
          ap (λ z. map encode_lower c.args.digests.now.items ++ map (λ (revision : Revision). revision.hash) z)
          (line_begins s k c.args.rev.now c.place-next.result c.place-next.ensures.place);
    }

pub after-next-requires : goal.after-next-requires
after-next-requires c = rw c.in-Some.is at c.loop-next.invariant.within

pub loop-next-smaller : goal.loop-next-smaller
loop-next-smaller c =
    let s = c.args.self.now in
    let k = c.place-next.ensures.stored in
    line_less s k c.loop-next.next c.after-next.result c.in-Some.place c.in-Some.is
    (rw c.in-Some.is at c.loop-next.invariant.within) c.after-next.ensures

pub loop-next-preserved : goal.loop-next-preserved
loop-next-preserved c =
    let s = c.args.self.now in
    let k = c.place-next.ensures.stored in
    let w = rw c.in-Some.is at c.loop-next.invariant.within in
    let stem = c.index-stems-place.result in
    let there =
    stem_read c.self.inside.stems.items c.as_slice-stems.result.now _ s c.in-Some.place stem c.self.view_is
    c.as_slice-stems.ensures.value w c.index-stems-place.is in
    let own = own_from s.stems c.in-Some.place in
    let rest = line_to (edits_in s.list) (rev_at s.stems c.after-next.result) in
    record {
      within = c.after-next.ensures.within;
      whole =
          ap (λ z. z ++ map (λ (revision : Revision). revision.hash) rest)
          (rw (c.from.ensures, c.run-run.ensures) at (c.in_ok-append_digests.ensures c.if-not-branch.false)
          ∙ ap (λ z. map encode_lower c.loop-next.digests.items ++ map (λ (revision : Revision). revision.hash) z)
          (sym (own_is s k c.in-Some.place w stem there)))
          ∙ append_assoc (map encode_lower c.loop-next.digests.items)
          (map (λ (revision : Revision). revision.hash) own)
          (map (λ (revision : Revision). revision.hash) rest)
          ∙ ap (λ z. map encode_lower c.loop-next.digests.items ++ z)
          (sym (map-append (λ (revision : Revision). revision.hash) own rest)
          ∙ ap (map (λ (revision : Revision). revision.hash))
          (sym (line_step s k c.loop-next.next c.after-next.result c.in-Some.place c.in-Some.is w
          c.after-next.ensures)))
          ∙ c.loop-next.invariant.whole;
    }
