use Rattle.std.proofs.Common.{◌∙◌, ap, sym, length, arith}
use Rattle.hub_revtree.specs.Run.{kept_in}
use Rattle.hub_revtree.proofs.RunLemmas.{digest_length, digests_more}
use Rattle.hub_revtree.proofs.run.Run.append_digests.Goals as goal

pub offset_bounds-deref-at : goal.offset_bounds-deref-at
offset_bounds-deref-at c =
    let long =
    digest_length c.args.self.now c.in-Digests.field-0 _ (sym (ap kept_in c.in-Digests.is) ∙ c.self.view_is) in
    omega (arith, c.requires, c.deref.type_inv.1, ap length c.deref.ensures.value, long)

pub slice_bounds-extend_from_slice-count : goal.slice_bounds-extend_from_slice-count
slice_bounds-extend_from_slice-count c =
    let long =
    digest_length c.args.self.now c.in-Digests.field-0 _ (sym (ap kept_in c.in-Digests.is) ∙ c.self.view_is) in
    omega (arith, c.requires, ap length c.deref.ensures.value, long)

pub slice_bounds-extend_from_slice-start : goal.slice_bounds-extend_from_slice-start
slice_bounds-extend_from_slice-start c =
    let long =
    digest_length c.args.self.now c.in-Digests.field-0 _ (sym (ap kept_in c.in-Digests.is) ∙ c.self.view_is) in
    omega (arith, c.requires, ap length c.deref.ensures.value, long)

pub returns-in_ok-extend_from_slice-in-Digests : goal.returns-in_ok-extend_from_slice-in-Digests
returns-in_ok-extend_from_slice-in-Digests c =
    let is = sym (ap kept_in c.in-Digests.is) ∙ c.self.view_is in
    λ _. digests_more c.args.self.now c.in-Digests.field-0 c.in-Digests.all.items
    is c.extend_from_slice.new.self.items c.args.digests.now.items c.deref.result.now c.args.at
    c.deref.ensures.value c.in_ok-extend_from_slice-in-Digests.ensures.items
