use Rattle.std.proofs.Common.{◌∙◌, ap, map, subst, sym}
use Rattle.hub_model.specs.Revision.{Revision}
use Rattle.hub_revtree.specs.Branch.{edits_in}
use Rattle.hub_revtree.specs.Extend.{line_to}
use Rattle.hub_revtree.specs.Index.{IsIndexed, IsNewestLine}
use Rattle.hub_revtree.specs.Stem.{branches_of, revisions_at}
use Rattle.hub_revtree.proofs.StemLooks.{first_there}
use Rattle.hub_revtree.proofs.branches.Branches.newest_line.Goals as goal

pub returns : goal.returns
returns c =
    let stems = c.self.inside.stems.items in
    let indexed = subst (λ o. IsIndexed o stems) (sym c.in_ok-index.ensures) c.self.invariant.2 in
    let newest = subst (λ o. IsNewestLine o stems) (sym c.in_ok-line.ensures.value) indexed.1 in
    let first = sym (rw c.as_slice.ensures.value at c.is_newest.ensures) ∙ c.if-not-is_newest.false in
    rw (sym c.self.view_is)
    (newest
    ∙ ap (λ o. map (λ (revision : Revision). revision.hash) (line_to (edits_in (branches_of stems)) o))
    (first_there 0 (revisions_at stems _) c.args.rev.now first))
