use Rattle.std.proofs.Common.{◌∷◌, ◌∙◌, ap, refl, take}
use Rattle.hub_revtree.specs.Run.{revisions_from}
use Rattle.hub_revtree.proofs.RunLemmas.{digests_cut, take_least}
use Rattle.hub_revtree.proofs.run.cut_kept.Goals as goal

pub returns-in-Digests : goal.returns-in-Digests
returns-in-Digests c =
    let newest = c.in-Digests.newest in
    let digests = c.in-Digests.digests.items in
    rw c.in-Digests.is
    (ap (revisions_from newest) c.cut_list.ensures
    ∙ digests_cut (revisions_from newest digests) newest digests refl c.args.count)

pub returns-in-Shared : goal.returns-in-Shared
returns-in-Shared c =
    let newest = c.in-Shared.newest in
    let all = c.in-Shared.digest ∷ c.in-Shared.line in
    let most = take c.in-Shared.most all in
    rw c.in-Shared.is (
    ap (λ k. revisions_from newest (take k all)) c.least.ensures
    ∙ ap (revisions_from newest) (take_least c.args.count c.in-Shared.most all)
    ∙ digests_cut (revisions_from newest most) newest most refl c.args.count
    )
