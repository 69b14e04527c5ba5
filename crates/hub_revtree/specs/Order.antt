-- The order of revisions is a total one (own).
use Rattle.std.specs.Ordering.{eq_by_cmp}
use Rattle.std.specs.Cmp.{IsEquivalence, IsTotalOrder, eq_by_cmp_equiv, nat_cmp_total, on_total, then_total}
use Rattle.std.specs.Cmp.Lexicographic.{nat_list_cmp_total}
use Rattle.hub_model.specs.Revision.{Revision, revision_cmp}

-- of any two revisions one is the lesser, or they are level
pub revisions_total : IsTotalOrder revision_cmp
revisions_total =
    then_total (on_total (λ (revision : Revision). revision.generation) nat_cmp_total)
    (on_total (λ (revision : Revision). revision.hash) nat_list_cmp_total)

-- to be level is an equivalence
pub revisions_level : IsEquivalence (eq_by_cmp revision_cmp)
revisions_level = eq_by_cmp_equiv revisions_total
