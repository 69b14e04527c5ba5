use Rattle.std.proofs.Common.{◌∙◌}
use Rattle.hub_filter.proofs.ListedLemmas.{sorted_as, bytes_of_clones}
use Rattle.hub_filter.proofs.doc_ids.DocIds.copy.Goals as goal

pub invariant_of-result-2 : goal.invariant_of-result-2
invariant_of-result-2 c =
    sorted_as c.self.inside.sorted.items _
    (bytes_of_clones _ _ (rw c.deref.ensures.value at c.in_ok-sorted.ensures.ok)) c.self.invariant

pub returns-clause-ok : goal.returns-clause-ok
returns-clause-ok c =
    bytes_of_clones _ _ (rw c.deref.ensures.value at c.in_ok-sorted.ensures.ok) ∙ c.self.view_is
