use Rattle.std.proofs.Common.{[], refl}
use Rattle.std.specs.Prelude.{nat_eq}
use Rattle.std.specs.BTreeMap.{get as ordered_get}
use Rattle.std.specs.HashMap.{get}
use Rattle.hub_model.specs.Revision.{revision_cmp}
use Rattle.hub_revtree.proofs.IndexLemmas.{nothing_linked, nothing_told}
use Rattle.hub_revtree.proofs.index.empty.Goals as goal

pub returns-clause-index : goal.returns-clause-index
returns-clause-index c = (
  nothing_told [] (get nat_eq c.in_ok-stems.stems) (ordered_get revision_cmp c.new.result)
      (λ key. rw c.in_ok-stems.ensures.empty refl) (λ r. rw c.new.ensures.empty refl),
  nothing_linked [] (ordered_get revision_cmp c.new-2.result) (λ r. rw c.new-2.ensures.empty refl),
)
