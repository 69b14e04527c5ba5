use Rattle.hub_revtree.proofs.index.begun.Goals as goal

pub returns-in-Ok-clause-index : goal.returns-in-Ok-clause-index
returns-in-Ok-clause-index c = rw c.deref_mut.ensures.value c.in-Ok.ensures.index
