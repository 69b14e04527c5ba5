use Rattle.hub_revtree.proofs.branches.without_line.Goals as goal

pub returns-in-Some-clause-index : goal.returns-in-Some-clause-index
returns-in-Some-clause-index c = λ stems i.
    let own = rw c.in-Some.is at i in
    rw c.deref_mut.ensures.value (own.0, tt)
