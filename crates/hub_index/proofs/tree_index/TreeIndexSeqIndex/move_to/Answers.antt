use Rattle.hub_index.proofs.IndexLemmas.{after_insert, after_remove, index_after}
use Rattle.hub_index.proofs.tree_index.TreeIndexSeqIndex.move_to.Goals as goal

pub returns-in-Some-clause-moved : goal.returns-in-Some-clause-moved
returns-in-Some-clause-moved c =
    after_remove c.args.document c.args.new c.args.self.now _ _ c.self.view_is c.requires.above
    c.in_ok-insert.ensures.entries _ c.args.old c.in-Some.old c.self.invariant c.requires.own c.in-Some.is
    c.remove.ensures.entries

pub returns-in_default-clause-moved : goal.returns-in_default-clause-moved
returns-in_default-clause-moved c =
    after_insert c.args.document c.args.new c.args.self.now _ _ c.self.view_is c.requires.above
    c.in_ok-insert.ensures.entries c.args.old c.requires.own c.in_default.is

pub invariant_of-self-in-Some : goal.invariant_of-self-in-Some
invariant_of-self-in-Some c =
    index_after c.args.document c.args.new c.args.self.now _ _ c.self.view_is c.self.invariant
    c.requires.positive c.requires.above (returns-in-Some-clause-moved c)

pub invariant_of-self-in_default : goal.invariant_of-self-in_default
invariant_of-self-in_default c =
    index_after c.args.document c.args.new c.args.self.now _ _ c.self.view_is c.self.invariant
    c.requires.positive c.requires.above (returns-in_default-clause-moved c)

pub returns-in-Some-clause-index : goal.returns-in-Some-clause-index
returns-in-Some-clause-index c = invariant_of-self-in-Some c

pub returns-in_default-clause-index : goal.returns-in_default-clause-index
returns-in_default-clause-index c = invariant_of-self-in_default c
