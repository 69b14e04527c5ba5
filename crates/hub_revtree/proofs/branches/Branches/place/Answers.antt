use Rattle.std.proofs.Common.{◌∙◌, sym, arith}
use Rattle.hub_revtree.proofs.HighestLemmas.{above_none}
use Rattle.hub_revtree.proofs.JoinLemmas.{is_placed}
use Rattle.hub_revtree.proofs.StemLemmas.{named_in}
use Rattle.hub_revtree.proofs.WalkLemmas.{stored_by}
use Rattle.hub_revtree.proofs.branches.Branches.place.Goals as goal

pub returns-then-generation-self-clause-named : goal.returns-then-generation-self-clause-named
returns-then-generation-self-clause-named c =
    rw (sym c.self.view_is)
    (sym (named_in c.self.inside.stems.items c.self.invariant.0 c.args.rev.now
    ∙ above_none c.self.inside.stems.items c.self.inside.highest c.self.invariant.1 c.args.rev.now
    (omega (arith, c.if-generation-self.true, c.generation.ensures.value))))

pub returns-clause-named : goal.returns-clause-named
returns-clause-named c =
    rw (sym c.self.view_is)
    (is_placed c.self.inside.stems.items c.args.rev.now c.place_of.result
    (rw c.as_slice.ensures.value at c.place_of.ensures)
    ∙ sym (named_in c.self.inside.stems.items c.self.invariant.0 c.args.rev.now))

pub returns-then-generation-self-clause-stored : goal.returns-then-generation-self-clause-stored
returns-then-generation-self-clause-stored c =
    stored_by c.self.inside.stems.items _ c.args.self.now c.self.view_is c.self.invariant

pub returns-clause-stored : goal.returns-clause-stored
returns-clause-stored c =
    stored_by c.self.inside.stems.items _ c.args.self.now c.self.view_is c.self.invariant
