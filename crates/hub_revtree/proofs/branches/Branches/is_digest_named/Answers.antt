use Rattle.std.proofs.Common.{◌∙◌, sym, arith}
use Rattle.hub_revtree.proofs.HighestLemmas.{above_none}
use Rattle.hub_revtree.proofs.StemLemmas.{named_in}
use Rattle.hub_revtree.proofs.branches.Branches.is_digest_named.Goals as goal

pub returns-then-generation-self : goal.returns-then-generation-self
returns-then-generation-self c =
    rw (sym c.self.view_is)
    (sym (named_in c.self.inside.stems.items c.self.invariant.0 c.args.rev.now
    ∙ above_none c.self.inside.stems.items c.self.inside.highest c.self.invariant.1 c.args.rev.now
    (omega (arith, c.if-generation-self.true, c.generation.ensures.value))))
