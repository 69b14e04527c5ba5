use Rattle.std.proofs.Common.{◌∙◌, ap, sym, subst}
use Rattle.hub_model.specs.Path.{IsPath}
use Rattle.hub_revtree.specs.Run.{kept_in}
use Rattle.hub_revtree.proofs.RunLemmas.{digest_newest}
use Rattle.hub_revtree.proofs.run.Run.generation.Goals as goal

pub returns-in-Digests : goal.returns-in-Digests
returns-in-Digests c =
    digest_newest c.args.self.now c.in-Digests.newest c.in-Digests.field-1.items
    (sym (ap kept_in c.in-Digests.is) ∙ c.self.view_is) (subst IsPath c.self.view_is c.self.invariant)
