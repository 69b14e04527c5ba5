use Rattle.std.proofs.Common.{ap, subst}
use Rattle.hub_model.specs.Path.{IsPath}
use Rattle.hub_revtree.specs.Run.{kept_in}
use Rattle.hub_revtree.proofs.RunLemmas.{place_low}
use Rattle.hub_revtree.proofs.StemLooks.{some_path}
use Rattle.hub_revtree.proofs.run.Run.newest.Goals as goal

pub new-requires-in-Digests : goal.new-requires-in-Digests
new-requires-in-Digests c =
    place_low _ c.args.self.now c.in-Digests.newest _ (ap kept_in c.in-Digests.is) c.self.view_is c.self.invariant
    0 (some_path c.args.self.now (subst IsPath c.self.view_is c.self.invariant))

pub new-requires-in-Shared : goal.new-requires-in-Shared
new-requires-in-Shared c =
    place_low _ c.args.self.now c.in-Shared.newest _ (ap kept_in c.in-Shared.is) c.self.view_is c.self.invariant
    0 (some_path c.args.self.now (subst IsPath c.self.view_is c.self.invariant))
