use Rattle.std.proofs.Common.{◌∙◌}
use Rattle.hub_revtree.proofs.branches.Branches.is_named.Goals as goal

pub returns : goal.returns
returns c = c.is_some.ensures ∙ c.place.ensures.named
