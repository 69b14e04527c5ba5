use Rattle.hub_revtree.proofs.StemLooks.{some_path}
use Rattle.hub_revtree.proofs.stem.Stem.head.Goals as goal

pub at-requires : goal.at-requires
at-requires c = some_path c.self.inside.run c.self.invariant
