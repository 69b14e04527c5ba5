use Rattle.hub_revtree.proofs.StemLooks.{some_path}
use Rattle.hub_revtree.proofs.stem.Stem.is_head.Goals as goal

pub is_at-requires : goal.is_at-requires
is_at-requires c = some_path c.self.inside.run c.self.invariant
