use Rattle.hub_world.proofs.Faithful.{faithful}
use Rattle.hub_world.proofs.laws.headline.Goals as goal

pub returns : goal.returns
returns c = faithful
