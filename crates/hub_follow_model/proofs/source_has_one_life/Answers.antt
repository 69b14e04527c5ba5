use Rattle.hub_follow_model.proofs.Lives.{life_stays}
use Rattle.hub_follow_model.proofs.source_has_one_life.Goals as goal

pub returns : goal.returns
returns c = life_stays
