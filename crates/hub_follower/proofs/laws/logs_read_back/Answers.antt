use Rattle.hub_follower.proofs.ReadBack.{logs_read_back}
use Rattle.hub_follower.proofs.laws.logs_read_back.Goals as goal

pub returns : goal.returns
returns c = logs_read_back
