use Rattle.hub_service.proofs.Looks.{opened_or_told}
use Rattle.hub_service.proofs.context.Context.open_feed.Goals as goal

pub returns-clause-err : goal.returns-clause-err
returns-clause-err g c = opened_or_told _ _ _ c.open_feed.result c.open_feed.ensures.err
