use Rattle.hub_follower.proofs.Rebuilding.{none_rebuilt}
use Rattle.hub_follower.proofs.rebuilt.no_edits.Goals as goal

pub returns-clause-copy : goal.returns-clause-copy
returns-clause-copy c = λ J legal few. none_rebuilt J c.new.result c.full.result legal few
    c.new.ensures.journal c.new.ensures.stands c.new.ensures.limits c.full.ensures
