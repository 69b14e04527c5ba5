use Rattle.std.proofs.Common.{refl}
use Rattle.hub_world.proofs.Answering.{has_replies, has_handed, has_taken}
use Rattle.hub_world.proofs.laws.worked_runs.Goals as goal

pub returns-clause-again : goal.returns-clause-again
returns-clause-again c = has_replies _ _ _ refl

pub returns-clause-styles : goal.returns-clause-styles
returns-clause-styles c = (has_handed _ _ _ _ refl, has_handed _ _ _ _ refl)

pub returns-clause-bound : goal.returns-clause-bound
returns-clause-bound c = has_handed _ _ _ _ refl

pub returns-clause-lane : goal.returns-clause-lane
returns-clause-lane c = has_replies _ _ _ refl

pub returns-clause-front : goal.returns-clause-front
returns-clause-front c = (has_handed _ _ _ _ refl, has_taken _ _ _ _ refl)

pub returns-clause-longpoll : goal.returns-clause-longpoll
returns-clause-longpoll c = has_replies _ _ _ refl

pub returns-clause-time : goal.returns-clause-time
returns-clause-time c = (has_replies _ _ _ refl, has_replies _ _ _ refl)

pub returns-clause-writes : goal.returns-clause-writes
returns-clause-writes c = has_replies _ _ _ refl

pub returns-clause-beats : goal.returns-clause-beats
returns-clause-beats c = (has_replies _ _ _ refl, has_replies _ _ _ refl, has_replies _ _ _ refl)

pub returns-clause-deletion : goal.returns-clause-deletion
returns-clause-deletion c = has_replies _ _ _ refl

pub returns-clause-limit : goal.returns-clause-limit
returns-clause-limit c = has_replies _ _ _ refl

pub returns-clause-lives : goal.returns-clause-lives
returns-clause-lives c = (has_replies _ _ _ refl, has_replies _ _ _ refl)

pub returns-clause-feeds : goal.returns-clause-feeds
returns-clause-feeds c = has_replies _ _ _ refl
