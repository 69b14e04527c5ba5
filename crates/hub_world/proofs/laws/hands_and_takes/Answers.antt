use Rattle.hub_world.proofs.Lanes.{takes_in_order, holds_the_rest, hands_rightly}
use Rattle.hub_world.proofs.LaneLimits.{lanes_are_limited}
use Rattle.hub_world.proofs.laws.hands_and_takes.Goals as goal

pub returns-clause-in_order : goal.returns-clause-in_order
returns-clause-in_order c = takes_in_order

pub returns-clause-rightly : goal.returns-clause-rightly
returns-clause-rightly c = hands_rightly

pub returns-clause-held : goal.returns-clause-held
returns-clause-held c = holds_the_rest

pub returns-clause-limited : goal.returns-clause-limited
returns-clause-limited c = lanes_are_limited
