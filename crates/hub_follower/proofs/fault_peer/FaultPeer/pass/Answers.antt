use Rattle.std.proofs.Common.{rules}
use Rattle.hub_follower.proofs.fault_peer.FaultPeer.pass.Goals as goal

pub returns-in-Some-After-clause-after : goal.returns-in-Some-After-clause-after
returns-in-Some-After-clause-after g c = λ _ _. (c.call-in-Some-After.result, search rules)
