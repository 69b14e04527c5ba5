use Rattle.std.proofs.Common.{◌≡◌, arith, rules, inl, inr, ℕ}
use Rattle.std.specs.Prelude.{Option, Result, Ok, Err}
use Rattle.hub_follow_model.specs.Follower as follow
use Rattle.hub_follow_model.specs.ReplicationLog.{ReplicationLog}
use Rattle.hub_follower.specs.Faults.{IsAfterCall}
use Rattle.hub_follower.specs.Peers.{Gives, Fails, IsLogCalled}
use Rattle.hub_follower.specs.declared.fault_peer.Loss.TheVariants.{After}
use Rattle.hub_follower.specs.declared.peer.CallFault.{CallFault}
use Rattle.hub_follower.proofs.fault_peer.FaultPeerPeer.local_get.Goals as goal

-- a call for a log is answered, or fails
log_called : {S : Type 0} (gives : Gives S) (loses : Fails S) (count : S → ℕ)
    (result : Result (Option ReplicationLog) CallFault) (old new : S)
    → IsLogCalled gives loses count (λ side. follow.LocalGet side) (λ log. follow.LogAnswer log) result old new
    → (side : follow.Side) → IsAfterCall gives loses (follow.LocalGet side) old new
log_called gives loses count (Ok log) old new called side = inl (follow.LogAnswer log, called.answered side)
log_called gives loses count (Err _) old new called side = inr (called.lost side)

pub returns : goal.returns
returns g c =
    let p = g.P.Peer in
    let old = c.args.self.now in
    let after : old.left ≡ 1 → old.loss ≡ After → (side : follow.Side)
    → IsAfterCall p.gives p.loses (follow.LocalGet side) old.peer c.pass.new.self.peer =
    λ one after.
    let (lost, m) = c.pass.ensures.after one after in
    search (rules, log_called p.gives p.loses p.fault_count lost) in
    grind (arith, after)
