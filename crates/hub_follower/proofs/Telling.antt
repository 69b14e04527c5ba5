-- The faults of calls, as a follower tells them.
use Rattle.std.proofs.Common.{Result, Ok, Err}
use Rattle.std.specs.Prelude.{IfErr}
use Rattle.hub_follow_model.specs.Follower as follow
use Rattle.hub_follow_model.proofs.Fitting.{fitting_is_taken}
use Rattle.hub_follower.specs.declared.fault.FollowFault.{FollowFault}
use Rattle.hub_follower.specs.declared.fault.FollowFault.TheVariants.{NoMemory, BadLogId, Peer, Refused, Lost}
use Rattle.hub_follower.specs.Peers.{IsOwnFault}
use Rattle.hub_follower.specs.Views.{IsFaultOf}

-- an answer to the call that was made is no peer's fault
pub own_fault : {A : Type 0} (r : Result A FollowFault) (P : FollowFault → Type 0)
    (follower : follow.Follower) (answer : follow.Answer)
    → follow.IsAnswerToNext (follow.next_call follower) answer
    → IfErr r (λ e. P e × IsFaultOf e (follow.answer_result follower answer)) → IfErr r IsOwnFault
own_fault (Ok x) P follower answer f t = tt
own_fault (Err NoMemory) P follower answer f t = tt
own_fault (Err BadLogId) P follower answer f (p, t) = t
own_fault (Err Peer) P follower answer f (p, t) = fitting_is_taken follower answer f t
own_fault (Err (Refused id rev fault)) P follower answer f t = tt
own_fault (Err (Lost id rev)) P follower answer f t = tt
