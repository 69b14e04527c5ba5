-- The faults for which a session does not begin.
use Rattle.std.proofs.Common.{inl, inr, Result, Ok, Err}
use Rattle.std.specs.Prelude.{IfErr}
use Rattle.hub_follower.specs.Peers.{Gives, Fails, FollowState, Breaks, BeginsNot}
use Rattle.hub_follower.specs.declared.fault.FollowFault.{FollowFault}
use Rattle.hub_follower.specs.declared.fault.FollowFault.TheVariants.{NoMemory, BadLogId, Peer, Refused, Lost}

module _ {S T : Type 0} (gives_s : Gives S) (gives_t : Gives T) (loses_s : Fails S) (loses_t : Fails T)
    (old new : FollowState S T) where
  -- no call breaks for a bad id
  never : Breaks gives_s gives_t loses_s loses_t BadLogId old new → ⊥
  never (between, mid, walks, (call, owes, fails, inl (answer, serves, told))) = told
  never (between, mid, walks, (call, owes, fails, inr (told, loses))) = told

  -- where a call breaks, no session begins
  pub broken_begins_not : {X : Type 0} (r : Result X FollowFault)
      → IfErr r (λ e. Breaks gives_s gives_t loses_s loses_t e old new)
      → IfErr r (λ e. BeginsNot gives_s gives_t loses_s loses_t e old new)
  broken_begins_not (Ok x) p = tt
  broken_begins_not (Err NoMemory) p = inr p
  broken_begins_not (Err BadLogId) p = absurd (never p)
  broken_begins_not (Err Peer) p = p
  broken_begins_not (Err (Refused id rev fault)) p = p
  broken_begins_not (Err (Lost id rev)) p = p
