-- Peers some of whose calls are lost, by a count (own).
use Rattle.std.specs.Prelude.{◌≡◌, ◌⊎◌, ◌-◌, ◌≢◌, ℕ}
use Rattle.hub_follow_model.specs.Follower as follow
use Rattle.hub_follower.specs.Peers.{Gives, Fails}
use Rattle.hub_follower.specs.declared.fault_peer.Loss.{Loss}
use Rattle.hub_follower.specs.declared.fault_peer.Loss.TheVariants.{Before, After}

-- A call is made, and counted: `old` and `new` are the numbers of calls up to the next one that is lost. The
-- number goes down by one. The call at 1 is lost, and the number is `again` after it. So 3 becomes 2, then 1,
-- and then `again`; 0 stays, and no call is lost.
abbrev pub IsCountedDown : (again old new : ℕ) → Type 0
IsCountedDown again old new = (old ≡ 1 → new ≡ again) × (old ≢ 1 → new ≡ old - 1)

-- the state of a peer after a call whose outcome nobody sees: the peer has answered it, or failed
abbrev pub IsAfterCall : {S : Type 0} → Gives S → Fails S → follow.Call → S → S → Type 0
IsAfterCall gives loses call old new = ((answer : follow.Answer) × gives old call answer new) ⊎ loses old call new

-- The state of a peer after a call is lost. Where the call itself is lost, the peer stays. Where its answer
-- is lost, the peer has answered it, or failed.
abbrev pub IsLost : {S : Type 0} → Gives S → Fails S → Loss → follow.Call → S → S → Type 0
IsLost gives loses loss call old new =
    (loss ≡ Before → new ≡ old) × (loss ≡ After → IsAfterCall gives loses call old new)
