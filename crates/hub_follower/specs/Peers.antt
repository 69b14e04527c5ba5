-- A follower over its peers, by the answers and failures that each allows for its own calls (own).
use Rattle.std.specs.Prelude.{◌≡◌, ◌⊎◌, ◌<◌, ◌≤◌, ◌-◌, ◌+◌, ◌^◌, ℕ, length, Bool, false, true, List, [], ◌∷◌}
use Rattle.std.specs.Prelude.{Some, None, Result, Ok, IfOk, IfErr, OnOk, OnErr}
use Rattle.hub_follow_model.specs.Follower as follow
use Rattle.hub_database.specs.declared.batch.DbFault.{DbFault}
use Rattle.hub_database.specs.declared.batch.DbFault.TheVariants as db_fault
use Rattle.hub_follower.specs.declared.fault.FollowFault.{FollowFault}
use Rattle.hub_follower.specs.declared.fault.FollowFault.TheVariants as told
use Rattle.hub_follower.specs.declared.peer.CallFault.{CallFault}
use Rattle.hub_follower.specs.declared.peer.CallFault.TheVariants as call_fault
use Rattle.hub_follower.specs.Views.{IsFaultOf}

-- a count of faults rose, or stands at its greatest value
abbrev pub HasGrown : ℕ → ℕ → Type 0
HasGrown old new = (old < new) ⊎ (new ≡ 2 ^ 64 - 1)

-- the outcome of a call is a fault of the peer only where its count of faults has grown so
abbrev pub IsCountedFault : CallFault → ℕ → ℕ → Type 0
IsCountedFault call_fault.Peer old new = HasGrown old new
IsCountedFault call_fault.NoMemory old new = Unit {0}

-- The outcome of a call, and its peer's count of faults. The count does not fall, and the outcome is a fault
-- of the peer only where the count rose, or stands at its greatest value. A lost call takes the count from 3
-- to 4.
pub record CallCounts {A : Type 0} (result : Result A CallFault) (old new : ℕ) : Type 0 where
  pub rises : old ≤ new
  pub fault : IfErr result (λ e. IsCountedFault e old new)

-- the call's fault for the fault of a database: a refusal of a whole call is the peer's fault
abbrev pub IsDbFault : DbFault → CallFault → Type 0
IsDbFault db_fault.NoMemory fault = fault ≡ call_fault.NoMemory
IsDbFault (db_fault.Refused refusal) fault = fault ≡ call_fault.Peer

-- a fault that an answered call may bring: no fault of a peer, and no bad id of the logs
abbrev pub IsOwnFault : FollowFault → Type 0
IsOwnFault told.Peer = ⊥
IsOwnFault told.BadLogId = ⊥
IsOwnFault fault = Unit {0}

-- with a good id a follower's fault is a peer's only where the count of one of its two peers has grown so
abbrev pub IsCountedOfBoth : FollowFault → (s s' t t' : ℕ) → Type 0
IsCountedOfBoth told.Peer s s' t t' = HasGrown s s' ⊎ HasGrown t t'
IsCountedOfBoth told.BadLogId s s' t t' = ⊥
IsCountedOfBoth fault s s' t t' = Unit {0}

-- The outcome of a follower's call, and its peers' counts of faults. Neither count falls, and the outcome is
-- a fault of a peer only where one of the counts has grown so.
pub record BothCount {S T A : Type 0} (count_s : S → ℕ) (count_t : T → ℕ) (result : Result A FollowFault)
    (s : S) (t : T) (s' : S) (t' : T) : Type 0 where
  pub source : count_s s ≤ count_s s'
  pub target : count_t t ≤ count_t t'
  pub fault : IfErr result (λ e. IsCountedOfBoth e (count_s s) (count_s s') (count_t t) (count_t t'))

-- the side to whose peer the call goes
abbrev pub side_of : follow.Call → follow.Side
side_of (follow.LocalGet side) = side
side_of (follow.Changes since) = follow.Source
side_of (follow.RevsDiff asked) = follow.Target
side_of (follow.OpenRevs id revs) = follow.Source
side_of (follow.Merge docs) = follow.Target
side_of (follow.LocalPut side log) = side

-- the answers that a peer's calls may have, by the states before and after; S is the type of its states
abbrev pub Gives : Type 0 → Type 1
Gives S = S → follow.Call → follow.Answer → S → Type 0

-- the failures that a peer's calls may have, by the states before and after
abbrev pub Fails : Type 0 → Type 1
Fails S = S → follow.Call → S → Type 0

-- The outcome of a peer's call, where `shown` views its answer. An answer is one that the peer may give, and
-- after a fault the peer is in a state that a failure may leave. Its count of faults is as `CallCounts` says.
pub record IsCalled {S A : Type 0} (gives : Gives S) (loses : Fails S) (count : S → ℕ) (call : follow.Call)
    (shown : A → follow.Answer) (result : Result A CallFault) (old new : S) : Type 0 where
  pub answered : IfOk result (λ answer. gives old call (shown answer) new)
  pub lost : IfErr result (λ _. loses old call new)
  pub counts : CallCounts result (count old) (count new)

-- the outcome of a call for a log, which may be the log of either side
pub record IsLogCalled {S A : Type 0} (gives : Gives S) (loses : Fails S) (count : S → ℕ)
    (call : follow.Side → follow.Call) (shown : A → follow.Answer) (result : Result A CallFault)
    (old new : S) : Type 0 where
  pub answered : IfOk result (λ answer. (side : follow.Side) → gives old (call side) (shown answer) new)
  pub lost : IfErr result (λ _. (side : follow.Side) → loses old (call side) new)
  pub counts : CallCounts result (count old) (count new)

-- a follower and its two peers, as they stand between two calls
pub record FollowState (S T : Type 0) : Type 0 where
  pub follower : follow.Follower
  pub source : S
  pub target : T

-- this follower, with these peers
abbrev pub standing_of : {S T : Type 0} → follow.Follower → S → T → FollowState S T
standing_of follower source target =
    record { follower = follower; source = source; target = target }

-- the peer at this side gives this answer to the call, and the other peer stays
abbrev pub ServesAt : {S T : Type 0} → Gives S → Gives T → follow.Side → follow.Call → follow.Answer
    → S → T → S → T → Type 0
ServesAt gives_s gives_t follow.Source call answer s t s' t' = gives_s s call answer s' × (t' ≡ t)
ServesAt gives_s gives_t follow.Target call answer s t s' t' = (s' ≡ s) × gives_t t call answer t'

-- the peer that the call names gives this answer, and the other peer stays
abbrev pub Serves : {S T : Type 0} → Gives S → Gives T → follow.Call → follow.Answer
    → S → T → S → T → Type 0
Serves gives_s gives_t call answer s t s' t' = ServesAt gives_s gives_t (side_of call) call answer s t s' t'

-- the peer at this side fails in the call, or is not asked; the other peer stays
abbrev pub LosesAt : {S T : Type 0} → Fails S → Fails T → follow.Side → follow.Call
    → S → T → S → T → Type 0
LosesAt loses_s loses_t follow.Source call s t s' t' = ((s' ≡ s) ⊎ loses_s s call s') × (t' ≡ t)
LosesAt loses_s loses_t follow.Target call s t s' t' = (s' ≡ s) × ((t' ≡ t) ⊎ loses_t t call t')

-- the peer that the call names fails in it, or is not asked; the other peer stays
abbrev pub Loses : {S T : Type 0} → Fails S → Fails T → follow.Call → S → T → S → T → Type 0
Loses loses_s loses_t call s t s' t' = LosesAt loses_s loses_t (side_of call) call s t s' t'

-- the owed call is answered, and the follower takes the answer
abbrev pub Steps : {S T : Type 0} → Gives S → Gives T → FollowState S T → FollowState S T → Type 0
Steps gives_s gives_t old new =
    (call : follow.Call) × (answer : follow.Answer) × (follow.next_call old.follower ≡ Some call)
    × Serves gives_s gives_t call answer old.source old.target new.source new.target
    × (follow.answer_result old.follower answer ≡ Ok new.follower)

-- the fault of a call that fails: of the peer, or of memory, and never of a document
abbrev pub IsFaultOfCall : FollowFault → Type 0
IsFaultOfCall told.Peer = Unit {0}
IsFaultOfCall told.NoMemory = Unit {0}
IsFaultOfCall fault = ⊥

-- The outcome of a call on the peer that the call names, where `shown` views an answer. The call is answered,
-- and the answer fits it, or the call fails. Neither count of faults falls, and the outcome is a fault of a
-- peer only where one of the counts has grown.
pub record IsMade {S T A : Type 0} (gives_s : Gives S) (gives_t : Gives T) (loses_s : Fails S)
    (loses_t : Fails T) (count_s : S → ℕ) (count_t : T → ℕ) (call : follow.Call) (shown : A → follow.Answer)
    (result : Result A CallFault) (s : S) (t : T) (s' : S) (t' : T) : Type 0 where
  pub ok : IfOk result (λ answer. Serves gives_s gives_t call (shown answer) s t s' t')
  pub fits : IfOk result (λ answer. follow.IsAnswerTo call (shown answer))
  pub err : IfErr result (λ _. Loses loses_s loses_t call s t s' t')
  pub source : count_s s ≤ count_s s'
  pub target : count_t t ≤ count_t t'
  pub fault :
      IfErr result (λ e. IsCountedFault e (count_s s) (count_s s') ⊎ IsCountedFault e (count_t t) (count_t t'))

-- the call is answered, and its answer dropped for this fault: the answer's own, or that memory ran out
abbrev pub Drops : {S T : Type 0} → Gives S → Gives T → follow.Call → FollowFault
    → FollowState S T → FollowState S T → Type 0
Drops gives_s gives_t call fault old new =
    (answer : follow.Answer)
    × Serves gives_s gives_t call answer old.source old.target new.source new.target
    × IsFaultOf fault (follow.answer_result old.follower answer)

-- The owed call fails for this fault, or its answer is dropped for it. The follower is then that after a
-- failure, and the peer that is not called stays. Where the call is to store a and b, the target may have
-- neither of them, both, or the part that its own way to fail leaves.
abbrev pub FailsSo : {S T : Type 0} → Gives S → Gives T → Fails S → Fails T → FollowFault
    → FollowState S T → FollowState S T → Type 0
FailsSo gives_s gives_t loses_s loses_t fault old new =
    (call : follow.Call) × (follow.next_call old.follower ≡ Some call)
    × (new.follower ≡ follow.after_failure old.follower)
    × (Drops gives_s gives_t call fault old new
    ⊎ (IsFaultOfCall fault × Loses loses_s loses_t call old.source old.target new.source new.target))

-- one step after another, through these states; the last of them is the new one
abbrev pub Walks : {S T : Type 0} → Gives S → Gives T → List (FollowState S T)
    → FollowState S T → FollowState S T → Type 0
Walks gives_s gives_t [] old new = new ≡ old
Walks gives_s gives_t (mid ∷ between) old new =
    Steps gives_s gives_t old mid × Walks gives_s gives_t between mid new

-- Calls are made and their answers taken, until no call is owed. A round that finds no changes is a walk of
-- one step.
abbrev pub IsWalk : {S T : Type 0} → Gives S → Gives T → FollowState S T → FollowState S T → Type 0
IsWalk {S} {T} gives_s gives_t old new =
    (between : List (FollowState S T)) × Walks gives_s gives_t between old new
    × (follow.next_call new.follower ≡ None)

-- Calls are made and their answers taken up to the state `mid`, and the call that is owed there fails for
-- this fault. In a round that lists a, compares it, fetches it and stores it, each of the four calls may
-- fail. Where the target fails to store a, `mid` owes the merge. After the failure the follower has its
-- session, in no phase, at the place where the round began.
abbrev pub Breaks : {S T : Type 0} → Gives S → Gives T → Fails S → Fails T → FollowFault
    → FollowState S T → FollowState S T → Type 0
Breaks {S} {T} gives_s gives_t loses_s loses_t fault old new =
    (between : List (FollowState S T)) × (mid : FollowState S T) × Walks gives_s gives_t between old mid
    × FailsSo gives_s gives_t loses_s loses_t fault mid new

-- A round or a checkpoint that begins with the follower `begun` makes its calls until none is owed, or up to
-- a call that fails. After a failure the follower is as it was.
pub record IsCarriedOut {S T A : Type 0} (gives_s : Gives S) (gives_t : Gives T) (loses_s : Fails S)
    (loses_t : Fails T) (count_s : S → ℕ) (count_t : T → ℕ) (begun : follow.Follower)
    (result : Result A FollowFault) (old new : FollowState S T) : Type 0 where
  pub walk : OnOk result (IsWalk gives_s gives_t (standing_of begun old.source old.target) new)
  pub err :
      IfErr result (λ e. Breaks gives_s gives_t loses_s loses_t e
      (standing_of begun old.source old.target) new)
  pub same : OnErr result (new.follower ≡ old.follower)
  pub counts : BothCount count_s count_t result old.source old.target new.source new.target

-- neither peer changed
abbrev pub HasSamePeers : {S T : Type 0} → FollowState S T → FollowState S T → Type 0
HasSamePeers old new = (new.source ≡ old.source) × (new.target ≡ old.target)

-- A session does not begin for this fault. Where the id of the logs is refused, no call was made. Where
-- memory ran out, no call was made, or one failed. For any other fault a call failed.
abbrev pub BeginsNot : {S T : Type 0} → Gives S → Gives T → Fails S → Fails T → FollowFault
    → FollowState S T → FollowState S T → Type 0
BeginsNot gives_s gives_t loses_s loses_t told.BadLogId old new = HasSamePeers old new
BeginsNot gives_s gives_t loses_s loses_t told.NoMemory old new =
    HasSamePeers old new ⊎ Breaks gives_s gives_t loses_s loses_t told.NoMemory old new
BeginsNot gives_s gives_t loses_s loses_t fault old new =
    Breaks gives_s gives_t loses_s loses_t fault old new

-- Calls were made and answers taken from the old state to the new one. Where the new follower owes a call, a
-- failure leaves the same follower as a failure of the first call would.
pub record Reaches {S T : Type 0} (gives_s : Gives S) (gives_t : Gives T) (old new : FollowState S T)
    : Type 0 where
  pub walk : (between : List (FollowState S T)) × Walks gives_s gives_t between old new
  pub left :
      (follow.next_call new.follower ≡ None)
      ⊎ (follow.after_failure new.follower ≡ follow.after_failure old.follower)

-- the follower is past the changes and their comparison, so that the number of its owed calls is known
abbrev pub HasCountedCalls : follow.Follower → Type 0
HasCountedCalls (follow.Busy s follow.Listing) = ⊥
HasCountedCalls (follow.Busy s (follow.Comparison asked last)) = ⊥
HasCountedCalls core = Unit {0}

-- the follower is past the call for changes
abbrev pub IsPastAsking : follow.Follower → Type 0
IsPastAsking (follow.Busy s follow.Listing) = ⊥
IsPastAsking core = Unit {0}

-- the number of calls that a follower owes at most; 0 where it is not known yet
abbrev pub calls_left : follow.Follower → ℕ
calls_left follow.Down = 0
calls_left (follow.SourceStart name) = 2
calls_left (follow.TargetStart name source) = 1
calls_left (follow.Ready s) = 0
calls_left (follow.Busy s follow.Listing) = 0
calls_left (follow.Busy s (follow.Comparison asked last)) = 0
calls_left (follow.Busy s (follow.Retrieval next later got last)) = length later + 2
calls_left (follow.Busy s (follow.Storage got last)) = 1
calls_left (follow.Busy s follow.SourceCheckpoint) = 2
calls_left (follow.Busy s follow.TargetCheckpoint) = 1

-- where no call was made, none was owed, and nothing changed
abbrev pub Idles : {S T : Type 0} → Bool → FollowState S T → FollowState S T → Type 0
Idles made old new = made ≡ false → (follow.next_call old.follower ≡ None) × (new ≡ old)

-- The outcome of a step: whether a call was made and its answer taken, or the fault for which it failed. The
-- counts of faults are as `BothCount` says. A follower that owes no call makes none, and nothing changes.
pub record IsStep {S T : Type 0} (gives_s : Gives S) (gives_t : Gives T) (loses_s : Fails S)
    (loses_t : Fails T) (count_s : S → ℕ) (count_t : T → ℕ) (result : Result Bool FollowFault)
    (old new : FollowState S T) : Type 0 where
  pub idle : IfOk result (λ made. Idles made old new)
  pub ok : IfOk result (λ made. made ≡ true → Steps gives_s gives_t old new)
  pub err : IfErr result (λ fault. FailsSo gives_s gives_t loses_s loses_t fault old new)
  pub counts : BothCount count_s count_t result old.source old.target new.source new.target
