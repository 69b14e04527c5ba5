-- The calls of a follower over two peers that answer exactly are a run of its world.
use Rattle.std.proofs.Common.{◌≡◌, ◌∙◌, ◌⊎◌, inl, inr, ℕ, List, [], ◌∷◌, ◌++◌}
use Rattle.std.proofs.Common.{sym, ap, subst, Option, Some, MatchOption}
use Rattle.hub_follow_model.specs.Follower as follow
use Rattle.hub_follow_model.specs.World.{World, Event, Reply, LossBefore, LossAfter, PartialMerge}
use Rattle.hub_follow_model.specs.World.{Run, Step, IsAnswered, IsPartialMerge, empty_world}
use Rattle.hub_follow_model.specs.Copied.{IsFaithful}
use Rattle.hub_follow_model.proofs.Theorem.{faithful}
use Rattle.hub_follower.specs.Exact.{PeerContents, IsExact, IsExactLoss, IsStoredInPart, world_at}
use Rattle.hub_follower.specs.Exact.{HasRun, ExactWalksRun, ExactBreaksRun, ExactPeersCopy}
use Rattle.hub_follower.specs.Peers.{FollowState, standing_of, side_of, Serves, ServesAt}
use Rattle.hub_follower.specs.Peers.{LosesAt, FailsSo, Steps, Walks}
use Rattle.hub_follower.specs.declared.fault.FollowFault.{FollowFault}
use Rattle.hub_follower.proofs.Happening.{run_more}

-- one run after another is a run
run_on : (events more : List Event) (world mid new : World) → Run world events mid → Run mid more new
    → Run world (events ++ more) new
run_on [] more world mid new e r = subst (λ (other : World). Run other more new) e r
run_on (event ∷ events) more world mid new (m, step, rest) r = (m, step, run_on events more m mid new rest r)

module _ (limit : ℕ) (sessions : List (List ℕ)) where
  abbrev at : follow.Follower → PeerContents → PeerContents → World
  at core held other = world_at limit sessions (standing_of core held other)

  both : (core : follow.Follower) (held other s' t' : PeerContents) → s' ≡ held → t' ≡ other
      → at core s' t' ≡ at core held other
  both core held other s' t' p q = ap (λ (z : PeerContents). at core z t') p ∙ ap (λ (z : PeerContents). at core held z) q

  serves_answers : (core : follow.Follower) (call : follow.Call) (answer : follow.Answer)
      (held other s' t' : PeerContents) → Serves (IsExact limit) (IsExact limit) call answer held other s' t'
      → IsAnswered (at core held other) call answer (at core s' t')
  serves_answers core (follow.LocalGet follow.Source) (follow.LogAnswer log) held other s' t' (p, q) =
      (p.0, both core held other s' t' p.1 q)
  serves_answers core (follow.LocalGet follow.Target) (follow.LogAnswer log) held other s' t' (q, p) =
      (p.0, both core held other s' t' q p.1)
  serves_answers core (follow.LocalGet follow.Source) answer held other s' t' (p, q) = absurd p
  serves_answers core (follow.LocalGet follow.Target) answer held other s' t' (q, p) = absurd p
  serves_answers core (follow.Changes since) (follow.ChangesAnswer rows last life) held other s' t' (p, q) =
      (p.0, p.1, both core held other s' t' p.2 q)
  serves_answers core (follow.Changes since) answer held other s' t' (p, q) = absurd p
  serves_answers core (follow.RevsDiff asked) (follow.RevsDiffAnswer missed) held other s' t' (q, p) =
      (p.0, both core held other s' t' q p.1)
  serves_answers core (follow.RevsDiff asked) answer held other s' t' (q, p) = absurd p
  serves_answers core (follow.OpenRevs id revs) (follow.OpenRevsAnswer docs) held other s' t' (p, q) =
      (p.0, both core held other s' t' p.1 q)
  serves_answers core (follow.OpenRevs id revs) answer held other s' t' (p, q) = absurd p
  serves_answers core (follow.Merge docs) (follow.MergeAnswer outcomes) held other s' t' (q, p) =
      (p.0, ap (λ (z : PeerContents). at core z t') q ∙ ap (λ (z : PeerContents). at core held z) p.1)
  serves_answers core (follow.Merge docs) answer held other s' t' (q, p) = absurd p
  serves_answers core (follow.LocalPut follow.Source log) follow.PutAnswer held other s' t' (p, q) =
      ap (λ (z : PeerContents). at core z t') p ∙ ap (λ (z : PeerContents). at core (record held { log = Some log }) z) q
  serves_answers core (follow.LocalPut follow.Target log) follow.PutAnswer held other s' t' (q, p) =
      ap (λ (z : PeerContents). at core z t') q ∙ ap (λ (z : PeerContents). at core held z) p
  serves_answers core (follow.LocalPut follow.Source log) answer held other s' t' (p, q) = absurd p
  serves_answers core (follow.LocalPut follow.Target log) answer held other s' t' (q, p) = absurd p

  step_runs : (old new : FollowState PeerContents PeerContents) → Steps (IsExact limit) (IsExact limit) old new
      → Step (world_at limit sessions old) Reply (world_at limit sessions new)
  step_runs old new (call, answer, owes, serves, takes) =
      let w = world_at limit sessions old in
      let v = world_at limit sessions new in
      subst (λ o. MatchOption o (v ≡ w) (λ c. (a : follow.Answer) × (mid : World) × IsAnswered w c a mid
      × (v ≡ record mid { follower = follow.after_answer old.follower a })))
      (sym owes) (
        answer,
        at old.follower new.source new.target,
        serves_answers old.follower call answer old.source old.target new.source new.target serves,
        ap (λ z. at (follow.follower_of_result old.follower z) new.source new.target) (sym takes),
      )

  walk_runs : (between : List (FollowState PeerContents PeerContents)) (old new : FollowState PeerContents PeerContents)
      → Walks (IsExact limit) (IsExact limit) between old new → HasRun limit sessions old new
  walk_runs [] old new e = ([], ap (λ (z : FollowState PeerContents PeerContents). world_at limit sessions z) e)
  walk_runs (mid ∷ between) old new (step, rest) =
      let i = walk_runs between mid new rest in
      (Reply ∷ i.0, (world_at limit sessions mid, step_runs old mid step, i.1))

  -- ---- a call that fails

  -- a part of the documents was stored by the database at this side
  abbrev IsPartAt : follow.Side → follow.Call → (held other s' t' : PeerContents) → Type 0
  IsPartAt follow.Source call held other s' t' = IsStoredInPart limit held call s' × (t' ≡ other)
  IsPartAt follow.Target call held other s' t' = (s' ≡ held) × IsStoredInPart limit other call t'

  -- the call had no effect, its whole effect, or a part of it
  abbrev IsLeft : follow.Side → follow.Call → (held other s' t' : PeerContents) → Type 0
  IsLeft side call held other s' t' =
      ((s' ≡ held) × (t' ≡ other))
      ⊎ (((answer : follow.Answer)
      × ServesAt (IsExact limit) (IsExact limit) side call answer held other s' t')
      ⊎ IsPartAt side call held other s' t')

  lost : (side : follow.Side) (call : follow.Call) (held other s' t' : PeerContents)
      → LosesAt (IsExactLoss limit) (IsExactLoss limit) side call held other s' t'
      → IsLeft side call held other s' t'
  lost follow.Source call held other s' t' (inl e, q) = inl (e, q)
  lost follow.Source call held other s' t' (inr (inl e), q) = inl (e, q)
  lost follow.Source call held other s' t' (inr (inr (inl (answer, a))), q) = inr (inl (answer, (a, q)))
  lost follow.Source call held other s' t' (inr (inr (inr p)), q) = inr (inr (p, q))
  lost follow.Target call held other s' t' (q, inl e) = inl (q, e)
  lost follow.Target call held other s' t' (q, inr (inl e)) = inl (q, e)
  lost follow.Target call held other s' t' (q, inr (inr (inl (answer, a)))) = inr (inl (answer, (q, a)))
  lost follow.Target call held other s' t' (q, inr (inr (inr p))) = inr (inr (q, p))

  -- some event leads from the old state to the new one
  abbrev Happens : (old new : FollowState PeerContents PeerContents) → Type 0
  Happens old new = (event : Event) × Step (world_at limit sessions old) event (world_at limit sessions new)

  module _ (old new : FollowState PeerContents PeerContents) (fails : new.follower ≡ follow.after_failure old.follower) where
    none_happens : new.source ≡ old.source → new.target ≡ old.target → Happens old new
    none_happens p q = (
      LossBefore,
      ap (λ z. at z new.source new.target) fails
          ∙ both (follow.after_failure old.follower) old.source old.target new.source new.target p q,
    )

    all_happens : (call : follow.Call) (answer : follow.Answer) → follow.next_call old.follower ≡ Some call
        → Serves (IsExact limit) (IsExact limit) call answer old.source old.target new.source new.target
        → Happens old new
    all_happens call answer owes serves =
        let w = world_at limit sessions old in
        let v = world_at limit sessions new in (
          LossAfter,
          subst (λ o. MatchOption o (v ≡ w) (λ c. (a : follow.Answer) × (mid : World) × IsAnswered w c a mid
              × (v ≡ record mid { follower = follow.after_failure old.follower })))
              (sym owes) (
                answer,
                at old.follower new.source new.target,
                serves_answers old.follower call answer old.source old.target new.source new.target serves,
                ap (λ z. at z new.source new.target) fails,
              ),
        )

    part_happens : (call : follow.Call) → follow.next_call old.follower ≡ Some call
        → IsPartAt (side_of call) call old.source old.target new.source new.target → Happens old new
    part_happens (follow.Merge docs) owes (q, (count, p)) =
        let w = world_at limit sessions old in
        let v = world_at limit sessions new in (
          PartialMerge count,
          subst (λ (o : Option follow.Call). IsPartialMerge w o count v) (sym owes)
              (ap (λ z. at z new.source new.target) fails
              ∙ (ap (λ (z : PeerContents). at (follow.after_failure old.follower) z new.target) q
              ∙ ap (λ (z : PeerContents). at (follow.after_failure old.follower) old.source z) p)),
        )
    part_happens (follow.LocalGet follow.Source) owes (p, q) = absurd p
    part_happens (follow.LocalGet follow.Target) owes (q, p) = absurd p
    part_happens (follow.Changes since) owes (p, q) = absurd p
    part_happens (follow.RevsDiff asked) owes (q, p) = absurd p
    part_happens (follow.OpenRevs id revs) owes (p, q) = absurd p
    part_happens (follow.LocalPut follow.Source log) owes (p, q) = absurd p
    part_happens (follow.LocalPut follow.Target log) owes (q, p) = absurd p

    left_happens : (call : follow.Call) → follow.next_call old.follower ≡ Some call
        → IsLeft (side_of call) call old.source old.target new.source new.target → Happens old new
    left_happens call owes (inl (p, q)) = none_happens p q
    left_happens call owes (inr (inl (answer, serves))) = all_happens call answer owes serves
    left_happens call owes (inr (inr part)) = part_happens call owes part

  fails_happens : (fault : FollowFault) (old new : FollowState PeerContents PeerContents)
      → FailsSo (IsExact limit) (IsExact limit) (IsExactLoss limit) (IsExactLoss limit) fault old new
      → Happens old new
  fails_happens fault old new (call, owes, fails, inl (answer, serves, told)) =
      all_happens old new fails call answer owes serves
  fails_happens fault old new (call, owes, fails, inr (told, loses)) =
      left_happens old new fails call owes
      (lost (side_of call) call old.source old.target new.source new.target loses)

pub exact_walks_run : ExactWalksRun
exact_walks_run limit sessions old new (between, walks, rests) =
    walk_runs limit sessions between old new walks

pub exact_breaks_run : ExactBreaksRun
exact_breaks_run limit sessions fault old new (between, mid, walks, fails) =
    let r = walk_runs limit sessions between old mid walks in
    let e = fails_happens limit sessions fault mid new fails in (
      r.0 ++ e.0 ∷ [],
      run_more r.0 e.0 (world_at limit sessions old) (world_at limit sessions mid)
          (world_at limit sessions new) r.1 e.1,
    )

goes_on : (limit : ℕ) (sessions : List (List ℕ)) (events : List Event) (old new : FollowState PeerContents PeerContents)
    → Run (empty_world limit) events (world_at limit sessions old) → HasRun limit sessions old new
    → IsFaithful (world_at limit sessions new)
goes_on limit sessions events old new r (more, s) =
    faithful limit (events ++ more) (world_at limit sessions new)
    (run_on events more (empty_world limit) (world_at limit sessions old) (world_at limit sessions new) r s)

pub exact_peers_copy : ExactPeersCopy
exact_peers_copy limit sessions events fault old new r (inl walk) =
    goes_on limit sessions events old new r (exact_walks_run limit sessions old new walk)
exact_peers_copy limit sessions events fault old new r (inr breaks) =
    goes_on limit sessions events old new r (exact_breaks_run limit sessions fault old new breaks)
