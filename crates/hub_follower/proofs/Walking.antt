-- The steps of a follower from call to call.
use Rattle.std.proofs.Common.{◌≡◌, ◌∙◌, ◌+◌, ◌≤◌, ◌⊎◌, inl, inr, refl, sym, subst}
use Rattle.std.proofs.Common.{⊎_elim, arith, List, [], ◌∷◌, ◌++◌, length, map, Bool}
use Rattle.std.proofs.Common.{true, false, Option, Some, None, Result, Ok, Err}
use Rattle.std.specs.Prelude.{OnErr, IfErr}
use Rattle.std.specs.Result.{IsErrAnd}
use Rattle.hub_model.specs.Journal.{Edit}
use Rattle.hub_model.specs.Missing.{RevisionsOfDoc}
use Rattle.hub_follow_model.specs.Follower as follow
use Rattle.hub_follow_model.specs.Sequence.{seq_of}
use Rattle.hub_follow_model.specs.World as world
use Rattle.hub_follow_model.specs.declared.seq.Seq.{Seq}
use Rattle.hub_follower.specs.Peers.{Gives, Fails, FollowState, Steps, FailsSo, Breaks, Walks}
use Rattle.hub_follower.specs.Peers.{Reaches, HasCountedCalls, IsPastAsking, calls_left, Idles}
use Rattle.hub_follower.specs.declared.fault.FollowFault.{FollowFault}

-- a round that fails leaves a follower that owes nothing as it was
pub round_fails : (core : follow.Follower) → world.is_free core ≡ true
    → follow.after_failure (world.round_start core) ≡ core
round_fails follow.Down f = refl
round_fails (follow.SourceStart name) f = absurd (cc)
round_fails (follow.TargetStart name source) f = absurd (cc)
round_fails (follow.Ready s) f = refl
round_fails (follow.Busy s work) f = absurd (cc)

-- a checkpoint that fails leaves a follower that owes nothing as it was
pub checkpoint_fails : (core : follow.Follower) → world.is_free core ≡ true
    → follow.after_failure (world.checkpoint_start core) ≡ core
checkpoint_fails follow.Down f = refl
checkpoint_fails (follow.SourceStart name) f = absurd (cc)
checkpoint_fails (follow.TargetStart name source) f = absurd (cc)
checkpoint_fails (follow.Ready s) f = refl
checkpoint_fails (follow.Busy s work) f = absurd (cc)

-- the facts after an answer: the follower owes no call, or a failure leaves the same follower as before
abbrev pub Leads : follow.Follower → follow.Follower → Type 0
Leads core core' =
    ((follow.next_call core' ≡ None) ⊎ (follow.after_failure core' ≡ follow.after_failure core))
    × IsPastAsking core' × (IsPastAsking core → HasCountedCalls core')
    × (HasCountedCalls core → (calls_left core' + 1 ≤ calls_left core))

rests : (core core' : follow.Follower) (session : follow.Session) → core' ≡ follow.Ready session
    → (HasCountedCalls core → 1 ≤ calls_left core) → Leads core core'
rests core core' session e n =
    subst (λ z. Leads core z) (sym e) (inl refl, tt, (λ p. tt), (λ p. let m = n p in omega (arith, m)))

to_compare_leads : (session : follow.Session) (asked : List RevisionsOfDoc) (last : Seq) (core' : follow.Follower)
    → follow.comparison_or_ready session asked last ≡ core' → Leads (follow.Busy session follow.Listing) core'
to_compare_leads session [] last core' e =
    rests (follow.Busy session follow.Listing) core' (record session { place = last }) (sym e) (λ p. absurd p)
to_compare_leads session (a ∷ asked) last core' e =
    subst (λ z. Leads (follow.Busy session follow.Listing) z) e
    (inr refl, tt, (λ p. absurd p), (λ p. absurd p))

to_store_leads : (session : follow.Session) (work : follow.Phase) (got : List Edit) (last : Seq)
    (core' : follow.Follower)
    → follow.storage_or_ready session got last ≡ core'
    → (HasCountedCalls (follow.Busy session work) → 2 ≤ calls_left (follow.Busy session work))
    → Leads (follow.Busy session work) core'
to_store_leads session work [] last core' e n =
    rests (follow.Busy session work) core' (record session { place = last }) (sym e)
    (λ p. let m = n p in omega (arith, m))
to_store_leads session work (edit ∷ got) last core' e n =
    subst (λ z. Leads (follow.Busy session work) z) e
    (inr refl, tt, (λ p. tt), (λ p. let m = n p in omega (arith, m)))

to_fetch_leads : (session : follow.Session) (work : follow.Phase) (later : List RevisionsOfDoc) (got : List Edit)
    (last : Seq) (core' : follow.Follower)
    → follow.retrieval_or_storage session later got last ≡ core'
    → (HasCountedCalls (follow.Busy session work) → length later + 2 ≤ calls_left (follow.Busy session work))
    → Leads (follow.Busy session work) core'
to_fetch_leads session work [] got last core' e n = to_store_leads session work got last core' e n
to_fetch_leads session work (asked ∷ later) got last core' e n =
    subst (λ z. Leads (follow.Busy session work) z) e
    (inr refl, tt, (λ p. tt), (λ p. let m = n p in omega (arith, m)))

fetched_leads : (session : follow.Session) (next : RevisionsOfDoc) (later : List RevisionsOfDoc) (got : List Edit) (last : Seq)
    (o : Result (List Edit) follow.Fault) (core' : follow.Follower)
    → follow.after_retrieval session later got last o ≡ Ok core'
    → Leads (follow.Busy session (follow.Retrieval next later got last)) core'
fetched_leads session next later got last (Ok docs) core' e =
    to_fetch_leads session (follow.Retrieval next later got last) later
    (got ++ docs) last core' (cc) (λ p. omega arith)
fetched_leads session next later got last (Err fault) core' e = absurd (cc)

stored_leads : (session : follow.Session) (got : List Edit) (last : Seq) (maybe_fault : Option follow.Fault)
    (core' : follow.Follower)
    → follow.after_storage session last maybe_fault ≡ Ok core'
    → Leads (follow.Busy session (follow.Storage got last)) core'
stored_leads session got last None core' e =
    rests (follow.Busy session (follow.Storage got last)) core' (record session { place = last }) (cc)
    (λ p. omega arith)
stored_leads session got last (Some fault) core' e = absurd (cc)

work_leads : (session : follow.Session) (work : follow.Phase) (answer : follow.Answer)
    (core' : follow.Follower)
    → follow.phase_result session work answer ≡ Ok core' → Leads (follow.Busy session work) core'
work_leads session follow.Listing (follow.ChangesAnswer rows last life) core' e =
    to_compare_leads session (map follow.revisions_of_row rows) (seq_of life last) core' (cc)
work_leads session follow.Listing answer core' e = absurd (cc)
work_leads session (follow.Comparison asked last) (follow.RevsDiffAnswer diffs) core' e =
    to_fetch_leads session (follow.Comparison asked last)
    (map follow.missing_revisions diffs) [] last core' (cc) (λ p. absurd p)
work_leads session (follow.Comparison asked last) answer core' e = absurd (cc)
work_leads session (follow.Retrieval next later got last) (follow.OpenRevsAnswer docs) core' e =
    fetched_leads session next later got last _ core' e
work_leads session (follow.Retrieval next later got last) answer core' e = absurd (cc)
work_leads session (follow.Storage got last) (follow.MergeAnswer outcomes) core' e =
    stored_leads session got last _ core' e
work_leads session (follow.Storage got last) answer core' e = absurd (cc)
work_leads session follow.SourceCheckpoint follow.PutAnswer core' e =
    let same : follow.Busy session follow.TargetCheckpoint ≡ core' = cc in
    subst (λ z. Leads (follow.Busy session follow.SourceCheckpoint) z) same
    (inr refl, tt, (λ p. tt), (λ p. omega arith))
work_leads session follow.SourceCheckpoint answer core' e = absurd (cc)
work_leads session follow.TargetCheckpoint follow.PutAnswer core' e =
    rests (follow.Busy session follow.TargetCheckpoint) core' session (cc) (λ p. omega arith)
work_leads session follow.TargetCheckpoint answer core' e = absurd (cc)

pub leads : (core : follow.Follower) (answer : follow.Answer) (core' : follow.Follower)
    → follow.answer_result core answer ≡ Ok core' → Leads core core'
leads (follow.SourceStart name) (follow.LogAnswer log) core' e =
    let same : follow.TargetStart name log ≡ core' = cc in
    subst (λ z. Leads (follow.SourceStart name) z) same (inr refl, tt, (λ p. tt), (λ p. omega arith))
leads (follow.SourceStart name) answer core' e = absurd (cc)
leads (follow.TargetStart name source) (follow.LogAnswer log) core' e =
    rests (follow.TargetStart name source) core' (follow.new_session name source log) (cc) (λ p. omega arith)
leads (follow.TargetStart name source) answer core' e = absurd (cc)
leads (follow.Busy s work) answer core' e = work_leads s work answer core' e
leads follow.Down answer core' e = absurd (cc)
leads (follow.Ready s) answer core' e = absurd (cc)

counted_past : (core : follow.Follower) → HasCountedCalls core → IsPastAsking core
counted_past follow.Down c = tt
counted_past (follow.SourceStart name) c = tt
counted_past (follow.TargetStart name source) c = tt
counted_past (follow.Ready s) c = tt
counted_past (follow.Busy s follow.Listing) c = absurd c
counted_past (follow.Busy s (follow.Comparison asked last)) c = tt
counted_past (follow.Busy s (follow.Retrieval next later got last)) c = tt
counted_past (follow.Busy s (follow.Storage got last)) c = tt
counted_past (follow.Busy s follow.SourceCheckpoint) c = tt
counted_past (follow.Busy s follow.TargetCheckpoint) c = tt

pub past_none : (core : follow.Follower) → follow.next_call core ≡ None
    → IsPastAsking core × HasCountedCalls core
past_none follow.Down e = (tt, tt)
past_none (follow.SourceStart name) e = (tt, tt)
past_none (follow.TargetStart name source) e = (tt, tt)
past_none (follow.Ready s) e = (tt, tt)
past_none (follow.Busy s work) e = absurd (cc)

module _ {S T : Type 0} (gives_s : Gives S) (gives_t : Gives T) where
  pub walk_more : (between : List (FollowState S T)) (old mid new : FollowState S T)
      → Walks gives_s gives_t between old mid → Steps gives_s gives_t mid new
      → Walks gives_s gives_t (between ++ new ∷ []) old new
  walk_more [] old mid new e p = (subst (λ (z : FollowState S T). Steps gives_s gives_t z new) e p, refl)
  walk_more (q ∷ between) old mid new (x, w) p = (x, walk_more between q mid new w p)

  pub reach_none : (old : FollowState S T) → Reaches gives_s gives_t old old
  reach_none old = record { walk = ([], refl); left = inr refl }

  -- a step leaves a follower that is past the call for changes
  pub past_asking : (made : Bool) (old new : FollowState S T) → Idles made old new
      → (made ≡ true → Steps gives_s gives_t old new) → IsPastAsking new.follower
  past_asking false old new idle ok =
      let (n, e) = idle refl in
      subst (λ (z : FollowState S T). IsPastAsking z.follower) (sym e) (past_none old.follower n).0
  past_asking true old new idle ok = let p = ok refl in (leads old.follower p.1 new.follower p.4).1

  pub counted : (made : Bool) (old new : FollowState S T)
      → Idles made old new → (made ≡ true → Steps gives_s gives_t old new) → IsPastAsking old.follower
      → HasCountedCalls new.follower
  counted false old new idle ok past =
      let (n, e) = idle refl in
      subst (λ (z : FollowState S T). HasCountedCalls z.follower) (sym e) (past_none old.follower n).1
  counted true old new idle ok past = let p = ok refl in (leads old.follower p.1 new.follower p.4).2 past

  pub counted_more : (old new : FollowState S T) → Steps gives_s gives_t old new → HasCountedCalls old.follower
      → HasCountedCalls new.follower
  counted_more old new p c = (leads old.follower p.1 new.follower p.4).2 (counted_past old.follower c)

  pub fewer_left : (old new : FollowState S T) → Steps gives_s gives_t old new → HasCountedCalls old.follower
      → calls_left new.follower + 1 ≤ calls_left old.follower
  fewer_left old new p c = (leads old.follower p.1 new.follower p.4).3 c

  module _ (old mid : FollowState S T) (r : Reaches gives_s gives_t old mid) where
    -- while a call is owed, a failure leaves the same follower as a failure of the first call
    owing_left : (call : follow.Call) → follow.next_call mid.follower ≡ Some call
        → follow.after_failure mid.follower ≡ follow.after_failure old.follower
    owing_left call o =
        ⊎_elim (λ (n : follow.next_call mid.follower ≡ None).
        absurd (let u : Some call ≡ None = sym o ∙ n in cc)) (λ p. p) r.left

    pub reach_more : (new : FollowState S T) → Steps gives_s gives_t mid new → Reaches gives_s gives_t old new
    reach_more new p = record {
      walk = (r.walk.0 ++ new ∷ [], walk_more r.walk.0 old mid new r.walk.1 p);
      left =
          ⊎_elim (λ n. inl n) (λ q. inr (q ∙ owing_left p.0 p.2)) (leads mid.follower p.1 new.follower p.4).0;
    }

    pub reach_on : (made : Bool) (new : FollowState S T) → Idles made mid new
        → (made ≡ true → Steps gives_s gives_t mid new) → Reaches gives_s gives_t old new
    reach_on true new idle ok = reach_more new (ok refl)
    reach_on false new idle ok =
        let (n, e) = idle refl in subst (λ (z : FollowState S T). Reaches gives_s gives_t old z) (sym e) r

    module _ (loses_s : Fails S) (loses_t : Fails T) (fault : FollowFault) (new : FollowState S T)
        (p : FailsSo gives_s gives_t loses_s loses_t fault mid new) where
      pub reach_breaks : Breaks gives_s gives_t loses_s loses_t fault old new
      reach_breaks = (r.walk.0, mid, r.walk.1, p)

      pub reach_fails : new.follower ≡ follow.after_failure old.follower
      reach_fails = p.2 ∙ owing_left p.0 p.1

-- a fact that holds in every case holds where a call failed
pub on_err : {T E : Type 0} (r : Result T E) (P : Type 0) → P → OnErr r P
on_err (Ok x) P p = tt
on_err (Err e) P p = p

-- a fault that is passed on as it is keeps its facts
pub if_err_on : {T E : Type 0} (r : Result T E) (P : E → Type 0) (fault : E)
    → IsErrAnd r (λ e. e ≡ fault) → P fault → IfErr r P
if_err_on (Ok x) P fault same p = tt
if_err_on (Err e) P fault same p = subst P (sym same) p
