-- One step of a session, and a closing that tells out of memory.
use Rattle.std.proofs.Common.{◌≡◌, ◌<◌, ◌≤◌, ◌⊎◌, ℕ, List, [], ◌++◌, Bool, true, false, length}
use Rattle.std.proofs.Common.{Option, Some, None, Err, refl, sym, ap, subst, ◌∙◌, append-nil}
use Rattle.std.proofs.Common.{inl, inr, arith}
use Rattle.std.proofs.lemmas.Grind.{common_steps}
use Rattle.std.specs.Io.KnownBytes.{Appends}
use Rattle.std.proofs.KnownBytes.{Appends-nil}
use Rattle.hub_http.specs.Counts.{Sends, last_count}
use Rattle.hub_http.specs.declared.fault.HttpFault.{HttpFault}
use Rattle.hub_http.specs.declared.fault.HttpFault.TheVariants.{NoMemory, BadHead, HeadTooLong, BodyTooLong}
use Rattle.hub_http.specs.declared.fault.HttpFault.TheVariants.{Version, Coding, Ended, IoFault}
use Rattle.hub_http.specs.Offers.{FaultsSoFar}
use Rattle.hub_http.specs.Stream.{PlainRequest, Spells, Faults}
use Rattle.hub_session.specs.declared.closing.Closing.{Closing}
use Rattle.hub_session.specs.declared.closing.Closing.TheVariants.{Finished, Fault, Broken}
use Rattle.hub_session.specs.declared.closing.StreamEnd.{StreamEnd}
use Rattle.hub_session.specs.declared.closing.StreamEnd.TheVariants as stream
use Rattle.hub_session.specs.declared.item.Sending.{Sending}
use Rattle.hub_session.specs.declared.machine.Place.TheVariants.{Between, Within, Closed}
use Rattle.hub_session.specs.declared.machine.Step.{Step}
use Rattle.hub_session.specs.declared.machine.Step.TheVariants as step
use Rattle.hub_session.specs.Feeds.{IsStreamed, Streams}
use Rattle.hub_session.specs.Replies.{fault_text}
use Rattle.hub_session.specs.Rules.{Rules, Moment}
use Rattle.hub_session.specs.Runs.{HasRun, IsOfEnd, IsStepped, Run, SessionView, Steps, TellsNoMemory}
use Rattle.hub_session.specs.Runs.{moment_of, place_behind, step_behind, with_offered}
use Rattle.hub_session.specs.Sessions.{HasAnswer, IsServed, after_stream, is_broken}
use Rattle.hub_session.proofs.RunLemmas.{not_end, offered_run, stepped_run}
use Rattle.hub_session.proofs.SessionLemmas.{faulty_closes}

-- a step that closed a session as broken
pub step_broken : (next : Option Closing) → step_behind next ≡ step.Ended Broken → next ≡ Some Broken
step_broken None e = absurd (cc)
step_broken (Some closing) e = let same : closing ≡ Broken = cc in ap (λ c. Some c) same

module _ {S : Type 0} (rules : Rules S) where
  -- the result of a step that ended an answer, by why the session closes
  of_next : (old new : SessionView S) (next : Option Closing) → Steps rules old new (step_behind next)
      → IsStepped rules old (step_behind next) new
  of_next old new None h = h
  of_next old new (Some closing) h = inl h

  by_next : (old new : SessionView S) (next : Option Closing) (came : Step) → came ≡ step_behind next
      → Steps rules old new (step_behind next) → IsStepped rules old came new
  by_next old new next came is h = subst (λ s. IsStepped rules old s new) (sym is) (of_next old new next h)

  -- the next request was answered whole
  pub stepped_whole : (asked : PlainRequest) (next : Option Closing) (old mid new : SessionView S) (came : Step)
      → old.place ≡ Between → Spells old.bytes asked mid.bytes → mid.over ≡ old.over
      → HasAnswer rules asked next (moment_of old) (moment_of mid)
      → new ≡ record mid { place = place_behind next } → came ≡ step_behind next
      → IsStepped rules old came new
  stepped_whole asked next old mid new came place spelt over h is came_is =
      subst (IsStepped rules old came) (sym is)
      (by_next old (record mid { place = place_behind next }) next came came_is
      (Steps.exchanges next place refl refl over
      (λ e. absurd (not_end rules h.exchange _ next _ h.goes.goes e))
      (IsServed.answered
      (record { asked = asked; rest = mid.bytes; spelt = spelt; left_is = refl; answer = h }))))

  -- the input ended between two requests
  pub stepped_end : (old mid new : SessionView S) (came : Step) → old.place ≡ Between → old.over ≡ true
      → old.bytes ≡ [] → mid.over ≡ old.over → mid.service ≡ old.service → mid.pending ≡ old.pending
      → new ≡ record mid { place = place_behind (Some Finished) } → came ≡ step_behind (Some Finished)
      → IsStepped rules old came new
  stepped_end old mid new came place over none kept service pending e is =
      subst (IsStepped rules old came) (sym e)
      (by_next old (record mid { place = place_behind (Some Finished) }) (Some Finished) came is
      (Steps.exchanges (Some Finished) place refl refl kept (λ _. over)
      (IsServed.closed
      (record {
        closing = Finished;
        text = [];
        next_is = refl;
        closes = (none, refl);
        same = service;
        written = pending ∙ sym (append-nil old.pending);
      }))))

fault_is : (over : Bool) (bytes : List ℕ) (fault : HttpFault) → FaultsSoFar over bytes fault
    → Faults bytes fault
fault_is over bytes NoMemory f = f
fault_is over bytes BadHead f = f
fault_is over bytes HeadTooLong f = f
fault_is over bytes BodyTooLong f = f
fault_is over bytes Version f = f
fault_is over bytes Coding f = f
fault_is over bytes Ended f = f.1
fault_is over bytes IoFault f = tt

-- a fault that is an end of the input comes only where the input is over
fault_ends : (over : Bool) (bytes : List ℕ) (fault : HttpFault) → FaultsSoFar over bytes fault
    → IsOfEnd (Some (Fault fault)) → over ≡ true
fault_ends over bytes NoMemory f x = absurd x
fault_ends over bytes BadHead f x = absurd x
fault_ends over bytes HeadTooLong f x = absurd x
fault_ends over bytes BodyTooLong f x = absurd x
fault_ends over bytes Version f x = absurd x
fault_ends over bytes Coding f x = absurd x
fault_ends over bytes Ended f x = f.0
fault_ends over bytes IoFault f x = absurd f

closing_ends : (over : Bool) (bytes : List ℕ) (fault : HttpFault) (closing : Closing)
    → FaultsSoFar over bytes fault
    → (closing ≡ Fault fault) ⊎ (closing ≡ Broken) → IsOfEnd (Some closing) → over ≡ true
closing_ends over bytes fault closing f (inl is) =
    subst (λ c. IsOfEnd (Some c) → over ≡ true) (sym is) (fault_ends over bytes fault f)
closing_ends over bytes fault closing f (inr is) =
    subst (λ c. IsOfEnd (Some c) → over ≡ true) (sym is) (λ x. absurd x)

module _ {S : Type 0} (rules : Rules S) where
  -- no request can be read, and the fault was told
  pub stepped_fault : (fault : HttpFault) (closing : Closing) (old mid new : SessionView S) (came : Step)
      → old.place ≡ Between → FaultsSoFar old.over old.bytes fault → mid.over ≡ old.over
      → mid.service ≡ old.service
      → (closing ≡ Fault fault) ⊎ (closing ≡ Broken)
      → Sends (is_broken closing) (Some old.pending) (Some mid.pending) (fault_text fault)
      → new ≡ record mid { place = place_behind (Some closing) } → came ≡ step_behind (Some closing)
      → IsStepped rules old came new
  stepped_fault fault closing old mid new came place f kept service why sent is came_is =
      subst (IsStepped rules old came) (sym is)
      (by_next rules old (record mid { place = place_behind (Some closing) }) (Some closing) came came_is
      (Steps.exchanges (Some closing) place refl refl kept
      (closing_ends old.over old.bytes fault closing f why)
      (IsServed.closed (record {
        closing = closing;
        text = fault_text fault;
        next_is = refl;
        closes = faulty_closes old.bytes fault closing (fault_is old.over old.bytes fault f) why;
        same = service;
        written = sent;
      }))))

  -- the stream ended
  pub stepped_ends : (sending : Sending) (close : Bool) (end : StreamEnd) (next : Option Closing)
      (old mid new : SessionView S) (came : Step)
      → old.place ≡ Within sending close → next ≡ after_stream close end
      → mid.over ≡ old.over → mid.bytes ≡ old.bytes
      → ((sent : ℕ) → sending.rows ≤ sent
      → IsStreamed rules sending.mode sending.life sent sending.rows (Err end)
      (moment_of old) (moment_of mid))
      → new ≡ record mid { place = place_behind next } → came ≡ step_behind next
      → IsStepped rules old came new
  stepped_ends sending close end next old mid new came place next_is kept bytes h is came_is =
      subst (IsStepped rules old came) (sym is)
      (by_next rules old (record mid { place = place_behind next }) next came came_is
      (Steps.ends sending close end place (ap place_behind next_is) (ap step_behind next_is) kept bytes h))

  -- a stream has too many items
  pub streamed_out : (sending : Sending) (old new : Moment S) → rules.drops old.service new.service
      → new.written ≡ old.written → sending.rows ≡ last_count
      → (sent : ℕ) → sending.rows ≤ sent
      → IsStreamed rules sending.mode sending.life sent sending.rows (Err stream.Exhausted) old new
  streamed_out sending old new drops same all sent low = (
    [],
    Streams.gives_up drops (subst (λ n. n ≤ sent) all low),
    subst (λ w. Appends old.written w []) (sym same) (Appends-nil old.written),
  )

-- bytes with more bytes behind them are not empty
some_behind : (bytes behind : List ℕ) → 0 < length behind → 0 < length (bytes ++ behind)
some_behind bytes behind some = grind (arith, common_steps)

module _ {S : Type 0} (rules : Rules S) (closing : Closing) (old new : SessionView S) (pending : List ℕ) where
  -- out of memory was told, and the place was set
  pub told_no_memory : (closing ≡ Fault NoMemory) ⊎ (closing ≡ Broken)
      → Sends (is_broken closing) (Some old.pending) (Some pending) (fault_text NoMemory)
      → new ≡ record old { place = Closed closing; pending = pending } → TellsNoMemory old new
  told_no_memory (inl is) sent shown =
      let whole : pending ≡ old.pending ++ fault_text NoMemory =
      subst (λ c. Sends (is_broken c) (Some old.pending) (Some pending) (fault_text NoMemory)) is sent in
      TellsNoMemory.whole (shown ∙ (cc))
  told_no_memory (inr is) sent shown =
      let front =
      subst (λ c. Sends (is_broken c) (Some old.pending) (Some pending) (fault_text NoMemory)) is sent in
      TellsNoMemory.front front.0 (shown ∙ (cc))

  -- out of memory was told for bytes that came, and the session has the run with these bytes offered
  pub no_memory_run : (run : Run S) (behind : List ℕ) → old.place ≡ Between → old.over ≡ false
      → 0 < length behind → (closing ≡ Fault NoMemory) ⊎ (closing ≡ Broken)
      → Sends (is_broken closing) (Some old.pending) (Some pending) (fault_text NoMemory)
      → new ≡ record old { place = Closed closing; pending = pending }
      → HasRun rules run old → HasRun rules (with_offered run behind) new
  no_memory_run run behind place awaited some why sent shown d =
      let all = record old { bytes = old.bytes ++ behind } in
      stepped_run rules (with_offered run behind) all new (step.Ended closing)
      (stepped_fault rules NoMemory closing all (record old { pending = pending }) new (step.Ended closing)
      place (some_behind old.bytes behind some) refl refl why sent shown refl)
      (offered_run rules run old all behind awaited refl d)
