-- own: sessions that are stepped: the view of a session, one step, and the run of all steps.
use Rattle.std.specs.Prelude.{◌≡◌, ⊤, ◌<◌, ◌≤◌, ◌⊎◌, ℕ, List, [], ◌∷◌, ◌++◌}
use Rattle.std.specs.Prelude.{Bool, true, false, length, take, IsSome, Option, Some}
use Rattle.std.specs.Prelude.{None, Ok, Err}
use Rattle.std.specs.List.{flat_map}
use Rattle.hub_http.specs.Boxes.{arrived_bytes, faults_in, is_over, pending_in}
use Rattle.hub_http.specs.Counts.{HasGrown}
use Rattle.hub_http.specs.Offers.{IsShort}
use Rattle.hub_http.specs.Stream.{PlainRequest, Spells}
use Rattle.hub_http.specs.declared.fault.HttpFault.TheVariants as fault
use Rattle.hub_session.specs.StreamItem.{StreamItem}
use Rattle.hub_session.specs.declared.service.Answer.TheVariants.{Stream}
use Rattle.hub_session.specs.declared.closing.Closing.{Closing}
use Rattle.hub_session.specs.declared.closing.Closing.TheVariants.{Finished, Fault, Broken}
use Rattle.hub_session.specs.declared.closing.StreamEnd.{StreamEnd}
use Rattle.hub_session.specs.declared.item.Sending.{Sending}
use Rattle.hub_session.specs.declared.machine.Place.{Place}
use Rattle.hub_session.specs.declared.machine.Place.TheVariants.{Between, Within, Closed}
use Rattle.hub_session.specs.declared.machine.Session.{Session}
use Rattle.hub_session.specs.declared.machine.Step.{Step}
use Rattle.hub_session.specs.declared.machine.Step.TheVariants.{Served, WantsInput}
use Rattle.hub_session.specs.declared.machine.Step.TheVariants.{WantsRoom, WantsNews, Ended}
use Rattle.hub_session.specs.Feeds.{HasStreamed, IsStreamed, items_text, rows_behind}
use Rattle.hub_session.specs.Replies.{fault_text}
use Rattle.hub_session.specs.Rules.{Rules, Moment, moment}
use Rattle.hub_session.specs.Sessions.{Exchange, HasServed, IsServed, IsSession, after_stream}
use Rattle.hub_session.specs.Sessions.{exchange_text, is_head, session_state, stream_head}

-- the view of a session: the part of it that contracts speak of
pub record SessionView (S : Type 0) : Type 0 where
  pub place : Place
  pub bytes : List ℕ  -- the bytes that came and that no request took
  pub over : Bool  -- no more bytes come
  pub service : S
  pub pending : List ℕ  -- the bytes in its outbox

-- the view of this session
abbrev pub session_view : {S : Type 0} → Session S → SessionView S
session_view session = record {
  place = session.place;
  bytes = arrived_bytes session.inbox;
  over = is_over session.inbox;
  service = session.service;
  pending = pending_in session.outbox;
}

-- the moment of its connection, where the bytes in the outbox count as written
abbrev pub moment_of : {S : Type 0} → SessionView S → Moment S
moment_of x = moment x.service (Some x.pending)

-- a session closes for the end of its input
abbrev pub IsOfEnd : Option Closing → Type 0
IsOfEnd (Some Finished) = ⊤
IsOfEnd (Some (Fault fault.Ended)) = ⊤
IsOfEnd next = ⊥

-- ---- one step

-- the place of a session after an answer: closed for this reason, or between two requests
abbrev pub place_behind : Option Closing → Place
place_behind None = Between
place_behind (Some closing) = Closed closing

-- the result of the step that ended an answer
abbrev pub step_behind : Option Closing → Step
step_behind None = Served
step_behind (Some closing) = Ended closing

-- The views of a session before and after a step that did something. A GET of a document is one step: one
-- exchange. A GET of a feed of two rows is four: the head of the stream, each row, and the End.
pub data Steps {S : Type 0} (rules : Rules S) (old new : SessionView S) (step : Step) : Type 0 where
  -- the next request was answered whole, or there was none, and the session closed or goes on
  exchanges : (next : Option Closing) → old.place ≡ Between → new.place ≡ place_behind next
      → step ≡ step_behind next → new.over ≡ old.over → (IsOfEnd next → old.over ≡ true)
      → IsServed rules old.bytes next (Some new.bytes) (moment_of old) (moment_of new)
      → Steps rules old new step
  -- the next request was answered by a stream, and the head of the stream was put into the outbox
  begins : (asked : PlainRequest) (sending : Sending) → old.place ≡ Between → new.place ≡ Within sending asked.close
      → step ≡ Served → new.over ≡ old.over → sending.rows ≡ 0 → Spells old.bytes asked new.bytes
      → rules.answers old.service asked (Stream sending.mode sending.life) new.service → is_head asked ≡ false
      → new.pending ≡ old.pending ++ stream_head asked.close sending.mode
      → Steps rules old new step
  -- a row or a beat of the stream was put into the outbox
  sends : (sending : Sending) (rows : ℕ) (close : Bool) → old.place ≡ Within sending close
      → new.place ≡ Within (record sending { rows = rows }) close → step ≡ Served → new.over ≡ old.over
      → new.bytes ≡ old.bytes
      → IsStreamed rules sending.mode sending.life 0 sending.rows (Ok rows) (moment_of old) (moment_of new)
      → Steps rules old new step
  -- the stream ended, whatever number of items it had, and the session closed or goes on
  ends : (sending : Sending) (close : Bool) (end : StreamEnd) → old.place ≡ Within sending close
      → new.place ≡ place_behind (after_stream close end) → step ≡ step_behind (after_stream close end)
      → new.over ≡ old.over → new.bytes ≡ old.bytes
      → ((sent : ℕ) → sending.rows ≤ sent
      → IsStreamed rules sending.mode sending.life sent sending.rows (Err end)
      (moment_of old) (moment_of new))
      → Steps rules old new step

-- The views of a session before and after a step, and the step's result. A step that waits changes nothing.
-- It waits for input where the bytes that came are no whole request and more may come. It waits for room
-- where the outbox has bytes, and for news where it is within a stream.
abbrev pub IsStepped : {S : Type 0} → Rules S → SessionView S → Step → SessionView S → Type 0
IsStepped rules old Served new = Steps rules old new Served
IsStepped rules old (Ended closing) new =
    Steps rules old new (Ended closing) ⊎ ((old.place ≡ Closed closing) × (new ≡ old))
IsStepped rules old WantsInput new =
    (old.place ≡ Between) × (old.over ≡ false) × IsShort old.bytes × (new ≡ old)
IsStepped rules old WantsRoom new = (0 < length old.pending) × (new ≡ old)
IsStepped rules old WantsNews new =
    (sending : Sending) × (close : Bool) × (old.place ≡ Within sending close) × (new ≡ old)

-- A session that stood at this place took a step as `IsStepped` says. Where the step closed it as Broken,
-- its outbox found no memory meanwhile.
abbrev pub IsStepFrom : {S : Type 0} → Place → Rules S → (old : Session S) → Step → (new : Session S) → Type 0
IsStepFrom place rules old step new = old.place ≡ place
    → IsStepped rules (session_view old) step (session_view new)
    × (step ≡ Ended Broken → HasGrown (faults_in old.outbox) (faults_in new.outbox))

-- ---- other closings

-- why a session at this place closed, if it did
abbrev pub closing_at : Place → Option Closing
closing_at Between = None
closing_at (Within sending close) = None
closing_at (Closed closing) = Some closing

-- The views of a session before and after a closing that tells out of memory. The refusal was put behind the
-- bytes of the outbox, or a front of the refusal where the outbox found no memory. Nothing else changed but
-- the place. So where the end of an answer is in the outbox, the refusal stands behind it.
pub data TellsNoMemory {S : Type 0} (old new : SessionView S) : Type 0 where
  -- the whole refusal
  whole : new ≡ record old {
    place = Closed (Fault fault.NoMemory);
    pending = old.pending ++ fault_text fault.NoMemory;
  }
      → TellsNoMemory old new
  -- the first bytes of the refusal, so many
  front : (count : ℕ) → new ≡ record old {
    place = Closed Broken;
    pending = old.pending ++ take count (fault_text fault.NoMemory);
  }
      → TellsNoMemory old new

-- The views of a session at this place before and after a call that gives it up. Between two requests it
-- closes as Broken. Within a stream it closes as Broken too, and its service drops the stream. A closed
-- session stays as it is.
abbrev pub GivesUpAt : {S : Type 0} → Place → Rules S → SessionView S → SessionView S → Type 0
GivesUpAt Between rules old new = new ≡ record old { place = Closed Broken }
GivesUpAt (Within sending close) rules old new =
    rules.drops old.service new.service
    × (new ≡ record old { place = Closed Broken; service = new.service })
GivesUpAt (Closed closing) rules old new = new ≡ old

-- ---- all steps

-- A session as its surroundings see it: its service at the beginning, the bytes that were offered, and the
-- bytes that left its outbox, each in order.
pub record Run (S : Type 0) : Type 0 where
  pub start : S
  pub offered : List ℕ
  pub gone : List ℕ

-- the run of a session that begins
abbrev pub new_run : {S : Type 0} → S → Run S
new_run start = record { start = start; offered = []; gone = [] }

-- the run after more bytes were offered
abbrev pub with_offered : {S : Type 0} → Run S → List ℕ → Run S
with_offered run bytes = record { start = run.start; offered = run.offered ++ bytes; gone = run.gone }

-- the run after more bytes left the outbox
abbrev pub with_gone : {S : Type 0} → Run S → List ℕ → Run S
with_gone run bytes = record { start = run.start; offered = run.offered; gone = run.gone ++ bytes }

-- A session that began with this service, over these offered bytes, has had whole exchanges. It wrote their
-- texts, one after the other. `bytes` are the bytes that are left, and `service` is its service now.
pub record IsBetween {S : Type 0} (rules : Rules S) (start : S) (offered bytes : List ℕ) (service : S)
    (text : List ℕ) : Type 0 where
  pub exchanges : List Exchange
  pub count : ℕ
  pub served : HasServed rules (session_state 0 offered start) exchanges (session_state count bytes service)
  pub text_is : text ≡ flat_map exchange_text exchanges

-- A session has had whole exchanges, and took a request that was answered by a stream, of which these items
-- were sent. It wrote the texts of the exchanges, the head of the stream, and the texts of the items.
pub record IsWithin {S : Type 0} (rules : Rules S) (start : S) (offered bytes : List ℕ) (service : S)
    (text : List ℕ) (sending : Sending) (close : Bool) : Type 0 where
  pub exchanges : List Exchange
  pub count : ℕ
  pub front : List ℕ  -- the bytes that were left before the request
  pub mid : S  -- the service before the request
  pub begun : S  -- the service as it answered
  pub asked : PlainRequest
  pub items : List StreamItem
  pub sent : ℕ  -- how many items were sent
  pub served : HasServed rules (session_state 0 offered start) exchanges (session_state count front mid)
  pub spelt : Spells front asked bytes
  pub answered : rules.answers mid asked (Stream sending.mode sending.life) begun
  pub has_body : is_head asked ≡ false
  pub close_is : close ≡ asked.close
  pub streamed : HasStreamed rules 0 begun items sent service
  pub rows_are : sending.rows ≡ rows_behind 0 items
  pub text_is : text ≡ flat_map exchange_text exchanges
      ++ (stream_head asked.close sending.mode ++ items_text sending.mode sending.life 0 items)

-- The work of a session from its beginning to this place, where it wrote this text. Between two requests it
-- is whole exchanges. Within a stream it is these and the beginning of the stream. At a closing it is a
-- whole session over the bytes that were offered. Only where the input is over did a session close for its
-- end.
abbrev pub HasDone : {S : Type 0} → Rules S → (start : S) → (offered bytes : List ℕ) → (over : Bool)
    → (service : S) → (text : List ℕ) → Place → Type 0
HasDone rules start offered bytes over service text Between = IsBetween rules start offered bytes service text
HasDone rules start offered bytes over service text (Within sending close) =
    IsWithin rules start offered bytes service text sending close
HasDone rules start offered bytes over service text (Closed closing) =
    IsSession rules offered closing (moment start (Some [])) (moment service (Some text))
    × (IsOfEnd (Some closing) → over ≡ true)

-- A session has this run: the bytes that left its outbox, and then those in it, are the text that it wrote.
-- Where two requests were answered, and the first answer left with 3 bytes of the second, the outbox has the
-- other bytes of the second.
abbrev pub HasRun : {S : Type 0} → Rules S → Run S → SessionView S → Type 0
HasRun rules run x =
    HasDone rules run.start run.offered x.bytes x.over x.service (run.gone ++ x.pending) x.place

-- A session that had a run before a call has the next run after it. Where 3 bytes were offered, that is the
-- run before with these 3 offered.
abbrev pub RunsOn : {S : Type 0} → Rules S → (Run S → Run S) → SessionView S → SessionView S → Type 0
RunsOn rules next old new = (run : Run _) → HasRun rules run old → HasRun rules (next run) new

-- The view of a session after these bytes were offered, by whether its input was over. The bytes come after
-- the others. An empty list says that no more come, and bytes after that are dropped. Where ab came and cd
-- are offered, abcd came.
abbrev pub offered_to : {S : Type 0} → (over : Bool) → List ℕ → SessionView S → SessionView S
offered_to true bytes x = x
offered_to false [] x = record x { over = true }
offered_to false (b ∷ bs) x = record x { bytes = x.bytes ++ b ∷ bs }

-- the run of a session after these bytes were offered
abbrev pub run_offered : {S : Type 0} → (over : Bool) → List ℕ → Run S → Run S
run_offered true bytes run = run
run_offered false bytes run = with_offered run bytes

-- A session was given up. Its views before and after that are as `GivesUpAt` says, the session is closed
-- then, and the run that it had is still its run.
pub record IsGivenUp {S : Type 0} (rules : Rules S) (old new : SessionView S) : Type 0 where
  pub given_up : GivesUpAt old.place rules old new
  pub closed : IsSome (closing_at new.place)
  pub run : RunsOn rules (λ run. run) old new
