-- RFC 9112, section 9 (persistent connections); own for the answers: a session's texts, and how it goes on.
use Rattle.std.specs.Prelude.{◌≡◌, ◌≤◌, ◌⊎◌, ℕ, ◌+◌, List, [], ◌∷◌, ◌++◌, Bool, true, false, Option, Some}
use Rattle.std.specs.Prelude.{None, if◌then◌else◌, codes, bytes_eq}
use Rattle.std.specs.List.{flat_map}
use Rattle.std.specs.Io.KnownBytes.{Appends}
use Rattle.hub_model.specs.declared.feeds.Mode.{Mode}
use Rattle.hub_http.specs.Counts.{CallCounts, last_count, Sends}
use Rattle.hub_http.specs.Chunks.{text_chunks}
use Rattle.hub_http.specs.Items.{feed_head}
use Rattle.hub_http.specs.Texts.{head_text, chunked_line, reply_text}
use Rattle.hub_http.specs.declared.reply.Reply.{Reply}
use Rattle.hub_http.specs.declared.fault.HttpFault.{HttpFault}
use Rattle.hub_http.specs.Stream.{PlainRequest, Spells, Faults}
use Rattle.hub_session.specs.StreamItem.{StreamItem}
use Rattle.hub_session.specs.declared.service.Answer.{Answer}
use Rattle.hub_session.specs.declared.service.Answer.TheVariants.{Whole, Stream}
use Rattle.hub_session.specs.declared.answering.Begun.{Begun}
use Rattle.hub_session.specs.declared.answering.Begun.TheVariants.{Answered, Streaming}
use Rattle.hub_session.specs.declared.closing.StreamEnd.{StreamEnd}
use Rattle.hub_session.specs.declared.closing.StreamEnd.TheVariants as stream
use Rattle.hub_session.specs.declared.closing.Closing.{Closing}
use Rattle.hub_session.specs.declared.closing.Closing.TheVariants.{Finished, Requested, Fault, Cut, Broken}
use Rattle.hub_session.specs.declared.closing.Closing.TheVariants.{Exhausted}
use Rattle.hub_session.specs.Feeds.{feed_text, Streams}
use Rattle.hub_session.specs.Replies.{fault_text}
use Rattle.hub_session.specs.Rules.{Rules, Moment}

-- a request with its answer
pub record Exchange : Type 0 where
  pub asked : PlainRequest
  pub answer : Answer
  -- the items that were sent, where the answer is a stream
  pub items : List StreamItem

-- the request asks for the head of its answer alone
abbrev pub is_head : PlainRequest → Bool
is_head asked = bytes_eq asked.method (codes "HEAD")

-- the text of a stream before its items: the head of its answer, and the chunk that begins its text
abbrev pub stream_head : (close : Bool) → Mode → List ℕ
stream_head close mode = head_text 200 chunked_line close ++ text_chunks (feed_head mode)

-- the text of an answer
abbrev pub answer_text : Answer → Bool → Bool → List StreamItem → List ℕ
answer_text (Whole reply) head_only close items = reply_text reply head_only close
answer_text (Stream mode life) head_only close items =
    head_text 200 chunked_line close ++ (if head_only then [] else feed_text mode life items)

-- the text that is written for a request
abbrev pub exchange_text : Exchange → List ℕ
exchange_text exchange =
    answer_text exchange.answer (is_head exchange.asked) exchange.asked.close exchange.items

-- why a session closes after a request that was answered, if it does
abbrev pub after_answer : Bool → Option Closing
after_answer close = if close then Some Requested else None

-- Why a session closes after an answer that was to be sent whole, if it does. Where the writing broke, it
-- closes as Broken.
abbrev pub after_whole : (broken : Bool) → (close : Bool) → Option Closing
after_whole broken close = if broken then Some Broken else after_answer close

-- Why a session closes after a stream with this end, if it does. After Complete the session goes on, unless
-- the request asked to close. After Stopped it always closes, as Cut, for no last chunk was sent.
abbrev pub after_stream : Bool → StreamEnd → Option Closing
after_stream close stream.Complete = after_answer close
after_stream close stream.Stopped = Some Cut
after_stream close stream.NoMemory = Some Cut
after_stream close stream.Broken = Some Broken
after_stream close stream.Exhausted = Some Exhausted

-- While the answer of an exchange is sent, the service goes from s to t. Then the session closes for the
-- reason `next`, or goes on where `next` is None.
pub data Goes {S : Type 0} (rules : Rules S) (exchange : Exchange) (s : S) (next : Option Closing) (t : S)
    : Type 0 where
  -- a whole answer is written
  whole : (reply : Reply) → exchange.answer ≡ Whole reply → exchange.items ≡ [] → t ≡ s
      → next ≡ after_answer exchange.asked.close → Goes rules exchange s next t
  -- a whole answer can't be written to the other side
  whole_broken : (reply : Reply) → exchange.answer ≡ Whole reply → exchange.items ≡ [] → t ≡ s
      → next ≡ Some Broken → Goes rules exchange s next t
  -- HEAD asked for a stream: the head of its answer is written, and the service drops the stream
  head_alone : (mode : Mode) (life : ℕ) → exchange.answer ≡ Stream mode life → is_head exchange.asked ≡ true
      → exchange.items ≡ []
      → rules.drops s t → next ≡ after_answer exchange.asked.close → Goes rules exchange s next t
  -- a stream: its items are sent behind the head of its answer
  stream_sent : (mode : Mode) (life : ℕ) (end : StreamEnd) → exchange.answer ≡ Stream mode life
      → is_head exchange.asked ≡ false → Streams rules 0 s exchange.items end t
      → next ≡ after_stream exchange.asked.close end → Goes rules exchange s next t
  -- the head of a stream's answer can't be written to the other side, and the service drops the stream
  head_broken : (mode : Mode) (life : ℕ) → exchange.answer ≡ Stream mode life → exchange.items ≡ []
      → rules.drops s t → next ≡ Some Broken → Goes rules exchange s next t

-- From s the service may give the answer of the exchange to its request, and be at t once the answer is
-- sent. Then the session closes for the reason `next`, or goes on where `next` is None.
pub record Answers {S : Type 0} (rules : Rules S) (s : S) (exchange : Exchange) (next : Option Closing)
    (t : S)
    : Type 0 where
  pub mid : S
  pub answered : rules.answers s exchange.asked exchange.answer mid
  pub goes : Goes rules exchange mid next t

-- Over bytes that begin with no request a session closes for this reason, with this text. Over no bytes it
-- closes as Finished, with no text. Over a head with a Content-Length of x it closes as Fault BadHead, with
-- the text of that refusal.
abbrev pub Closes : List ℕ → Closing → List ℕ → Type 0
Closes bytes Finished text = (bytes ≡ []) × (text ≡ [])
Closes bytes Requested text = ⊥
Closes bytes (Fault fault) text = Faults bytes fault × (text ≡ fault_text fault)
Closes bytes Cut text = ⊥
Closes bytes Broken text = (fault : HttpFault) × Faults bytes fault × (text ≡ fault_text fault)
Closes bytes Exhausted text = ⊥

-- the state of a session between two requests: how many it answered, the bytes that are to come, and the
-- state of its service
pub record SessionState (S : Type 0) : Type 0 where
  pub served : ℕ
  pub bytes : List ℕ
  pub service : S

-- how a session ends: why it closes, the text that it closes with, and the state of its service then
pub record Ending (S : Type 0) : Type 0 where
  pub closing : Closing
  pub text : List ℕ
  pub service : S

-- From this state a session has these exchanges, one after the other, goes on after each of them, and then
-- has this ending. Over two requests, of which the second asks to close, it has the exchange of the first.
-- It ends Requested, with the text of the second answer. Over two requests that do not ask to close it has
-- both exchanges, and ends Finished, with no text.
pub data Session {S : Type 0} (rules : Rules S) : SessionState S → List Exchange → Ending S → Type 0 where
  -- a request is answered, and the session goes on after it
  goes_on : {now : SessionState S} {x : Exchange} {xs : List Exchange} {ending : Ending S}
      (rest : List ℕ) (mid : S)
      → Spells now.bytes x.asked rest → Answers rules now.service x None mid
      → Session rules (record { served = now.served + 1; bytes = rest; service = mid }) xs ending
      → Session rules now (x ∷ xs) ending
  -- a request is answered, and the session closes after it, with the text of its answer
  closes_behind : {now : SessionState S} {ending : Ending S} (x : Exchange) (rest : List ℕ)
      → Spells now.bytes x.asked rest → Answers rules now.service x (Some ending.closing) ending.service
      → ending.text ≡ exchange_text x → Session rules now [] ending
  -- the bytes begin with no request
  closes : {now : SessionState S} {ending : Ending S} → Closes now.bytes ending.closing ending.text
      → ending.service ≡ now.service → Session rules now [] ending
  -- its requests can't be counted further
  gives_up : {now : SessionState S} {ending : Ending S} → last_count ≤ now.served → ending.closing ≡ Exhausted
      → ending.text ≡ [] → ending.service ≡ now.service → Session rules now [] ending

-- the state of a session of these three members
abbrev pub session_state : {S : Type 0} → ℕ → List ℕ → S → SessionState S
session_state served bytes service = record { served = served; bytes = bytes; service = service }

-- From its first state a session has had these exchanges, has gone on after each of them, and is in its last
-- state now. Over two requests it has had no exchange, the exchange of the first, or both.
pub data HasServed {S : Type 0} (rules : Rules S) : SessionState S → List Exchange → SessionState S → Type 0 where
  -- no request was answered
  stands : {now : SessionState S} → HasServed rules now [] now
  -- a request was answered, and then the other requests
  goes_on : {now later : SessionState S} {x : Exchange} {xs : List Exchange} (rest : List ℕ) (mid : S)
      → Spells now.bytes x.asked rest → Answers rules now.service x None mid
      → HasServed rules (record { served = now.served + 1; bytes = rest; service = mid }) xs later
      → HasServed rules now (x ∷ xs) later

-- writing to the other side failed
abbrev pub is_broken : Closing → Bool
is_broken Finished = false
is_broken Requested = false
is_broken (Fault e) = false
is_broken Cut = false
is_broken Broken = true
is_broken Exhausted = false

-- The contract of a call that tells a writer a fault of reading a request, and then closes the session.
-- Either the fault's text was written, and the session closes with the fault. Or the writing broke, the
-- writer's counts tell of that, and the session closes as Broken.
pub record HasToldFault {W : Type 0} (written_of : W → Option (List ℕ)) (faults_of failures_of : W → ℕ)
    (fault : HttpFault) (closing : Closing) (old new : W) : Type 0 where
  pub sent : Sends (is_broken closing) (written_of old) (written_of new) (fault_text fault)
  pub closes : (closing ≡ Fault fault) ⊎ (closing ≡ Broken)
  pub counts : CallCounts (closing ≡ Broken) faults_of failures_of old new

-- These bytes were served, and the session closed for this reason. The texts of the exchanges after which it
-- went on were written whole, one after the other. Then the text that it closed with was written, or a front
-- of it where the writing broke. Take two requests of which the second can't be answered, since the other
-- side is gone. The text of the first was written, and then a front of the text of the second, which is
-- `last`.
pub record IsSession {S : Type 0} (rules : Rules S) (bytes : List ℕ) (closing : Closing)
    (before after : Moment S) : Type 0 where
  pub exchanges : List Exchange  -- the exchanges after which the session went on
  pub last : List ℕ  -- the text that it closed with
  pub mid : Option (List ℕ)  -- the known bytes before that text
  pub goes : Session rules (record { served = 0; bytes = bytes; service = before.service }) exchanges
      (record { closing = closing; text = last; service = after.service })
  pub whole : Appends before.written mid (flat_map exchange_text exchanges)
  pub written : Sends (is_broken closing) mid after.written last

-- whether the session closes since writing to the other side failed
abbrev pub is_write_failure : Option Closing → Bool
is_write_failure None = false
is_write_failure (Some closing) = is_broken closing

-- This request was answered, and then the session closes for the reason `next`, or goes on. The text of the
-- answer was written, or a front of the text where the writing broke.
pub record HasAnswer {S : Type 0} (rules : Rules S) (asked : PlainRequest) (next : Option Closing)
    (before after : Moment S) : Type 0 where
  pub exchange : Exchange
  pub asked_is : exchange.asked ≡ asked
  pub goes : Answers rules before.service exchange next after.service
  pub written : Sends (is_write_failure next) before.written after.written (exchange_text exchange)

-- The answer to this request was begun. Either the answer is over, and the session closes for the reason
-- `next`, or goes on. Or it is a stream of which no row was sent yet, and its text before the items was
-- written.
abbrev pub HasBegun : {S : Type 0} → Rules S → PlainRequest → Begun → Moment S → Moment S → Type 0
HasBegun rules asked (Answered next) before after = HasAnswer rules asked next before after
HasBegun rules asked (Streaming sending) before after =
    rules.answers before.service asked (Stream sending.mode sending.life) after.service
    × (is_head asked ≡ false)
    × Appends before.written after.written (stream_head asked.close sending.mode)
    × (sending.rows ≡ 0)

-- the bytes begin with a request, which was answered, and the bytes behind it are left
pub record IsAnswered {S : Type 0} (rules : Rules S) (bytes : List ℕ) (next : Option Closing)
    (left : Option (List ℕ)) (before after : Moment S) : Type 0 where
  pub asked : PlainRequest
  pub rest : List ℕ
  pub spelt : Spells bytes asked rest
  pub left_is : left ≡ Some rest
  pub answer : HasAnswer rules asked next before after

-- the bytes begin with no request, and the session closes
pub record IsClosed {S : Type 0} (bytes : List ℕ) (next : Option Closing) (before after : Moment S)
    : Type 0 where
  pub closing : Closing
  pub text : List ℕ
  pub next_is : next ≡ Some closing
  pub closes : Closes bytes closing text
  pub same : after.service ≡ before.service
  pub written : Sends (is_broken closing) before.written after.written text

-- A session took one step over these bytes. Then it closes for the reason `next`, or goes on with the bytes
-- that are left.
pub data IsServed {S : Type 0} (rules : Rules S) (bytes : List ℕ) (next : Option Closing)
    (left : Option (List ℕ)) (before after : Moment S) : Type 0 where
  -- the next request was answered
  answered : IsAnswered rules bytes next left before after → IsServed rules bytes next left before after
  -- there was no request, and the session closes
  closed : IsClosed bytes next before after → IsServed rules bytes next left before after
