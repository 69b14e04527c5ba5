-- RFC 9112, section 7.1 (chunks); own for the feed: the texts of a stream's items, and how a stream goes on.
use Rattle.std.specs.Prelude.{◌≡◌, ◌≤◌, ℕ, ◌+◌, List, [], ◌∷◌, ◌++◌, Bool, true, false, Option, Some, None}
use Rattle.std.specs.Prelude.{MatchBool, Result, Ok, Err, if◌then◌else◌, codes}
use Rattle.std.specs.Io.KnownBytes.{Appends}
use Rattle.hub_model.specs.declared.feeds.Mode.{Mode}
use Rattle.hub_http.specs.Counts.{CallCounts, last_count, Sends}
use Rattle.hub_http.specs.Chunks.{WritesTo, text_chunks}
use Rattle.hub_http.specs.Items.{feed_head}
use Rattle.hub_session.specs.StreamItem.{StreamItem}
use Rattle.hub_session.specs.declared.closing.StreamEnd.{StreamEnd}
use Rattle.hub_session.specs.declared.item.Sending.{Sending}
use Rattle.hub_session.specs.declared.item.SentItem.{SentItem}
use Rattle.hub_session.specs.declared.closing.StreamEnd.TheVariants.{Complete, Stopped, NoMemory, Broken}
use Rattle.hub_session.specs.declared.closing.StreamEnd.TheVariants.{Exhausted}
use Rattle.hub_session.specs.Items.{is_end, is_row, rows_after, stream_item_text}
use Rattle.hub_session.specs.Rules.{Rules, Moment, moment}

-- the last chunk of a stream
abbrev pub last_chunk : List ℕ
last_chunk = codes "0\r\n\r\n"

-- the text behind the chunk of an item, which is the End or not: the last chunk, or none
abbrev pub behind_chunk : Bool → List ℕ
behind_chunk is_last = if is_last then last_chunk else []

-- The text of an item, before which so many rows came. In a normal feed a second row is one chunk with a
-- comma, a line feed and the row's text. A beat is one chunk with a line feed. An End is its chunk, and then
-- the last chunk.
abbrev pub sent_text : Mode → (life rows : ℕ) → StreamItem → List ℕ
sent_text mode life rows item =
    text_chunks (stream_item_text mode life rows item) ++ behind_chunk (is_end item)

-- The text of these items, before which so many rows came. Of two rows of a normal feed, the comma stands in
-- the chunk of the second row, also where a beat stands between them.
abbrev pub items_text : Mode → (life rows : ℕ) → List StreamItem → List ℕ
items_text mode life rows [] = []
items_text mode life rows (item ∷ items) =
    sent_text mode life rows item ++ items_text mode life (rows_after rows item) items

-- the number of rows at the end of these items, where so many came before them
abbrev pub rows_behind : ℕ → List StreamItem → ℕ
rows_behind rows [] = rows
rows_behind rows (item ∷ items) = rows_behind (rows_after rows item) items

-- the text of a stream of these items, of the life of this number, behind the head of its answer
abbrev pub feed_text : Mode → (life : ℕ) → List StreamItem → List ℕ
feed_text mode life items = text_chunks (feed_head mode) ++ items_text mode life 0 items

-- The contract of a call that writes the text of the next item of such a stream, as one chunk. The answer says
-- whether the item is a row or an End, and whether all of the chunk was written. For a row that a writer
-- refuses after three bytes, the answer says that it is a row and that an IoFault came, and three bytes of the
-- chunk were written.
pub record SendsItem {W : Type 0} (written_of : W → Option (List ℕ)) (faults_of failures_of : W → ℕ)
    (sending : Sending) (item : StreamItem) (sent : SentItem) (old new : W) : Type 0 where
  pub row : sent.is_row ≡ is_row item
  pub end : sent.is_end ≡ is_end item
  pub text : WritesTo written_of faults_of failures_of sent.written old new
      (text_chunks (stream_item_text sending.mode sending.life sending.rows item))

-- The contract of a call by which a service sends the next item of its stream. The service goes on by the item
-- whose chunk was written. Or it has no next item, and all stays as it was.
abbrev pub SendsNext : {S W : Type 0} → (gives : S → Option StreamItem → S → Type 0) → (W → Option (List ℕ))
    → (faults_of failures_of : W → ℕ) → Sending → Option SentItem → (s t : S) → (old new : W) → Type 0
SendsNext gives written_of faults_of failures_of sending (Some sent) s t old new =
    (item : StreamItem) × gives s (Some item) t
    × SendsItem written_of faults_of failures_of sending item sent old new
SendsNext gives written_of faults_of failures_of sending None s t old new =
    gives s None t × (t ≡ s) × (new ≡ old)

-- A stream is not sent on after its service, now at s, gave this item. After a row or a beat the service
-- drops the stream. After an End the stream holds nothing, and the service stays as it is. So the stream is
-- dropped where the text of row 2 finds no memory, and not where the text of an End finds none.
abbrev pub GivesBack : {S : Type 0} → Rules S → StreamItem → S → S → Type 0
GivesBack rules item s t = MatchBool (is_end item) (t ≡ s) (rules.drops s t)

-- After so many items, with its service at s, a stream goes on with these items, has this end, and leaves
-- its service at t. A service that gives row 1, row 2 and then an End may have these three items and
-- Complete. A service that gives row 1 and then no item has row 1 and Stopped. A service whose row 2 finds
-- no memory for its text has row 1 and NoMemory.
pub data Streams {S : Type 0} (rules : Rules S) : ℕ → S → List StreamItem → StreamEnd → S → Type 0 where
  -- a row or a beat is sent, and the stream goes on after it
  goes_on : {sent : ℕ} {s mid t : S} {item : StreamItem} {items : List StreamItem} {end : StreamEnd}
      → rules.gives s (Some item) mid → is_end item ≡ false → Streams rules (sent + 1) mid items end t
      → Streams rules sent s (item ∷ items) end t
  -- its End is sent, and the last chunk
  ends : {sent : ℕ} {s t : S} {item : StreamItem} → rules.gives s (Some item) t → is_end item ≡ true
      → Streams rules sent s (item ∷ []) Complete t
  -- its End comes, and can't be written to the other side
  ends_broken : {sent : ℕ} {s t : S} {item : StreamItem} → rules.gives s (Some item) t → is_end item ≡ true
      → Streams rules sent s (item ∷ []) Broken t
  -- the service has no further item, and drops the stream
  stops : {sent : ℕ} {s t : S} (mid : S) → rules.gives s None mid → rules.drops mid t
      → Streams rules sent s [] Stopped t
  -- the text of an item finds no memory: the item is lost, and the stream is not sent on
  loses : {sent : ℕ} {s t : S} (mid : S) (lost : StreamItem) → rules.gives s (Some lost) mid
      → GivesBack rules lost mid t → Streams rules sent s [] NoMemory t
  -- the other side can't be written to, and the service drops the stream
  breaks : {sent : ℕ} {s t : S} → rules.drops s t → Streams rules sent s [] Broken t
  -- its items can't be counted further, and the service drops the stream
  gives_up : {sent : ℕ} {s t : S} → rules.drops s t → last_count ≤ sent → Streams rules sent s [] Exhausted t

-- A stream that had sent so many items, with its service at s, has sent these rows and beats since. It has
-- sent so many items now, with its service at t. A service that gives row 1, row 2 and an End has streamed
-- no item, row 1, or row 1 and row 2.
pub data HasStreamed {S : Type 0} (rules : Rules S) : ℕ → S → List StreamItem → ℕ → S → Type 0 where
  -- no item was sent
  stands : {sent : ℕ} {s : S} → HasStreamed rules sent s [] sent s
  -- a row or a beat was sent, and then the other items
  goes_on : {sent now : ℕ} {s mid t : S} {item : StreamItem} {items : List StreamItem}
      → rules.gives s (Some item) mid → is_end item ≡ false → HasStreamed rules (sent + 1) mid items now t
      → HasStreamed rules sent s (item ∷ items) now t

-- writing to the other side failed
abbrev pub is_broken : StreamEnd → Bool
is_broken Complete = false
is_broken Stopped = false
is_broken NoMemory = false
is_broken Broken = true
is_broken Exhausted = false

-- a stream was sent to this end: this text of its items was written, or a front of the text where the
-- writing broke
pub record IsFed {S : Type 0} (rules : Rules S) (text : List StreamItem → List ℕ) (end : StreamEnd)
    (before after : Moment S) : Type 0 where
  pub items : List StreamItem
  pub streams : Streams rules 0 before.service items end after.service
  pub written : Sends (is_broken end) before.written after.written (text items)

-- The contract of a call that sends a stream to a writer. The stream was sent to this end, and where that is
-- Broken the writer's counts tell of it. A stream whose second row is refused by the writer ends as Broken
-- after the first row, and either count is one more.
pub record IsFedTo {S W : Type 0} (rules : Rules S) (written_of : W → Option (List ℕ))
    (faults_of failures_of : W → ℕ) (text : List StreamItem → List ℕ) (end : StreamEnd)
    (s t : S) (old new : W) : Type 0 where
  pub fed : IsFed rules text end (moment s (written_of old)) (moment t (written_of new))
  pub counts : CallCounts (end ≡ Broken) faults_of failures_of old new

-- A stream that sent so many items, so many of them rows, took one step. Either one more row or beat was
-- written, and the step gives the number of rows then. Or the stream came to this end, and the text of its
-- last item was written, or a front of the text. After row 1 of a normal feed the step sends row 2 with its
-- comma, and gives 2. Or it sends the End with the last chunk, and gives Complete. Or it sends nothing, and
-- gives Stopped.
abbrev pub IsStreamed : {S : Type 0} → Rules S → Mode → (life sent rows : ℕ) → Result ℕ StreamEnd
    → Moment S → Moment S → Type 0
IsStreamed rules mode life sent rows (Ok rows_then) before after =
    (item : StreamItem) × rules.gives before.service (Some item) after.service × (is_end item ≡ false)
    × (rows_then ≡ rows_after rows item)
    × Appends before.written after.written (sent_text mode life rows item)
IsStreamed rules mode life sent rows (Err end) before after =
    (items : List StreamItem) × Streams rules sent before.service items end after.service
    × Sends (is_broken end) before.written after.written (items_text mode life rows items)
