-- The items of a stream, sent one after the other, and how the stream ends after them.
use Rattle.std.proofs.Common.{◌≡◌, ◌≤◌, ◌⊎◌, ℕ, zero, suc, ◌+◌, List, [], ◌∷◌, ◌++◌, Bool, true}
use Rattle.std.proofs.Common.{false, MatchBool, Option, Some, Result, Ok, Err, IsErr, refl, sym, ap}
use Rattle.std.proofs.Common.{subst, ◌∙◌, inl, inr, append_assoc, append-nil, arith}
use Rattle.std.proofs.lemmas.Bool.{cases_Bool}
use Rattle.std.specs.Prelude.{if◌then◌else◌}
use Rattle.std.specs.Io.KnownBytes.{Appends}
use Rattle.std.proofs.KnownBytes.{Appends-nil}
use Rattle.hub_http.specs.Counts.{Sends}
use Rattle.hub_http.proofs.SendLemmas.{front_of_more, sends_after}
use Rattle.hub_http.specs.declared.chunk.ChunkFault.{ChunkFault}
use Rattle.hub_http.specs.declared.chunk.ChunkFault.TheVariants as chunk
use Rattle.hub_http.specs.Chunks.{text_chunks, Writes, WritesTo}
use Rattle.hub_model.specs.declared.feeds.Mode.{Mode}
use Rattle.hub_http.specs.Items.{feed_head}
use Rattle.hub_session.specs.StreamItem.{StreamItem}
use Rattle.hub_session.specs.declared.closing.StreamEnd.{StreamEnd}
use Rattle.hub_session.specs.declared.closing.StreamEnd.TheVariants.{Broken}
use Rattle.hub_session.specs.declared.item.Sending.{Sending}
use Rattle.hub_session.specs.declared.item.SentItem.{SentItem}
use Rattle.hub_session.specs.Feeds.{GivesBack, HasStreamed, Streams, IsFed, SendsItem, IsStreamed}
use Rattle.hub_session.specs.Feeds.{behind_chunk, sent_text, items_text, feed_text, is_broken, rows_behind}
use Rattle.hub_session.specs.Items.{is_end, is_row, rows_after, stream_item_text}
use Rattle.hub_session.specs.Rules.{Rules, Moment, moment}

-- a text of no bytes that was sent, or that broke, changed nothing
pub none_sent : (broken : Bool) (old new : Option (List ℕ)) → Sends broken old new [] → Appends old new []
none_sent false old new sent = sent
none_sent true old new (zero, sent) = sent
none_sent true old new (suc n, sent) = sent

-- the text of a list of items is the text of its front, and then the text of its rest
pub items_text-append : (mode : Mode) (life rows : ℕ) (others items : List StreamItem)
    → items_text mode life rows (others ++ items)
    ≡ items_text mode life rows others ++ items_text mode life (rows_behind rows others) items
items_text-append mode life rows [] items = refl
items_text-append mode life rows (item ∷ others) items =
    ap (λ l. sent_text mode life rows item ++ l)
    (items_text-append mode life (rows_after rows item) others items)
    ∙ sym (append_assoc (sent_text mode life rows item) (items_text mode life (rows_after rows item) others)
    (items_text mode life (rows_behind (rows_after rows item) others) items))

-- the number of rows after one more item
pub rows_behind-push : (rows : ℕ) (items : List StreamItem) (item : StreamItem)
    → rows_behind rows (items ++ item ∷ []) ≡ rows_after (rows_behind rows items) item
rows_behind-push rows [] item = refl
rows_behind-push rows (x ∷ items) item = rows_behind-push (rows_after rows x) items item

module _ {S : Type 0} (rules : Rules S) where
  -- a stream is the items that were sent so far, and then its rest
  pub streamed_streams : (from : ℕ) (s : S) (first : List StreamItem) (sent : ℕ) (mid : S)
      (rest : List StreamItem) (end : StreamEnd) (t : S)
      → HasStreamed rules from s first sent mid → Streams rules sent mid rest end t
      → Streams rules from s (first ++ rest) end t
  streamed_streams from s first sent mid rest end t HasStreamed.stands h = h
  streamed_streams from s first sent mid rest end t (HasStreamed.goes_on gives not_end more) h =
      Streams.goes_on gives not_end (streamed_streams _ _ _ sent mid rest end t more h)

  -- one more item was sent
  pub streamed_more : (from : ℕ) (s : S) (first : List StreamItem) (sent : ℕ) (mid : S)
      (item : StreamItem) (t : S)
      → HasStreamed rules from s first sent mid → rules.gives mid (Some item) t → is_end item ≡ false
      → HasStreamed rules from s (first ++ item ∷ []) (sent + 1) t
  streamed_more from s first sent mid item t HasStreamed.stands gives not_end =
      HasStreamed.goes_on gives not_end HasStreamed.stands
  streamed_more from s first sent mid item t (HasStreamed.goes_on g n more) gives not_end =
      HasStreamed.goes_on g n (streamed_more _ _ _ sent mid item t more gives not_end)

-- one more item is at most one more row
choice_more : (b : Bool) (n : ℕ) → (if b then n + 1 else n) ≤ n + 1
choice_more true n = omega arith
choice_more false n = omega arith

row_more : (rows : ℕ) (item : StreamItem) → rows_after rows item ≤ rows + 1
row_more rows item = choice_more (is_row item) rows

-- there are no more rows than items
pub rows_within : {S : Type 0} (rules : Rules S) (from : ℕ) (s : S) (items : List StreamItem)
    (sent : ℕ) (t : S) (rows : ℕ)
    → HasStreamed rules from s items sent t → rows ≤ from → rows_behind rows items ≤ sent
rows_within rules from s items sent t rows HasStreamed.stands low = low
rows_within rules from s items sent t rows (HasStreamed.goes_on {item = item} g n more) low =
    rows_within rules (from + 1) _ _ sent t (rows_after rows item) more
    (omega (arith, low, row_more rows item))

-- the text of one item is the text of its list
pub one_sent : (mode : Mode) (life : ℕ) (rows : ℕ) (item : StreamItem) (broken : Bool) (a b : Option (List ℕ))
    → Sends broken a b (sent_text mode life rows item)
    → Sends broken a b (items_text mode life rows (item ∷ []))
one_sent mode life rows item broken a b p =
    subst (Sends broken a b) (sym (append-nil (sent_text mode life rows item))) p

-- the items and the text that a stream sent since it began
pub record Went {S : Type 0} (rules : Rules S) (mode : Mode) (life : ℕ) (before : Moment S) (sent rows : ℕ)
    (now : Moment S) : Type 0 where
  pub first : List StreamItem
  pub streamed : HasStreamed rules 0 before.service first sent now.service
  pub rows_is : rows ≡ rows_behind 0 first
  pub written : Appends before.written now.written (items_text mode life 0 first)

pub went_none : {S : Type 0} (rules : Rules S) (mode : Mode) (life : ℕ) (now : Moment S)
    → Went rules mode life now 0 0 now
went_none rules mode life now = record {
  first = [];
  streamed = HasStreamed.stands;
  rows_is = refl;
  written = Appends-nil now.written;
}

-- the text of more items, written after the text of others
pub wrote_behind : {S : Type 0} (rules : Rules S) (mode : Mode) (life rows : ℕ)
    (before now after : Option (List ℕ)) (first more : List StreamItem) (broken : Bool)
    → rows ≡ rows_behind 0 first → Appends before now (items_text mode life 0 first)
    → Sends broken now after (items_text mode life rows more)
    → Sends broken before after (items_text mode life 0 (first ++ more))
wrote_behind rules mode life rows before now after first more broken is w p =
    subst (Sends broken before after) (sym (items_text-append mode life 0 first more))
    (sends_after broken before now after
    (items_text mode life 0 first) (items_text mode life (rows_behind 0 first) more) w
    (subst (λ n. Sends broken now after (items_text mode life n more)) is p))

module _ {S : Type 0} (rules : Rules S) (mode : Mode) (life : ℕ) (before : Moment S)
    (sent rows : ℕ) (now : Moment S) where
  -- one more item, which is no End
  pub went_more : (next : Moment S) (rows_then : ℕ) → Went rules mode life before sent rows now
      → IsStreamed rules mode life sent rows (Ok rows_then) now next
      → Went rules mode life before (sent + 1) rows_then next
  went_more next rows_then w step =
      let item = step.0 in
      let count : rows_then ≡ rows_behind 0 (w.first ++ item ∷ []) =
      step.3 ∙ ap (λ n. rows_after n item) w.rows_is ∙ sym (rows_behind-push 0 w.first item) in
      record {
        first = w.first ++ item ∷ [];
        streamed =
            streamed_more rules 0 before.service w.first sent now.service item next.service
            w.streamed step.1 step.2;
        rows_is = count;
        written =
            wrote_behind rules mode life rows before.written now.written next.written w.first
            (item ∷ []) false w.rows_is w.written
            (one_sent mode life rows item false now.written next.written step.4);
      }

  -- the stream comes to its end
  pub went_ends : (after : Moment S) (end : StreamEnd) → Went rules mode life before sent rows now
      → IsStreamed rules mode life sent rows (Err end) now after
      → IsFed rules (items_text mode life 0) end before after
  went_ends after end w step = record {
    items = w.first ++ step.0;
    streams =
        streamed_streams rules 0 before.service w.first sent now.service step.0
        end after.service w.streamed step.1;
    written =
        wrote_behind rules mode life rows before.written now.written after.written w.first step.0
        (is_broken end) w.rows_is w.written step.2;
  }

-- after an item that can't be written the stream has ended, or is dropped
pub stream_fails : {S : Type 0} (rules : Rules S) (sent : ℕ) (s mid t : S) (item : StreamItem)
    → rules.gives s (Some item) mid → GivesBack rules item mid t
    → Streams rules sent s (item ∷ []) Broken t
stream_fails rules sent s mid t item given back = from (cases_Bool (is_end item))
  where
    from : (is_end item ≡ true) ⊎ (is_end item ≡ false) → Streams rules sent s (item ∷ []) Broken t
    from (inl e) =
        let same : t ≡ mid = subst (λ b. MatchBool b (t ≡ mid) (rules.drops mid t)) e back in
        Streams.ends_broken (subst (λ m. rules.gives s (Some item) m) (sym same) given) e
    from (inr e) =
        Streams.goes_on given e
        (Streams.breaks (subst (λ b. MatchBool b (t ≡ mid) (rules.drops mid t)) e back))

-- a fault at the writing of a front is a fault at the writing of the whole text
pub fault_behind : {W : Type 0} (written_of : W → Option (List ℕ)) (faults_of failures_of : W → ℕ)
    (result : Result (Unit {0}) ChunkFault) (old new : W) (x y : List ℕ) → IsErr result
    → WritesTo written_of faults_of failures_of result old new x
    → WritesTo written_of faults_of failures_of result old new (x ++ y)
fault_behind written_of faults_of failures_of (Ok u) old new x y fault told = absurd (cc)
fault_behind written_of faults_of failures_of (Err chunk.NoMemory) old new x y fault told =
    record { bytes_written = told.bytes_written; counts = told.counts }
fault_behind written_of faults_of failures_of (Err chunk.IoFault) old new x y fault told =
    record {
      bytes_written = front_of_more (written_of old) (written_of new) x y told.bytes_written;
      counts = told.counts;
    }

-- a stream is dropped, or not, by whether its item is told to be an End
pub back_as_told : {S : Type 0} (rules : Rules S) (item : StreamItem) (is_last : Bool) (s t : S)
    → is_last ≡ is_end item → MatchBool is_last (t ≡ s) (rules.drops s t) → GivesBack rules item s t
back_as_told rules item is_last s t told back =
    subst (λ b. MatchBool b (t ≡ s) (rules.drops s t)) told back

-- an item whose chunk was written, and then the text behind its chunk, was written whole
pub item_finished : {W : Type 0} (written_of : W → Option (List ℕ)) (faults_of failures_of : W → ℕ)
    (sending : Sending) (item : StreamItem) (sent : SentItem) (result : Result (Unit {0}) ChunkFault)
    (start mid new : W)
    → SendsItem written_of faults_of failures_of sending item sent start mid
    → ((s : W) (text : List ℕ) → WritesTo written_of faults_of failures_of sent.written s mid text
    → WritesTo written_of faults_of failures_of result s new (text ++ behind_chunk sent.is_end))
    → Writes (sent_text sending.mode sending.life sending.rows item) result (written_of start) (written_of new)
item_finished written_of faults_of failures_of sending item sent result start mid new told finishes =
    let chunk = text_chunks (stream_item_text sending.mode sending.life sending.rows item) in
    subst (λ b. Writes (chunk ++ behind_chunk b) result (written_of start) (written_of new)) told.end
    (finishes start chunk told.text).bytes_written

-- the head of a stream was written, and then its items
pub fed_behind : {S : Type 0} (rules : Rules S) (mode : Mode) (life : ℕ) (end : StreamEnd)
    (before after : Moment S) (mid : Option (List ℕ))
    → Appends before.written mid (text_chunks (feed_head mode))
    → IsFed rules (items_text mode life 0) end (moment before.service mid) after
    → IsFed rules (feed_text mode life) end before after
fed_behind rules mode life end before after mid p f = record {
  items = f.items;
  streams = f.streams;
  written =
      sends_after (is_broken end) before.written mid after.written
      (text_chunks (feed_head mode)) _ p f.written;
}

-- the head of a stream can't be written
pub fed_broken : {S : Type 0} (rules : Rules S) (mode : Mode) (life : ℕ) (before after : Moment S)
    → rules.drops before.service after.service
    → Sends true before.written after.written (text_chunks (feed_head mode))
    → IsFed rules (feed_text mode life) Broken before after
fed_broken rules mode life before after d p =
    record {
      items = [];
      streams = Streams.breaks d;
      written = front_of_more before.written after.written (text_chunks (feed_head mode)) _ p;
    }
