-- The run of a session: each call keeps it.
use Rattle.std.proofs.Common.{◌≡◌, ◌<◌, ◌≤◌, ℕ, ◌+◌, length, List, [], ◌∷◌, ◌++◌, Bool, true, false}
use Rattle.std.proofs.Common.{Option, Some, None, Result, Ok, Err, take, refl, sym, ap}
use Rattle.std.proofs.Common.{subst, ◌∙◌, append_assoc, append-nil, inl, inr, arith}
use Rattle.std.proofs.lemmas.Grind.{common_steps}
use Rattle.std.specs.List.{flat_map}
use Rattle.std.specs.Prelude.{OnOk}
use Rattle.hub_http.specs.Chunks.{text_chunks}
use Rattle.hub_http.specs.Counts.{Sends}
use Rattle.hub_http.specs.Items.{feed_head}
use Rattle.hub_http.specs.Texts.{head_text, chunked_line}
use Rattle.hub_http.specs.declared.fault.HttpFault.{HttpFault}
use Rattle.hub_http.specs.declared.fault.HttpFault.TheVariants as fault
use Rattle.hub_http.specs.Stream.{PlainRequest, Spells, Faults}
use Rattle.hub_http.proofs.OfferLemmas.{spells_more}
use Rattle.hub_http.proofs.RequestLemmas.{head_fault_more}
use Rattle.hub_http.proofs.SendLemmas.{sends_after}
use Rattle.hub_model.specs.declared.feeds.Mode.{Mode}
use Rattle.hub_session.specs.StreamItem.{StreamItem}
use Rattle.hub_session.specs.declared.service.Answer.TheVariants.{Stream}
use Rattle.hub_session.specs.declared.closing.Closing.{Closing}
use Rattle.hub_session.specs.declared.closing.Closing.TheVariants.{Finished, Requested, Fault}
use Rattle.hub_session.specs.declared.closing.Closing.TheVariants.{Cut, Broken, Exhausted}
use Rattle.hub_session.specs.declared.closing.StreamEnd.{StreamEnd}
use Rattle.hub_session.specs.declared.closing.StreamEnd.TheVariants as stream
use Rattle.hub_session.specs.declared.item.Sending.{Sending}
use Rattle.hub_session.specs.declared.machine.Place.{Place}
use Rattle.hub_session.specs.declared.machine.Place.TheVariants.{Between, Within, Closed}
use Rattle.hub_session.specs.declared.machine.Step.{Step}
use Rattle.hub_session.specs.declared.machine.Step.TheVariants.{Served, WantsInput}
use Rattle.hub_session.specs.declared.machine.Step.TheVariants.{WantsRoom, WantsNews, Ended}
use Rattle.hub_session.specs.Feeds.{HasStreamed, Streams, IsStreamed, items_text}
use Rattle.hub_session.specs.Feeds.{sent_text, is_broken as stream_breaks, rows_behind}
use Rattle.hub_session.specs.Items.{rows_after}
use Rattle.hub_session.specs.Replies.{fault_text}
use Rattle.hub_session.specs.Rules.{Rules, moment}
use Rattle.hub_session.specs.Runs.{Run, new_run, offered_to, run_offered, with_offered, SessionView, Steps}
use Rattle.hub_session.specs.Runs.{IsOfEnd}
use Rattle.hub_session.specs.Runs.{GivesUpAt, IsStepped, place_behind, IsBetween, IsWithin, HasDone, HasRun}
use Rattle.hub_session.specs.Sessions.{Answers, Closes, Ending, Exchange, Goes, HasServed, IsServed}
use Rattle.hub_session.specs.Sessions.{Session, SessionState, after_answer, after_stream, is_write_failure}
use Rattle.hub_session.specs.Sessions.{exchange_text, is_broken, is_head, session_state, stream_head}
use Rattle.hub_session.proofs.AnswerLemmas.{breaks-after_stream}
use Rattle.hub_session.proofs.FeedLemmas.{items_text-append, rows_behind-push}
use Rattle.hub_session.proofs.FeedLemmas.{rows_within, streamed_more, streamed_streams}
use Rattle.hub_session.proofs.SessionLemmas.{one_more, served_more, served_session}

-- ---- bytes that are offered

-- bytes that are offered after the end of the input change nothing
pub over_as : {S : Type 0} (over : Bool) (bytes : List ℕ) (x : SessionView S) → over ≡ true
    → x ≡ offered_to over bytes x
over_as true bytes x is = refl
over_as false bytes x is = cc

-- an empty list says that no more bytes come
pub ended_as : {S : Type 0} (over : Bool) (bytes : List ℕ) (x y : SessionView S) → over ≡ false → bytes ≡ []
    → y ≡ record x { over = true } → y ≡ offered_to over bytes x
ended_as true bytes x y is none e = cc
ended_as false [] x y is none e = e
ended_as false (b ∷ bs) x y is none e = cc

came_at : {S : Type 0} (over : Bool) (behind : List ℕ) (x y : SessionView S) → over ≡ false → 0 < length behind
    → y ≡ record x { bytes = x.bytes ++ behind } → y ≡ offered_to over behind x
came_at true behind x y is some e = cc
came_at false [] x y is some e = absurd (omega (arith, some))
came_at false (b ∷ bs) x y is some e = e

-- bytes came, and stand behind the others
pub came_as : {S : Type 0} (x : SessionView S) (bytes : List ℕ) (over : Bool) (behind : List ℕ)
    → x.over ≡ false → 0 < length behind → over ≡ false → bytes ≡ x.bytes ++ behind
    → record x { bytes = bytes; over = over } ≡ offered_to x.over behind x
came_as x bytes over behind awaited some now e =
    let kept : over ≡ x.over = now ∙ sym awaited in
    came_at x.over behind x (record x { bytes = bytes; over = over }) awaited some
    (λ i.
    record { place = x.place; bytes = e i; over = kept i; service = x.service; pending = x.pending })

-- ---- more bytes behind those that came

-- a fault that is no end of the input is a fault of the bytes, whatever bytes come behind them
faults_stay : (bytes behind : List ℕ) (e : HttpFault) → ¬ (e ≡ fault.Ended) → Faults bytes e
    → Faults (bytes ++ behind) e
faults_stay bytes behind fault.NoMemory n f = let some = f in grind (arith, common_steps)
faults_stay bytes behind fault.IoFault n f = tt
faults_stay bytes behind fault.Ended n f = absurd (n refl)
faults_stay bytes behind fault.BadHead n f = head_fault_more bytes behind fault.BadHead f
faults_stay bytes behind fault.HeadTooLong n f = head_fault_more bytes behind fault.HeadTooLong f
faults_stay bytes behind fault.BodyTooLong n f = head_fault_more bytes behind fault.BodyTooLong f
faults_stay bytes behind fault.Version n f = head_fault_more bytes behind fault.Version f
faults_stay bytes behind fault.Coding n f = head_fault_more bytes behind fault.Coding f

-- A session that broke at the reply to a fault does so whatever bytes come behind. The end of the input is
-- told as an input that can't be read: neither has a reply.
broken_stays : (bytes behind text : List ℕ) (e : HttpFault) → Faults bytes e → text ≡ fault_text e
    → Closes (bytes ++ behind) Broken text
broken_stays bytes behind text fault.Ended f t = (fault.IoFault, tt, t)
broken_stays bytes behind text fault.NoMemory f t =
    (fault.NoMemory, faults_stay bytes behind fault.NoMemory (λ e. let x = e in cc) f, t)
broken_stays bytes behind text fault.IoFault f t = (fault.IoFault, tt, t)
broken_stays bytes behind text fault.BadHead f t =
    (fault.BadHead, head_fault_more bytes behind fault.BadHead f, t)
broken_stays bytes behind text fault.HeadTooLong f t =
    (fault.HeadTooLong, head_fault_more bytes behind fault.HeadTooLong f, t)
broken_stays bytes behind text fault.BodyTooLong f t =
    (fault.BodyTooLong, head_fault_more bytes behind fault.BodyTooLong f, t)
broken_stays bytes behind text fault.Version f t =
    (fault.Version, head_fault_more bytes behind fault.Version f, t)
broken_stays bytes behind text fault.Coding f t =
    (fault.Coding, head_fault_more bytes behind fault.Coding f, t)

fault_closes_stay : (bytes behind text : List ℕ) (e : HttpFault) → ¬ (IsOfEnd (Some (Fault e)))
    → Closes bytes (Fault e) text → Closes (bytes ++ behind) (Fault e) text
fault_closes_stay bytes behind text fault.Ended n k = absurd (n tt)
fault_closes_stay bytes behind text fault.NoMemory n k =
    (faults_stay bytes behind fault.NoMemory (λ e. let x = e in cc) k.0, k.1)
fault_closes_stay bytes behind text fault.IoFault n k = (tt, k.1)
fault_closes_stay bytes behind text fault.BadHead n k = (head_fault_more bytes behind fault.BadHead k.0, k.1)
fault_closes_stay bytes behind text fault.HeadTooLong n k =
    (head_fault_more bytes behind fault.HeadTooLong k.0, k.1)
fault_closes_stay bytes behind text fault.BodyTooLong n k =
    (head_fault_more bytes behind fault.BodyTooLong k.0, k.1)
fault_closes_stay bytes behind text fault.Version n k = (head_fault_more bytes behind fault.Version k.0, k.1)
fault_closes_stay bytes behind text fault.Coding n k = (head_fault_more bytes behind fault.Coding k.0, k.1)

-- the reason why a session closed stays, whatever bytes come behind, but where it was the end of the input
closes_stay : (bytes behind : List ℕ) (closing : Closing) (text : List ℕ) → ¬ (IsOfEnd (Some closing))
    → Closes bytes closing text → Closes (bytes ++ behind) closing text
closes_stay bytes behind Finished text n k = absurd (n tt)
closes_stay bytes behind (Fault e) text n k = fault_closes_stay bytes behind text e n k
closes_stay bytes behind Broken text n k = broken_stays bytes behind text k.0 k.1 k.2
closes_stay bytes behind Requested text n k = k
closes_stay bytes behind Cut text n k = k
closes_stay bytes behind Exhausted text n k = k

-- a state with more bytes behind its own
abbrev with_behind : {S : Type 0} → SessionState S → List ℕ → SessionState S
with_behind now behind = session_state now.served (now.bytes ++ behind) now.service

module _ {S : Type 0} (rules : Rules S) (behind : List ℕ) where
  -- exchanges are the same with more bytes behind
  pub served_behind : (from : SessionState S) (exchanges : List Exchange) (now : SessionState S)
      → HasServed rules from exchanges now
      → HasServed rules (with_behind from behind) exchanges (with_behind now behind)
  served_behind from exchanges now HasServed.stands = HasServed.stands
  served_behind from exchanges now (HasServed.goes_on {x = x} rest mid spelt answers others) =
      HasServed.goes_on (rest ++ behind) mid (spells_more from.bytes x.asked rest behind spelt) answers
      (served_behind _ _ now others)

  -- a session that closed, but not for the end of its input, is the same with more bytes behind
  pub session_behind : (from : SessionState S) (exchanges : List Exchange) (ending : Ending S)
      → ¬ (IsOfEnd (Some ending.closing)) → Session rules from exchanges ending
      → Session rules (with_behind from behind) exchanges ending
  session_behind from exchanges ending n (Session.goes_on {x = x} rest mid spelt answers others) =
      Session.goes_on (rest ++ behind) mid (spells_more from.bytes x.asked rest behind spelt) answers
      (session_behind _ _ ending n others)
  session_behind from exchanges ending n (Session.closes_behind x rest spelt answers text) =
      Session.closes_behind x (rest ++ behind) (spells_more from.bytes x.asked rest behind spelt) answers text
  session_behind from exchanges ending n (Session.closes k same) =
      Session.closes (closes_stay from.bytes behind ending.closing ending.text n k) same
  session_behind from exchanges ending n (Session.gives_up many is text same) =
      Session.gives_up many is text same

module _ {S : Type 0} (rules : Rules S) (start : S) (offered : List ℕ) where
  -- the work of a session, after more bytes were offered
  pub done_offered : (bytes : List ℕ) (over : Bool) (service : S) (text behind : List ℕ) (place : Place)
      → over ≡ false
      → HasDone rules start offered bytes over service text place
      → HasDone rules start (offered ++ behind) (bytes ++ behind) over service text place
  done_offered bytes over service text behind Between awaited d = record {
    exchanges = d.exchanges;
    count = d.count;
    served =
        served_behind rules behind (session_state 0 offered start) d.exchanges
        (session_state d.count bytes service) d.served;
    text_is = d.text_is;
  }
  done_offered bytes over service text behind (Within sending close) awaited d = record {
    exchanges = d.exchanges;
    count = d.count;
    front = d.front ++ behind;
    mid = d.mid;
    begun = d.begun;
    asked = d.asked;
    items = d.items;
    sent = d.sent;
    served =
        served_behind rules behind (session_state 0 offered start) d.exchanges
        (session_state d.count d.front d.mid) d.served;
    spelt = spells_more d.front d.asked bytes behind d.spelt;
    answered = d.answered;
    has_body = d.has_body;
    close_is = d.close_is;
    streamed = d.streamed;
    rows_are = d.rows_are;
    text_is = d.text_is;
  }
  done_offered bytes over service text behind (Closed closing) awaited d =
      let s = d.0 in
      let not_end : ¬ (IsOfEnd (Some closing)) =
      λ e. let clash : true ≡ false = sym (d.1 e) ∙ awaited in cc in (
        record {
          exchanges = s.exchanges;
          last = s.last;
          mid = s.mid;
          goes =
              session_behind rules behind (session_state 0 offered start) s.exchanges
              (record { closing = closing; text = s.last; service = service }) not_end s.goes;
          whole = s.whole;
          written = s.written;
        },
        d.1,
      )

-- ---- texts that are written

-- the outbox grew by a text
grows : (gone pending all more later : List ℕ) → later ≡ pending ++ more → gone ++ pending ≡ all
    → gone ++ later ≡ all ++ more
grows gone pending all more later e is =
    ap (λ l. gone ++ l) e ∙ sym (append_assoc gone pending more) ∙ ap (λ l. l ++ more) is

-- the outbox grew by a text, or by a front of it where the writing broke
sends_grow : (broken : Bool) (gone pending all more later : List ℕ)
    → Sends broken (Some pending) (Some later) more → gone ++ pending ≡ all
    → Sends broken (Some all) (Some (gone ++ later)) more
sends_grow false gone pending all more later s is = grows gone pending all more later s is
sends_grow true gone pending all more later s is = (s.0, grows gone pending all (take s.0 more) later s.1 is)

-- the text of an exchange that was answered by a stream
stream_text : (asked : PlainRequest) (mode : Mode) (life : ℕ) (items : List StreamItem) → is_head asked ≡ false
    → exchange_text (record { asked = asked; answer = Stream mode life; items = items })
    ≡ stream_head asked.close mode ++ items_text mode life 0 items
stream_text asked mode life items body =
    rw body
    (sym (append_assoc (head_text 200 chunked_line asked.close) (text_chunks (feed_head mode))
    (items_text mode life 0 items)))

-- ---- why an answer closes a session

not_end_answer : (close : Bool) → ¬ (IsOfEnd (after_answer close))
not_end_answer true = λ e. e
not_end_answer false = λ e. e

not_end_stream : (close : Bool) (end : StreamEnd) → ¬ (IsOfEnd (after_stream close end))
not_end_stream close stream.Complete = not_end_answer close
not_end_stream close stream.Stopped = λ e. e
not_end_stream close stream.NoMemory = λ e. e
not_end_stream close stream.Broken = λ e. e
not_end_stream close stream.Exhausted = λ e. e

-- an answer never closes a session for the end of the input
pub not_end : {S : Type 0} (rules : Rules S) (exchange : Exchange) (s : S) (next : Option Closing) (t : S)
    → Goes rules exchange s next t → ¬ (IsOfEnd next)
not_end rules exchange s next t (Goes.whole r a i st is) =
    subst (λ n. ¬ (IsOfEnd n)) (sym is) (not_end_answer exchange.asked.close)
not_end rules exchange s next t (Goes.whole_broken r a i st is) = subst (λ n. ¬ (IsOfEnd n)) (sym is) (λ e. e)
not_end rules exchange s next t (Goes.head_alone m l a h i d is) =
    subst (λ n. ¬ (IsOfEnd n)) (sym is) (not_end_answer exchange.asked.close)
not_end rules exchange s next t (Goes.stream_sent m l end a h st is) =
    subst (λ n. ¬ (IsOfEnd n)) (sym is) (not_end_stream exchange.asked.close end)
not_end rules exchange s next t (Goes.head_broken m l a i d is) = subst (λ n. ¬ (IsOfEnd n)) (sym is) (λ e. e)

-- ---- one step after others

module _ {S : Type 0} (rules : Rules S) (start : S) (offered : List ℕ) where
  -- one more exchange
  exchanged : (exchanges : List Exchange) (count : ℕ) (front : List ℕ) (mid : S) (exchange : Exchange)
      (next : Option Closing) (bytes : List ℕ) (over : Bool) (service : S) (text : List ℕ)
      → HasServed rules (session_state 0 offered start) exchanges (session_state count front mid)
      → Spells front exchange.asked bytes → Answers rules mid exchange next service
      → Sends (is_write_failure next) (Some (flat_map exchange_text exchanges)) (Some text) (exchange_text exchange)
      → (IsOfEnd next → over ≡ true)
      → HasDone rules start offered bytes over service text (place_behind next)
  exchanged exchanges count front mid exchange None bytes over service text served spelt answers sent ended =
      record {
        exchanges = exchanges ++ exchange ∷ [];
        count = count + 1;
        served =
            served_more rules (session_state 0 offered start) exchanges
            (session_state count front mid) exchange bytes service served spelt answers;
        text_is = sent ∙ sym (one_more exchanges exchange);
      }
  exchanged exchanges count front mid exchange
      (Some closing) bytes over service text served spelt answers sent ended =
      let ending : Ending S = record { closing = closing; text = exchange_text exchange; service = service }
      in (
        record {
          exchanges = exchanges;
          last = exchange_text exchange;
          mid = Some (flat_map exchange_text exchanges);
          goes = subst (λ l. Session rules (session_state 0 offered start) l ending) (append-nil exchanges)
              (served_session rules (session_state 0 offered start) exchanges
              (session_state count front mid) [] ending served
              (Session.closes_behind exchange bytes spelt answers refl));
          whole = refl;
          written = sent;
        },
        ended,
      )

  -- a closing after exchanges, where the bytes begin with no request
  closed_so : (exchanges : List Exchange) (count : ℕ) (front : List ℕ) (mid : S) (closing : Closing)
      (last bytes : List ℕ) (over : Bool) (service : S) (text : List ℕ)
      → HasServed rules (session_state 0 offered start) exchanges (session_state count front mid)
      → Closes front closing last → service ≡ mid
      → Sends (is_broken closing) (Some (flat_map exchange_text exchanges)) (Some text) last
      → (IsOfEnd (Some closing) → over ≡ true)
      → HasDone rules start offered bytes over service text (Closed closing)
  closed_so exchanges count front mid closing last bytes over service text served closes same sent ended =
      let ending : Ending S = record { closing = closing; text = last; service = service } in (
        record {
          exchanges = exchanges;
          last = last;
          mid = Some (flat_map exchange_text exchanges);
          goes = subst (λ l. Session rules (session_state 0 offered start) l ending) (append-nil exchanges)
              (served_session rules (session_state 0 offered start) exchanges
              (session_state count front mid) [] ending served
              (Session.closes closes same));
          whole = refl;
          written = sent;
        },
        ended,
      )

  pub done_exchanges : (old new : SessionView S) (gone : List ℕ) (next : Option Closing)
      → IsBetween rules start offered old.bytes old.service (gone ++ old.pending)
      → IsServed rules old.bytes next (Some new.bytes) (moment old.service (Some old.pending))
      (moment new.service (Some new.pending))
      → (IsOfEnd next → new.over ≡ true)
      → HasDone rules start offered new.bytes new.over new.service (gone ++ new.pending) (place_behind next)
  done_exchanges old new gone next d (IsServed.answered a) over =
      let x = a.answer.exchange in
      let rest : a.rest ≡ new.bytes = let e = a.left_is in cc in
      let spelt =
      subst (λ l. Spells old.bytes x.asked l) rest
      (subst (λ q. Spells old.bytes q a.rest) (sym a.answer.asked_is) a.spelt) in
      exchanged d.exchanges d.count old.bytes old.service x next new.bytes new.over new.service
      (gone ++ new.pending) d.served spelt a.answer.goes
      (sends_grow (is_write_failure next) gone old.pending (flat_map exchange_text d.exchanges)
      (exchange_text x) new.pending a.answer.written d.text_is) over
  done_exchanges old new gone next d (IsServed.closed k) over =
      subst (λ n.
      HasDone rules start offered new.bytes new.over new.service (gone ++ new.pending) (place_behind n))
      (sym k.next_is)
      (closed_so d.exchanges d.count old.bytes old.service k.closing k.text new.bytes new.over new.service
      (gone ++ new.pending) d.served k.closes k.same
      (sends_grow (is_broken k.closing) gone old.pending
      (flat_map exchange_text d.exchanges) k.text new.pending k.written d.text_is)
      (subst (λ n. IsOfEnd n → new.over ≡ true) k.next_is over))

  pub done_begins : (old new : SessionView S) (gone : List ℕ) (asked : PlainRequest) (sending : Sending)
      → IsBetween rules start offered old.bytes old.service (gone ++ old.pending)
      → sending.rows ≡ 0 → Spells old.bytes asked new.bytes
      → rules.answers old.service asked (Stream sending.mode sending.life) new.service → is_head asked ≡ false
      → new.pending ≡ old.pending ++ stream_head asked.close sending.mode
      → IsWithin rules start offered new.bytes new.service (gone ++ new.pending) sending asked.close
  done_begins old new gone asked sending d none spelt answered body e =
      let all = flat_map exchange_text d.exchanges in
      record {
        exchanges = d.exchanges;
        count = d.count;
        front = old.bytes;
        mid = old.service;
        begun = new.service;
        asked = asked;
        items = [];
        sent = 0;
        served = d.served;
        spelt = spelt;
        answered = answered;
        has_body = body;
        close_is = refl;
        streamed = HasStreamed.stands;
        rows_are = none;
        text_is = grows gone old.pending all (stream_head asked.close sending.mode) new.pending e d.text_is
            ∙ ap (λ l. all ++ l) (sym (append-nil (stream_head asked.close sending.mode)));
      }

  pub done_sends : (old new : SessionView S) (gone : List ℕ) (sending : Sending) (rows : ℕ) (close : Bool)
      → IsWithin rules start offered old.bytes old.service (gone ++ old.pending) sending close
      → new.bytes ≡ old.bytes
      → IsStreamed rules sending.mode sending.life 0 sending.rows (Ok rows)
      (moment old.service (Some old.pending)) (moment new.service (Some new.pending))
      → IsWithin rules start offered new.bytes new.service (gone ++ new.pending)
      (record sending { rows = rows }) close
  done_sends old new gone sending rows close d bytes step =
      let mode = sending.mode in
      let life = sending.life in
      let item = step.0 in
      let all = flat_map exchange_text d.exchanges in
      let head = stream_head d.asked.close mode in
      let first = items_text mode life 0 d.items in
      let last = sent_text mode life sending.rows item in
      let more : first ++ last ≡ items_text mode life 0 (d.items ++ item ∷ []) =
      ap (λ n. first ++ sent_text mode life n item) d.rows_are
      ∙ ap (λ l. first ++ l) (sym (append-nil (sent_text mode life (rows_behind 0 d.items) item)))
      ∙ sym (items_text-append mode life 0 d.items (item ∷ [])) in
      record {
        exchanges = d.exchanges;
        count = d.count;
        front = d.front;
        mid = d.mid;
        begun = d.begun;
        asked = d.asked;
        items = d.items ++ item ∷ [];
        sent = d.sent + 1;
        served = d.served;
        spelt = subst (λ l. Spells d.front d.asked l) (sym bytes) d.spelt;
        answered = d.answered;
        has_body = d.has_body;
        close_is = d.close_is;
        streamed =
            streamed_more rules 0 d.begun d.items d.sent old.service item new.service
            d.streamed step.1 step.2;
        rows_are = step.3 ∙ ap (λ n. rows_after n item) d.rows_are ∙ sym (rows_behind-push 0 d.items item);
        text_is = grows gone old.pending (all ++ (head ++ first)) last new.pending step.4 d.text_is
            ∙ append_assoc all (head ++ first) last
            ∙ ap (λ l. all ++ l) (append_assoc head first last ∙ ap (λ l. head ++ l) more);
      }

  pub done_ends : (old new : SessionView S) (gone : List ℕ) (sending : Sending) (close : Bool) (end : StreamEnd)
      → IsWithin rules start offered old.bytes old.service (gone ++ old.pending) sending close
      → new.bytes ≡ old.bytes
      → ((sent : ℕ) → sending.rows ≤ sent
      → IsStreamed rules sending.mode sending.life sent sending.rows (Err end)
      (moment old.service (Some old.pending)) (moment new.service (Some new.pending)))
      → HasDone rules start offered new.bytes new.over new.service (gone ++ new.pending)
      (place_behind (after_stream close end))
  done_ends old new gone sending close end d bytes steps =
      let mode = sending.mode in
      let life = sending.life in
      let step =
      steps d.sent
      (rw d.rows_are (rows_within rules 0 d.begun d.items d.sent old.service 0 d.streamed (omega arith))) in
      let items = d.items ++ step.0 in
      let x : Exchange = record { asked = d.asked; answer = Stream mode life; items = items } in
      let all = flat_map exchange_text d.exchanges in
      let head = stream_head d.asked.close mode in
      let first = items_text mode life 0 d.items in
      let last = items_text mode life sending.rows step.0 in
      let next = after_stream close end in
      let goes : Goes rules x d.begun next new.service =
      Goes.stream_sent mode life end refl d.has_body
      (streamed_streams rules 0 d.begun d.items d.sent old.service step.0 end new.service d.streamed step.1)
      (ap (λ c. after_stream c end) d.close_is) in
      let more : first ++ last ≡ items_text mode life 0 items =
      ap (λ n. first ++ items_text mode life n step.0) d.rows_are
      ∙ sym (items_text-append mode life 0 d.items step.0) in
      let whole : (head ++ first) ++ last ≡ exchange_text x =
      append_assoc head first last
      ∙ ap (λ l. head ++ l) more
      ∙ sym (stream_text d.asked mode life items d.has_body) in
      let sent : Sends (stream_breaks end) (Some all) (Some (gone ++ new.pending)) ((head ++ first) ++ last) =
      sends_after (stream_breaks end) (Some all) (Some (all ++ (head ++ first))) (Some (gone ++ new.pending))
      (head ++ first) last refl
      (sends_grow (stream_breaks end) gone old.pending
      (all ++ (head ++ first)) last new.pending step.2 d.text_is) in
      exchanged d.exchanges d.count d.front d.mid x next new.bytes new.over new.service
      (gone ++ new.pending) d.served
      (subst (λ l. Spells d.front d.asked l) (sym bytes) d.spelt)
      (record { mid = d.begun; answered = d.answered; goes = goes })
      (subst (λ b. Sends b (Some all) (Some (gone ++ new.pending)) (exchange_text x))
      (sym (breaks-after_stream close end))
      (subst (Sends (stream_breaks end) (Some all) (Some (gone ++ new.pending))) whole sent))
      (λ e. absurd (not_end_stream close end e))

-- ---- the session of all steps

module _ {S : Type 0} (rules : Rules S) (run : Run S) where
  steps_run : (old new : SessionView S) (step : Step) → Steps rules old new step → HasRun rules run old
      → HasRun rules run new
  steps_run old new step (Steps.exchanges next p q s o over h) d =
      subst (HasDone rules run.start run.offered new.bytes new.over new.service (run.gone ++ new.pending))
      (sym q)
      (done_exchanges rules run.start run.offered old new run.gone next
      (subst (HasDone rules run.start run.offered old.bytes old.over old.service (run.gone ++ old.pending))
      p d) h (λ e. o ∙ over e))
  steps_run old new step (Steps.begins asked sending p q s o none spelt answered body e) d =
      subst (HasDone rules run.start run.offered new.bytes new.over new.service (run.gone ++ new.pending))
      (sym q)
      (done_begins rules run.start run.offered old new run.gone asked sending
      (subst (HasDone rules run.start run.offered old.bytes old.over old.service (run.gone ++ old.pending))
      p d)
      none spelt answered body e)
  steps_run old new step (Steps.sends sending rows close p q s o bytes h) d =
      subst (HasDone rules run.start run.offered new.bytes new.over new.service (run.gone ++ new.pending))
      (sym q)
      (done_sends rules run.start run.offered old new run.gone sending rows close
      (subst (HasDone rules run.start run.offered old.bytes old.over old.service (run.gone ++ old.pending))
      p d) bytes h)
  steps_run old new step (Steps.ends sending close end p q s o bytes h) d =
      subst (HasDone rules run.start run.offered new.bytes new.over new.service (run.gone ++ new.pending))
      (sym q)
      (done_ends rules run.start run.offered old new run.gone sending close end
      (subst (HasDone rules run.start run.offered old.bytes old.over old.service (run.gone ++ old.pending))
      p d) bytes h)

  same_run : (old new : SessionView S) → new ≡ old → HasRun rules run old → HasRun rules run new
  same_run old new same d = subst (HasRun rules run) (sym same) d

  pub stepped_run : (old new : SessionView S) (step : Step) → IsStepped rules old step new → HasRun rules run old
      → HasRun rules run new
  stepped_run old new Served h d = steps_run old new Served h d
  stepped_run old new (Ended closing) h d =
      elim h [ inl x ↦ steps_run old new (Ended closing) x d | inr x ↦ same_run old new x.1 d ]
  stepped_run old new WantsInput h d = same_run old new h.3 d
  stepped_run old new WantsRoom h d = same_run old new h.1 d
  stepped_run old new WantsNews h d = same_run old new h.3 d

  -- ---- calls between steps

  pub offered_run : (old new : SessionView S) (behind : List ℕ) → old.over ≡ false
      → new ≡ record old { bytes = old.bytes ++ behind } → HasRun rules run old
      → HasRun rules (with_offered run behind) new
  offered_run old new behind awaited e d =
      subst (HasRun rules (with_offered run behind)) (sym e)
      (done_offered rules run.start run.offered old.bytes old.over old.service
      (run.gone ++ old.pending) behind old.place awaited d)

  -- no more bytes come
  ended_run : (old new : SessionView S) → new ≡ record old { over = true } → HasRun rules run old
      → HasRun rules run new
  ended_run old new is d = subst (HasRun rules run) (sym is) (ended_at old.place d)
    where
      ended_at : (place : Place)
          → HasDone rules run.start run.offered old.bytes old.over old.service (run.gone ++ old.pending) place
          → HasDone rules run.start run.offered old.bytes true old.service (run.gone ++ old.pending) place
      ended_at Between d = d
      ended_at (Within sending close) d = d
      ended_at (Closed closing) d = (d.0, λ end. refl)

  offered_at : (over : Bool) (bytes : List ℕ) (old new : SessionView S) → old.over ≡ over
      → new ≡ offered_to over bytes old → HasRun rules run old → HasRun rules (run_offered over bytes run) new
  offered_at true bytes old new at is d = same_run old new is d
  offered_at false [] old new at is d =
      subst (λ all.
      HasDone rules run.start all new.bytes new.over new.service (run.gone ++ new.pending) new.place)
      (sym (append-nil run.offered)) (ended_run old new is d)
  offered_at false (b ∷ bs) old new at is d = offered_run old new (b ∷ bs) at is d

  -- the run after bytes were offered
  pub run_behind : (bytes : List ℕ) (old new : SessionView S) → new ≡ offered_to old.over bytes old
      → HasRun rules run old → HasRun rules (run_offered old.over bytes run) new
  run_behind bytes old new is d = offered_at old.over bytes old new refl is d

  -- a session between two requests whose other side is gone
  pub given_up_between : (old : SessionView S) → old.place ≡ Between → HasRun rules run old
      → HasRun rules run (record old { place = Closed Broken })
  given_up_between old place d =
      let b : IsBetween rules run.start run.offered old.bytes old.service (run.gone ++ old.pending) =
      subst (HasDone rules run.start run.offered old.bytes old.over old.service (run.gone ++ old.pending))
      place d in
      closed_so rules run.start run.offered b.exchanges b.count old.bytes old.service Broken [] old.bytes
      old.over old.service (run.gone ++ old.pending) b.served
      (fault.IoFault, tt, refl) refl
      (0, b.text_is ∙ sym (append-nil (flat_map exchange_text b.exchanges))) (λ x. absurd x)

  pub given_up_within : (sending : Sending) (close : Bool) (old : SessionView S) (service : S)
      → old.place ≡ Within sending close → rules.drops old.service service → HasRun rules run old
      → HasRun rules run (record old { place = Closed Broken; service = service })
  given_up_within sending close old service place drops d =
      let later = record old { place = Closed Broken; service = service } in
      let w : IsWithin rules run.start run.offered old.bytes old.service
      (run.gone ++ old.pending) sending close =
      subst (HasDone rules run.start run.offered old.bytes old.over old.service (run.gone ++ old.pending))
      place d in
      done_ends rules run.start run.offered old later run.gone sending close stream.Broken w refl
      (λ sent low. ([], Streams.breaks drops, (0, sym (append-nil old.pending))))

-- a session was given up as more bytes came
pub given_up_behind : {S : Type 0} (rules : Rules S) (run : Run S) (place : Place) (old new : SessionView S)
    (behind : List ℕ) → old.place ≡ place → old.over ≡ false → GivesUpAt place rules old new
    → HasRun rules run old → HasRun rules (with_offered run behind) new
given_up_behind rules run Between old new behind place awaited is d =
    let all = record old { bytes = old.bytes ++ behind } in
    subst (HasRun rules (with_offered run behind)) (sym is)
    (given_up_between rules (with_offered run behind) all place
    (offered_run rules run old all behind awaited refl d))
given_up_behind rules run (Within sending close) old new behind place awaited is d =
    let all = record old { bytes = old.bytes ++ behind } in
    subst (HasRun rules (with_offered run behind)) (sym is.1)
    (given_up_within rules (with_offered run behind) sending close all new.service place is.0
    (offered_run rules run old all behind awaited refl d))
given_up_behind rules run (Closed closing) old new behind place awaited is d =
    let all = record old { bytes = old.bytes ++ behind } in
    let later = with_offered run behind in
    let text = run.gone ++ old.pending in
    subst (HasRun rules later) (sym is)
    (subst (HasDone rules later.start later.offered old.bytes old.over old.service text) (sym place)
    (subst (HasDone rules later.start later.offered all.bytes old.over old.service text) place
    (offered_run rules run old all behind awaited refl d)))

-- a statement about a call that succeeded gives each of its consequences
pub on_ok : {A E : Type 0} (r : Result A E) (P Q : Type 0) → (P → Q) → OnOk r P → OnOk r Q
on_ok (Ok x) P Q f p = f p
on_ok (Err e) P Q f p = p

-- a session that begins has its first run
pub begun_run : {S : Type 0} (rules : Rules S) (start : S) (x : SessionView S) → x.place ≡ Between → x.bytes ≡ []
    → x.service ≡ start → x.pending ≡ [] → HasRun rules (new_run start) x
begun_run rules start x place none same empty =
    let served : HasServed rules (session_state 0 [] start) [] (session_state 0 x.bytes x.service) =
    subst (λ l. HasServed rules (session_state 0 [] start) [] (session_state 0 l x.service)) (sym none)
    (subst (λ s. HasServed rules (session_state 0 [] start) [] (session_state 0 [] s)) (sym same) HasServed.stands) in
    subst (HasDone rules start [] x.bytes x.over x.service x.pending) (sym place)
    (record { exchanges = []; count = 0; served = served; text_is = empty })
