-- From one request to all of them.
use Rattle.std.proofs.Common.{◌≡◌, ◌≤◌, ◌⊎◌, ℕ, ◌+◌, List, [], ◌∷◌, ◌++◌, Option, Some, None}
use Rattle.std.proofs.Common.{Ok, Err, IfSome, refl, sym, ap, subst, ◌∙◌, append-nil, inl, inr}
use Rattle.std.proofs.lemmas.Grind.{flat_map-append}
use Rattle.std.specs.List.{flat_map}
use Rattle.std.specs.Io.KnownBytes.{Appends}
use Rattle.std.proofs.KnownBytes.{Appends-nil, Appends-trans}
use Rattle.hub_http.specs.Counts.{Sends, last_count}
use Rattle.hub_http.specs.declared.request.Request.{Request}
use Rattle.hub_http.specs.declared.fault.HttpFault.{HttpFault}
use Rattle.hub_http.specs.Stream.{PlainRequest, asked_by, Spells, Leaves, Faults}
use Rattle.hub_http.specs.declared.fault.HttpFault.TheVariants.{NoMemory, BadHead, HeadTooLong, BodyTooLong}
use Rattle.hub_http.specs.declared.fault.HttpFault.TheVariants.{Version, Coding, Ended, IoFault}
use Rattle.hub_session.specs.declared.closing.Closing.{Closing}
use Rattle.hub_session.specs.declared.closing.Closing.TheVariants.{Finished, Fault, Broken, Exhausted}
use Rattle.hub_session.specs.Replies.{fault_text}
use Rattle.hub_session.specs.Rules.{Rules, Moment, moment}
use Rattle.hub_session.specs.Sessions.{Answers, Exchange, exchange_text, SessionState, Ending, Session, HasServed}
use Rattle.hub_session.specs.Sessions.{IsSession, HasAnswer, IsServed, Closes, is_broken, session_state}

-- a fault of the next request is a fault of its bytes
ends_faulty : (b c : Option (List ℕ)) (fault : HttpFault) → IfSome b (λ bytes. Leaves bytes (Err fault) c)
    → IfSome b (λ bytes. Faults bytes fault)
ends_faulty None c fault s = tt
ends_faulty (Some y) None fault s = absurd s
ends_faulty (Some y) (Some z) NoMemory s = s.1
ends_faulty (Some y) (Some z) BadHead s = s
ends_faulty (Some y) (Some z) HeadTooLong s = s
ends_faulty (Some y) (Some z) BodyTooLong s = s
ends_faulty (Some y) (Some z) Version s = s
ends_faulty (Some y) (Some z) Coding s = s
ends_faulty (Some y) (Some z) Ended s = s
ends_faulty (Some y) (Some z) IoFault s = tt

-- a session closes by a fault that its bytes have, or by an answer to it that can't be written
pub faulty_closes : (bytes : List ℕ) (fault : HttpFault) (closing : Closing) → Faults bytes fault
    → (closing ≡ Fault fault) ⊎ (closing ≡ Broken) → Closes bytes closing (fault_text fault)
faulty_closes bytes fault closing f (inl is) =
    subst (λ c. Closes bytes c (fault_text fault)) (sym is) (f, refl)
faulty_closes bytes fault closing f (inr is) =
    subst (λ c. Closes bytes c (fault_text fault)) (sym is) (fault, f, refl)

pub one_answered : {S : Type 0} (rules : Rules S) (before after : Moment S) (b left : Option (List ℕ))
    (request : Request) (next : Option Closing)
    → IfSome b (λ bytes. Leaves bytes (Ok (Some request)) left)
    → HasAnswer rules (asked_by request) next before after
    → IfSome b (λ bytes. IsServed rules bytes next left before after)
one_answered rules before after None left request next l has = tt
one_answered rules before after (Some x) None request next l has = absurd l
one_answered rules before after (Some x) (Some y) request next l has =
    IsServed.answered (record { asked = asked_by request; rest = y; spelt = l; left_is = refl; answer = has })

module _ {S : Type 0} (rules : Rules S) (before : Moment S) where
  pub one_finished : (b left : Option (List ℕ)) → IfSome b (λ bytes. Leaves bytes (Ok None) left)
      → IfSome b (λ bytes. IsServed rules bytes (Some Finished) left before before)
  one_finished None left l = tt
  one_finished (Some x) None l = absurd l
  one_finished (Some x) (Some y) l = IsServed.closed (record {
    closing = Finished;
    text = [];
    next_is = refl;
    closes = (l.0, refl);
    same = refl;
    written = Appends-nil before.written;
  })

  -- the bytes have this fault, and its reply was written, or the writing broke
  pub one_faulted : (new b left : Option (List ℕ)) (fault : HttpFault) (closing : Closing)
      → IfSome b (λ bytes. Leaves bytes (Err fault) left)
      → (closing ≡ Fault fault) ⊎ (closing ≡ Broken)
      → Sends (is_broken closing) before.written new (fault_text fault)
      → IfSome b (λ bytes. IsServed rules bytes (Some closing) left before (moment before.service new))
  one_faulted new None left fault closing l c p = tt
  one_faulted new (Some x) left fault closing l c p = IsServed.closed (record {
    closing = closing;
    text = fault_text fault;
    next_is = refl;
    closes = faulty_closes x fault closing (ends_faulty (Some x) left fault l) c;
    same = refl;
    written = p;
  })

-- a session is the requests that were served, and then its rest
pub served_session : {S : Type 0} (rules : Rules S) (from : SessionState S) (first : List Exchange)
    (now : SessionState S) (more : List Exchange) (ending : Ending S)
    → HasServed rules from first now → Session rules now more ending
    → Session rules from (first ++ more) ending
served_session rules from first now more ending HasServed.stands h = h
served_session rules from first now more ending (HasServed.goes_on rest mid spelt answers others) h =
    Session.goes_on rest mid spelt answers (served_session rules _ _ now more ending others h)

-- one more request was answered
pub served_more : {S : Type 0} (rules : Rules S) (from : SessionState S) (first : List Exchange)
    (now : SessionState S) (exchange : Exchange) (rest : List ℕ) (mid : S)
    → HasServed rules from first now → Spells now.bytes exchange.asked rest
    → Answers rules now.service exchange None mid
    → HasServed rules from (first ++ exchange ∷ []) (session_state (now.served + 1) rest mid)
served_more rules from first now exchange rest mid HasServed.stands spelt answers =
    HasServed.goes_on rest mid spelt answers HasServed.stands
served_more rules from first now exchange rest mid (HasServed.goes_on r m s a others) spelt answers =
    HasServed.goes_on r m s a (served_more rules _ _ now exchange rest mid others spelt answers)

-- `served` requests of these bytes were answered, and the bytes in `left` are left
pub record Served {S : Type 0} (rules : Rules S) (bytes : List ℕ) (before : Moment S) (served : ℕ)
    (left : Option (List ℕ)) (now : Moment S) : Type 0 where
  pub first : List Exchange
  pub rest : List ℕ
  pub left_is : left ≡ Some rest
  pub goes : HasServed rules (session_state 0 bytes before.service) first (session_state served rest now.service)
  pub written : Appends before.written now.written (flat_map exchange_text first)

pub served_none : {S : Type 0} (rules : Rules S) (now : Moment S) (b : Option (List ℕ))
    → IfSome b (λ bytes. Served rules bytes now 0 b now)
served_none rules now None = tt
served_none rules now (Some x) = record {
  first = [];
  rest = x;
  left_is = refl;
  goes = HasServed.stands;
  written = Appends-nil now.written;
}

pub one_more : (exchanges : List Exchange) (exchange : Exchange)
    → flat_map exchange_text (exchanges ++ exchange ∷ []) ≡ flat_map exchange_text exchanges
    ++ exchange_text exchange
one_more exchanges exchange =
    flat_map-append exchange_text exchanges (exchange ∷ [])
    ∙ ap (λ l. flat_map exchange_text exchanges ++ l) (append-nil (exchange_text exchange))

module _ {S : Type 0} (rules : Rules S) (bytes : List ℕ) (before : Moment S) (served : ℕ)
    (left : Option (List ℕ)) (now : Moment S) where
  -- the exchange of a request that the bytes begin with
  begins_with : (rest : List ℕ) (asked : PlainRequest) (after : List ℕ) (exchange : Exchange)
      → Spells rest asked after → exchange.asked ≡ asked → Spells rest exchange.asked after
  begins_with rest asked after exchange s e = subst (λ a. Spells rest a after) (sym e) s

  more_by : (w : Served rules bytes before served left now) (left' : Option (List ℕ)) (next : Moment S)
      → IsServed rules w.rest None left' now next
      → Served rules bytes before (served + 1) left' next
  more_by w left' next (IsServed.answered a) =
      let x = a.answer.exchange in
      record {
        first = w.first ++ x ∷ [];
        rest = a.rest;
        left_is = a.left_is;
        goes =
            served_more rules (session_state 0 bytes before.service) w.first
            (session_state served w.rest now.service) x a.rest next.service w.goes
            (begins_with w.rest a.asked a.rest x a.spelt a.answer.asked_is) a.answer.goes;
        written =
            subst (Appends before.written next.written) (sym (one_more w.first x))
            (Appends-trans before.written now.written next.written _ _ w.written a.answer.written);
      }
  more_by w left' next (IsServed.closed k) = let e = k.next_is in cc

  ends_by : (w : Served rules bytes before served left now) (closing : Closing)
      (text : List ℕ) (after : Moment S)
      → Session rules (session_state served w.rest now.service) []
      (record { closing = closing; text = text; service = after.service })
      → Sends (is_broken closing) now.written after.written text
      → IsSession rules bytes closing before after
  ends_by w closing text after h p = record {
    exchanges = w.first;
    last = text;
    mid = now.written;
    goes =
        subst (λ l. Session rules (session_state 0 bytes before.service) l
        (record { closing = closing; text = text; service = after.service })) (append-nil w.first)
        (served_session rules (session_state 0 bytes before.service) w.first (session_state served w.rest now.service)
        [] (record { closing = closing; text = text; service = after.service }) w.goes h);
    whole = w.written;
    written = p;
  }

  closes_by : (w : Served rules bytes before served left now) (closing : Closing)
      (left' : Option (List ℕ)) (after : Moment S)
      → IsServed rules w.rest (Some closing) left' now after → IsSession rules bytes closing before after
  closes_by w closing left' after (IsServed.answered a) =
      let x = a.answer.exchange in
      ends_by w closing (exchange_text x) after
      (Session.closes_behind x a.rest
      (begins_with w.rest a.asked a.rest x a.spelt a.answer.asked_is) a.answer.goes refl) a.answer.written
  closes_by w closing left' after (IsServed.closed k) =
      let e : closing ≡ k.closing = let n = k.next_is in cc in
      ends_by w closing k.text after
      (Session.closes (subst (λ x. Closes w.rest x k.text) (sym e) k.closes) k.same)
      (subst (λ x. Sends (is_broken x) now.written after.written k.text) (sym e) k.written)

module _ {S : Type 0} (rules : Rules S) (before now after : Moment S) (served : ℕ)
    (left left' : Option (List ℕ)) where
  pub serves_more : (b : Option (List ℕ)) → IfSome b (λ bytes. Served rules bytes before served left now)
      → IfSome left (λ bytes. IsServed rules bytes None left' now after)
      → IfSome b (λ bytes. Served rules bytes before (served + 1) left' after)
  serves_more None w h = tt
  serves_more (Some x) w h =
      more_by rules x before served left now w left' after
      (subst (λ l. IfSome l (λ bytes. IsServed rules bytes None left' now after)) w.left_is h)

  pub serves_so : (b : Option (List ℕ)) (closing : Closing)
      → IfSome b (λ bytes. Served rules bytes before served left now)
      → IfSome left (λ bytes. IsServed rules bytes (Some closing) left' now after)
      → IfSome b (λ bytes. IsSession rules bytes closing before after)
  serves_so None closing w h = tt
  serves_so (Some x) closing w h =
      closes_by rules x before served left now w closing left' after
      (subst (λ l. IfSome l (λ bytes. IsServed rules bytes (Some closing) left' now after)) w.left_is h)

pub serves_all : {S : Type 0} (rules : Rules S) (before now : Moment S) (served : ℕ)
    (left b : Option (List ℕ))
    → last_count ≤ served
    → IfSome b (λ bytes. Served rules bytes before served left now)
    → IfSome b (λ bytes. IsSession rules bytes Exhausted before now)
serves_all rules before now served left None n w = tt
serves_all rules before now served left (Some x) n w =
    ends_by rules x before served left now w Exhausted [] now (Session.gives_up n refl refl refl)
    (Appends-nil now.written)
