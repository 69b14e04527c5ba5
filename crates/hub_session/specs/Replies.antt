-- RFC 9112, section 9.6 (closing after an error); own for the texts: replies to faults of reading a request,
-- out of memory too, and the parts of an answer.
use Rattle.std.specs.Prelude.{ℕ, List, [], true, false, Option, Some, None, flat_map}
use Rattle.std.specs.Option.{option_map_or}
use Rattle.std.specs.Borrow.{Bor}
use Rattle.hub_http.specs.declared.reply.Reply.{Reply}
use Rattle.hub_http.specs.declared.reply.Reply.TheVariants.{Done, Refused}
use Rattle.hub_http.specs.declared.refusal.Refusal.{Refusal}
use Rattle.hub_http.specs.declared.refusal.Refusal.TheVariants as refusal
use Rattle.hub_http.specs.Texts.{refusal_body, reply_text}
use Rattle.hub_http.specs.Refusals.{status_of}
use Rattle.hub_http.specs.declared.fault.HttpFault.{HttpFault}
use Rattle.hub_http.specs.declared.fault.HttpFault.TheVariants.{NoMemory, BadHead, HeadTooLong, BodyTooLong}
use Rattle.hub_http.specs.declared.fault.HttpFault.TheVariants.{Version, Coding, Ended, IoFault}

-- the refusal that answers a fault of reading a request, if one does
abbrev pub refusal_of : HttpFault → Option Refusal
refusal_of NoMemory = Some refusal.NoMemory
refusal_of BadHead = Some refusal.BadHead
refusal_of HeadTooLong = Some refusal.HeadTooLong
refusal_of BodyTooLong = Some refusal.BodyTooLong
refusal_of Version = Some refusal.Version
refusal_of Coding = Some refusal.Coding
refusal_of Ended = None
refusal_of IoFault = None

-- the reply to a fault of reading a request, empty where no refusal answers it
abbrev pub fault_text : HttpFault → List ℕ
fault_text fault = option_map_or (λ refusal. reply_text (Refused refusal) false true) (refusal_of fault) []

-- the status of an answer
abbrev pub status_in : Reply → ℕ
status_in (Done status body) = status
status_in (Refused refusal) = status_of refusal

-- the body of an answer
abbrev pub body_in : Reply → List ℕ
body_in (Done status body) = body.items
body_in (Refused refusal) = refusal_body refusal

-- The text of parts, one behind the other. The parts `HTTP/1.1 `, `200`, ` `, `OK` and the end of a line are
-- the line `HTTP/1.1 200 OK`.
abbrev pub parts_text : List (Bor (List ℕ)) → List ℕ
parts_text parts = flat_map (λ p. p.now) parts
