-- RFC 9112, sections 2, 6 and 9.3.2: the requests that a connection's bytes spell, one after the other.
use Rattle.std.specs.Prelude.{◌≡◌, ⊤, ℕ, ◌<◌, ◌⊎◌, Bool, List, [], ◌++◌, length, Option, Some, None}
use Rattle.std.specs.Prelude.{Result, Ok, Err, is_some, unwrap_or}
use Rattle.httparse.specs.Grammar.{RequestHead}
use Rattle.hub_http.specs.declared.fault.HttpFault.{HttpFault}
use Rattle.hub_http.specs.declared.fault.HttpFault.TheVariants.{NoMemory, Ended, IoFault}
use Rattle.hub_http.specs.declared.request.Request.{Request}
use Rattle.std.specs.Io.KnownBytes.{prepend_known}
use Rattle.hub_http.specs.Heads.{length_by, close_by, Begins, HasHeadFault, IsPartOfHead}

-- a request as plain values, without its places in memory
pub record PlainRequest : Type 0 where
  pub method : List ℕ
  pub target : List ℕ
  pub has_length : Bool
  pub close : Bool
  pub body : List ℕ

-- the plain values of a request
abbrev pub asked_by : Request → PlainRequest
asked_by request = record {
  method = request.method;
  target = request.target.items;
  has_length = request.has_length;
  close = request.close;
  body = request.body.items;
}

-- The bytes are this head, the body that it asks for, and then rest. `asked` is the request of the head and
-- the body. The head of a POST with a Content-Length of 2, and then abc, are that request with the body ab,
-- and then c.
pub record SpelledBy (bytes : List ℕ) (asked : PlainRequest) (rest : List ℕ) (head : RequestHead) : Type 0 where
  pub begins : Begins bytes head (asked.body ++ rest)
  pub length : Option ℕ
  pub length_is : length_by head ≡ Ok length
  pub method : asked.method ≡ head.method
  pub target : asked.target ≡ head.target
  pub has_length : asked.has_length ≡ is_some length
  pub close : asked.close ≡ close_by head
  pub body : Rattle.std.specs.Prelude.length asked.body ≡ unwrap_or length 0

-- the bytes are this request, and then rest
abbrev pub Spells : List ℕ → PlainRequest → List ℕ → Type 0
Spells bytes asked rest = (head : RequestHead) × SpelledBy bytes asked rest head

-- The bytes end in the middle of the body that their head asks for. A head that asks for 3 bytes, with ab
-- behind it, is cut.
abbrev pub IsCut : List ℕ → Type 0
IsCut bytes =
    (head : RequestHead) × (part : List ℕ) × (n : ℕ) × Begins bytes head part × (length_by head ≡ Ok (Some n))
    × (length part < n)

-- the bytes of the block and then the bytes that are left to read, where the latter are known
abbrev pub to_read : List ℕ → Option (List ℕ) → Option (List ℕ)
to_read block left = prepend_known block left

-- the held bytes and then the bytes that are left, where the latter are known
abbrev pub known : List ℕ → Option (List ℕ) → Option (List ℕ)
known held left = prepend_known held left

-- The bytes may be refused with this fault. They have the head fault of the table, or end in the middle of a
-- head or of a body. Out of memory needs at least one byte, and a reader may always fail. So the empty text
-- has no fault but IoFault, and a head whose version is 1.0 has Version.
abbrev pub Faults : List ℕ → HttpFault → Type 0
Faults bytes NoMemory = 0 < length bytes
Faults bytes Ended = IsPartOfHead bytes ⊎ IsCut bytes
Faults bytes IoFault = ⊤
Faults bytes fault = HasHeadFault bytes fault

-- The bytes that are left after a call of `next` over these bytes. Where the bytes are one request and then
-- c, and the request was read, c is left. Out of memory, all bytes are left. After another fault any may be
-- left.
abbrev pub Leaves : List ℕ → Result (Option Request) HttpFault → Option (List ℕ) → Type 0
Leaves bytes r None = ⊥
Leaves bytes (Ok (Some q)) (Some rest) = Spells bytes (asked_by q) rest
Leaves bytes (Ok None) (Some rest) = (bytes ≡ []) × (rest ≡ [])
Leaves bytes (Err NoMemory) (Some rest) = (rest ≡ bytes) × (0 < length bytes)
Leaves bytes (Err e) (Some rest) = Faults bytes e
