-- own: the answers of the steps that read a request.
use Rattle.std.specs.Prelude.{◌≡◌, ℕ, ◌<◌, true, List, [], ◌∷◌, ◌++◌, length, drop, Option, Some, None}
use Rattle.std.specs.Prelude.{Result, Ok, Err, IfSome, if◌then◌else◌, nat_le, bytes_eq, ⊤}
use Rattle.std.specs.List.{list_all}
use Rattle.std.specs.Str.Parse.{digits_value}
use Rattle.std.specs.Io.KnownBytes.{IsAtEnd}
use Rattle.httparse.specs.Grammar.{RequestHead, print_request}
use Rattle.hub_http.specs.declared.fault.HttpFault.{HttpFault}
use Rattle.hub_http.specs.declared.fault.HttpFault.TheVariants.{NoMemory, BadHead, HeadTooLong}
use Rattle.hub_http.specs.declared.fault.HttpFault.TheVariants.{BodyTooLong, Ended, IoFault}
use Rattle.hub_http.specs.declared.head.Head.{Head}
use Rattle.hub_http.specs.Heads.{body_limit, field_limit, is_digits, length_by, close_by, Begins, GoesOn}
use Rattle.hub_http.specs.Heads.{HasHeadFault}
use Rattle.hub_http.specs.Heads.{IsPartOfHead}

-- Of the values `all`, `rest` are left to look at. With None no value was seen. With Some v at least one
-- value was seen, and each that was seen is v.
abbrev pub SoFar : Option (List ℕ) → List (List ℕ) → List (List ℕ) → Type 0
SoFar None all rest = all ≡ rest
SoFar (Some v) all rest =
    (vs : List (List ℕ)) × (all ≡ v ∷ (vs ++ rest)) × (list_all (λ w. bytes_eq w v) vs ≡ true)

-- the length that one value gives
unfoldable pub length_in : List ℕ → Result ℕ HttpFault
length_in v =
    if is_digits v
    then (if nat_le (digits_value 10 v) body_limit then Ok (digits_value 10 v) else Err BodyTooLong)
    else Err BadHead

-- the first head.len bytes of buf are the head `other`, and the parts of `head` are those of `other`
pub record IsHeadAt (buf : List ℕ) (head : Head) (other : RequestHead) : Type 0 where
  pub begins : Begins buf other (drop head.len buf)
  pub len : head.len ≡ length (print_request other)
  pub method : head.method ≡ other.method
  pub target : head.target.items ≡ other.target
  pub length : length_by other ≡ Ok head.length
  pub close : head.close ≡ close_by other

-- The meaning of a fault for the bytes in which a head was looked for. Out of memory needs a byte, and each
-- other fault is by the table.
abbrev pub LookFaults : List ℕ → HttpFault → Type 0
LookFaults buf NoMemory = 0 < length buf
LookFaults buf fault = HasHeadFault buf fault

-- the answer of a look for a head in buf
abbrev pub Looks : List ℕ → Result (Option Head) HttpFault → Type 0
Looks buf (Ok None) = GoesOn buf
Looks buf (Ok (Some f)) = (head : RequestHead) × IsHeadAt buf f head
Looks buf (Err e) = LookFaults buf e

-- The answer of a look for a head with room for so many fields. It is that of `Looks`, with one exception:
-- with less room than the limit, a head may also be too long for the room alone. With room for 16 a head of
-- 20 fields is HeadTooLong, and a head of 3 fields is found.
abbrev pub LooksWithin : ℕ → List ℕ → Result (Option Head) HttpFault → Type 0
LooksWithin room buf (Err HeadTooLong) = room ≡ field_limit → LookFaults buf HeadTooLong
LooksWithin room buf looked = Looks buf looked

-- The meaning of a fault of the search for a head, for the held bytes and the bytes that are left. It is by
-- the table, or out of memory, an end in the middle or the reader's failure.
abbrev pub FindFaults : List ℕ → Option (List ℕ) → HttpFault → Type 0
FindFaults held left NoMemory = IfSome left (λ more. 0 < length (held ++ more))
FindFaults held left Ended = IsPartOfHead held × IsAtEnd left
FindFaults held left IoFault = ⊤
FindFaults held left fault = HasHeadFault held fault

-- the answer of a search for a head over a reader
abbrev pub Finds : List ℕ → Option (List ℕ) → Result (Option Head) HttpFault → Type 0
Finds held left (Ok (Some f)) = (head : RequestHead) × IsHeadAt held f head
Finds held left (Ok None) = (held ≡ []) × IsAtEnd left
Finds held left (Err e) = FindFaults held left e
