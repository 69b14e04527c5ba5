-- RFC 9112, sections 2, 6 and 9.3.2: verdicts on the same bytes that exclude each other.
use Rattle.std.specs.Prelude.{◌≡◌, ◌⊎◌, ℕ, List, []}
use Rattle.httparse.specs.Grammar.{RequestHead, ReadsRequest, HasNoRequest}
use Rattle.hub_http.specs.declared.fault.HttpFault.{HttpFault}
use Rattle.hub_http.specs.declared.fault.HttpFault.TheVariants.{NoMemory, BadHead, HeadTooLong, BodyTooLong}
use Rattle.hub_http.specs.declared.fault.HttpFault.TheVariants.{Version, Coding, Ended, IoFault}
use Rattle.hub_http.specs.Heads.{BeginsFaulty}
use Rattle.hub_http.specs.Stream.{PlainRequest, Spells, Faults}

-- a fault that says nothing of the bytes: no memory was found, or the reader failed
abbrev pub IsOutside : HttpFault → Type 0
IsOutside fault = (fault ≡ NoMemory) ⊎ (fault ≡ IoFault)

-- a fault that a whole head within the limits can have
abbrev pub IsHeadFault : HttpFault → Type 0
IsHeadFault fault = ((fault ≡ BadHead) ⊎ (fault ≡ BodyTooLong)) ⊎ ((fault ≡ Version) ⊎ (fault ≡ Coding))

-- a fault of bytes that do not begin with a whole head
abbrev pub IsOpenFault : HttpFault → Type 0
IsOpenFault fault = (fault ≡ BadHead) ⊎ ((fault ≡ HeadTooLong) ⊎ (fault ≡ Ended))

-- Bytes that spell a request have no fault of their own, whatever follows the request. The line
-- `GET / HTTP/1.1`, an empty line and then `junk` have no fault.
abbrev pub SpelledHasNoFault : Type 0
SpelledHasNoFault =
    (bytes : List ℕ) (asked : PlainRequest) (rest : List ℕ) (fault : HttpFault)
    → Spells bytes asked rest → Faults bytes fault → IsOutside fault

-- the empty text spells no request
abbrev pub NothingSpellsNothing : Type 0
NothingSpellsNothing = (asked : PlainRequest) (rest : List ℕ) → ¬ (Spells [] asked rest)

-- The empty text has no fault but the reader's own, nor is it answered as out of memory. So an end of the
-- input between requests is clean, unless the reader failed.
abbrev pub NothingHasNoFault : Type 0
NothingHasNoFault = (fault : HttpFault) → Faults [] fault → fault ≡ IoFault

-- A head within the limits has at most one fault. A head of HTTP/1.0 with a Transfer-Encoding has Version,
-- not Coding.
abbrev pub HeadHasOneFault : Type 0
HeadHasOneFault =
    (bytes : List ℕ) (fault other : HttpFault) → BeginsFaulty bytes fault → BeginsFaulty bytes other
    → fault ≡ other

-- the fault of a head within the limits is one of four
abbrev pub HeadFaultIsNamed : Type 0
HeadFaultIsNamed = (bytes : List ℕ) (fault : HttpFault) → BeginsFaulty bytes fault → IsHeadFault fault

-- Bytes that begin with a whole head, within the limits or past them, have at most one fault of their own. A
-- bad field, a head too long and a body that is cut exclude each other there.
abbrev pub WholeHeadHasOneFault : Type 0
WholeHeadHasOneFault =
    (bytes : List ℕ) (head : RequestHead) (rest : List ℕ) (fault other : HttpFault)
    → ReadsRequest bytes head rest
    → Faults bytes fault → Faults bytes other → IsOutside fault ⊎ (IsOutside other ⊎ (fault ≡ other))

-- Bytes without a whole head have no fault of their own but a bad head, a head too long and an end in the
-- middle. These faults do not exclude each other. `GET` and a target that is not UTF-8 so far are no head,
-- whatever follows, and end in the middle. A head of 65 fields and then the end is too long, and ends in the
-- middle.
abbrev pub OtherFaultsAreOpen : Type 0
OtherFaultsAreOpen =
    (bytes : List ℕ) (fault : HttpFault) → HasNoRequest bytes → Faults bytes fault → IsOutside fault
    ⊎ IsOpenFault fault
