-- RFC 9112, sections 2, 6 and 9.3.2; own for a request that is not whole yet: the requests of the bytes that
-- came so far, where more may come.
use Rattle.std.specs.Prelude.{◌≡◌, ℕ, ◌⊎◌, Bool, true, false, List, [], ◌∷◌, Result, Ok, Err}
use Rattle.hub_http.specs.declared.fault.HttpFault.{HttpFault}
use Rattle.hub_http.specs.declared.fault.HttpFault.TheVariants.{Ended, IoFault}
use Rattle.hub_http.specs.declared.next.Next.{Next}
use Rattle.hub_http.specs.declared.next.Next.TheVariants.{Whole, NotYet, End}
use Rattle.hub_http.specs.Heads.{IsPartOfHead}
use Rattle.hub_http.specs.Stream.{PlainRequest, asked_by, Spells, IsCut, Faults}

-- The bytes are empty, or end in the middle of a head or of a body. A front of a request is short, up to any
-- of its bytes but the last one. `GET / HT` is short, and so is a whole head that asks for 3 bytes, with ab
-- behind it.
abbrev pub IsShort : List ℕ → Type 0
IsShort bytes = (bytes ≡ []) ⊎ (IsPartOfHead bytes ⊎ IsCut bytes)

-- The bytes that came so far may be refused with this fault. An end in the middle is a fault only where the
-- input is over. The other faults do not depend on more bytes. The bytes lie in memory, and are never refused
-- as unreadable.
abbrev pub FaultsSoFar : Bool → List ℕ → HttpFault → Type 0
FaultsSoFar over bytes Ended = (over ≡ true) × Faults bytes Ended
FaultsSoFar over bytes IoFault = ⊥
FaultsSoFar over bytes fault = Faults bytes fault

-- The bytes that are left after a look for the next request in the bytes that came so far. `over` says
-- whether the input is over. `GET / HT` is left whole, and the answer is NotYet, or Ended where the input is
-- over. Of a GET and then the first bytes of a second one, those of the second are left. A fault leaves all
-- bytes.
abbrev pub LeavesSoFar : Bool → List ℕ → Result Next HttpFault → List ℕ → Type 0
LeavesSoFar over bytes (Ok (Whole q)) rest = Spells bytes (asked_by q) rest
LeavesSoFar over bytes (Ok NotYet) rest = (over ≡ false) × (rest ≡ bytes) × IsShort bytes
LeavesSoFar over bytes (Ok End) rest = (over ≡ true) × (bytes ≡ []) × (rest ≡ [])
LeavesSoFar over bytes (Err e) rest = (rest ≡ bytes) × FaultsSoFar over bytes e

-- the bytes are these requests, one after the other, and then rest
abbrev pub SpellsAll : List ℕ → List PlainRequest → List ℕ → Type 0
SpellsAll bytes [] rest = bytes ≡ rest
SpellsAll bytes (asked ∷ more) rest = (mid : List ℕ) × Spells bytes asked mid × SpellsAll mid more rest
