-- own: the contracts of the steps that read requests from a reader.
use Rattle.std.specs.Prelude.{◌≡◌, ◌++◌, ◌<◌, ◌≤◌, ◌⊎◌, ℕ, List, Bool, Option, Result, length}
use Rattle.std.specs.Prelude.{IfOk, IfErr, IfSome, IsTrue, IsFalse, IsErrOf}
use Rattle.std.specs.Io.KnownBytes.{Keeps, IsAtEnd}
use Rattle.hub_http.specs.declared.fault.HttpFault.{HttpFault}
use Rattle.hub_http.specs.declared.fault.HttpFault.TheVariants.{NoMemory, IoFault}
use Rattle.hub_http.specs.declared.head.Head.{Head}
use Rattle.hub_http.specs.declared.request.Request.{Request}
use Rattle.hub_http.specs.declared.requests.Requests.{Requests}
use Rattle.hub_http.specs.Counts.{CallCounts}
use Rattle.hub_http.specs.Looking.{Finds}
use Rattle.hub_http.specs.Stream.{Leaves, to_read}
use Rattle.hub_http.specs.Words.{to_come}

-- A request was read, or there is none, or a fault came. The reader's counts tell of an IoFault. The step
-- does not note that a fault ended the requests.
pub record RequestReading {R : Type 0} (left : R → Option (List ℕ)) (faults failures : R → ℕ)
    (result : Result (Option Request) HttpFault) (old new : Requests R) : Type 0 where
  pub told : IfSome (to_come left old) (λ bytes. Leaves bytes result (to_come left new))
  pub ended : new.ended ≡ old.ended
  pub counts : CallCounts (IsErrOf result IoFault) faults failures old.reader new.reader

-- A head was found at the front of the held bytes, or there is none, or a fault came. No byte is lost.
pub record HeadReading {R : Type 0} (left : R → Option (List ℕ)) (faults failures : R → ℕ)
    (result : Result (Option Head) HttpFault) (old new : Requests R) : Type 0 where
  pub kept : Keeps (to_come left old) (to_come left new)
  pub found : Finds new.held (to_read new.block (left new.reader)) result
  pub ended : new.ended ≡ old.ended
  pub counts : CallCounts (IsErrOf result IoFault) faults failures old.reader new.reader

-- Bytes that were left came behind the held ones, and no byte is lost. The answer is whether `wanted` bytes
-- are held. If not, no byte is left. Where 5 are wanted, ab is held and cdef is left, abcde may be held and f
-- be left, and the answer is true. Where cd is left, abcd is held and the answer is false.
pub record Filling {R : Type 0} (left : R → Option (List ℕ)) (faults failures : R → ℕ) (wanted : ℕ)
    (result : Result Bool HttpFault) (old new : Requests R) : Type 0 where
  pub kept : Keeps (to_come left old) (to_come left new)
  pub grown : (more : List ℕ) × (new.held ≡ old.held ++ more)
  pub full : IfOk result (λ full. IsTrue full → wanted ≤ length new.held)
  pub cut : IfOk result (λ full. IsFalse full
      → (length new.held < wanted) × IsAtEnd (to_read new.block (left new.reader)))
  pub err : IfErr result (λ e. (e ≡ NoMemory) ⊎ (e ≡ IoFault))
  pub ended : new.ended ≡ old.ended
  pub counts : CallCounts (IsErrOf result IoFault) faults failures old.reader new.reader
