-- The chunks of a text, and the contract of a call that writes them (RFC 9112, section 7.1).
use Rattle.std.specs.Prelude.{ℕ, List, [], ◌∷◌, Result, Ok, Err, IsErrOf, Option}
use Rattle.std.specs.Io.KnownBytes.{Keeps, Appends}
use Rattle.hub_http.specs.Counts.{AppendsFront, CallCounts}
use Rattle.hub_http.specs.Texts.{chunk_text}
use Rattle.hub_http.specs.declared.chunk.ChunkFault.{ChunkFault}
use Rattle.hub_http.specs.declared.chunk.ChunkFault.TheVariants.{NoMemory, IoFault}

-- One chunk for a text that is not empty, and nothing for the empty text. For abc it is `3`, CR LF, `abc`, CR
-- LF.
abbrev pub text_chunks : List ℕ → List ℕ
text_chunks [] = []
text_chunks (b ∷ bs) = chunk_text (b ∷ bs)

-- The bytes were written, or after a fault a front of them. Of abc, no byte was written out of memory. After
-- IoFault it may be no byte, a, ab or abc.
abbrev pub Writes : List ℕ → Result (Unit {0}) ChunkFault → Option (List ℕ) → Option (List ℕ) → Type 0
Writes bytes (Ok u) old new = Appends old new bytes
Writes bytes (Err NoMemory) old new = Keeps old new
Writes bytes (Err IoFault) old new = AppendsFront old new bytes

-- The contract of a call that writes these bytes to a writer. The writer's known bytes grew by them, or after
-- a fault by a front of them. The writer's counts tell of an IoFault.
pub record WritesTo {W : Type 0} (written_of : W → Option (List ℕ)) (faults_of failures_of : W → ℕ)
    (result : Result (Unit {0}) ChunkFault) (old new : W) (bytes : List ℕ) : Type 0 where
  pub bytes_written : Writes bytes result (written_of old) (written_of new)
  pub counts : CallCounts (IsErrOf result IoFault) faults_of failures_of old new
