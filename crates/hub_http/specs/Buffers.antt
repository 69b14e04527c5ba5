-- own: the bytes that were written to a writer behind a buffer.
use Rattle.std.specs.Prelude.{ℕ, List, ◌++◌, Option, option_map}
use Rattle.hub_http.specs.declared.buffered.Buffered.{Buffered}
use Rattle.hub_http.specs.declared.tally.Tally.{Tally}
use Rattle.hub_http.specs.Words.{inner_of}

-- the writer itself, whose calls are counted
abbrev pub tally_of : {W : Type 0} → Buffered W → Tally W
tally_of b = b.inner

-- the bytes of the buffer
abbrev pub buffer_of : {W : Type 0} → Buffered W → List ℕ
buffer_of b = b.pending

-- The bytes that the writer has, and then those of the buffer, where the first are known. Where ab went and cd
-- waits they are abcd.
abbrev pub bytes_of : {W : Type 0} → (W → Option (List ℕ)) → Buffered W → Option (List ℕ)
bytes_of contents b = option_map (λ went. went ++ b.pending) (contents (inner_of b.inner))
