-- own: the bytes that an inbox was offered, and the bytes that an outbox has to send.
use Rattle.std.specs.Prelude.{◌≡◌, ℕ, ◌<◌, ◌≤◌, Bool, List, [], ◌++◌, length, take, drop, Option}
use Rattle.std.specs.Io.KnownBytes.{Keeps, Appends}
use Rattle.hub_http.specs.declared.inbox.Inbox.{Inbox}
use Rattle.hub_http.specs.declared.outbox.Outbox.{Outbox}
use Rattle.hub_http.specs.declared.outbox.Transfer.{Transfer}
use Rattle.hub_http.specs.declared.outbox.Transfer.TheVariants.{Took, Again, Refused}

-- the bytes that came and that no request took yet
abbrev pub arrived_bytes : Inbox → List ℕ
arrived_bytes inbox = inbox.pending

-- whether no more bytes come
abbrev pub is_over : Inbox → Bool
is_over inbox = inbox.is_over

-- the bytes that wait to be sent, in order
abbrev pub pending_in : Outbox → List ℕ
pending_in outbox = outbox.texts ++ outbox.moved

-- the number of writes that found no memory
abbrev pub faults_in : Outbox → ℕ
faults_in outbox = outbox.faults

-- The new outbox has these bytes to send, and no further fault. Where abcd waited and ab went, cd is left.
pub record HasLeft (bytes : List ℕ) (old new : Outbox) : Type 0 where
  pub pending : pending_in new ≡ bytes
  pub faults : faults_in new ≡ faults_in old

-- the front of the waiting bytes that a writer took
abbrev pub transferred_bytes : Transfer → List ℕ → List ℕ
transferred_bytes (Took n) old = take n old
transferred_bytes Again old = []
transferred_bytes Refused old = []

-- A writer took the first n of the waiting bytes. Its known bytes grew by just these n, and the others still
-- wait. n is 0 only where no byte waited. With another outcome than Took nothing changed. Where abcd waited
-- and the writer took 3, its bytes grew by abc, and d still waits.
abbrev pub Transfers : Transfer → List ℕ → List ℕ → Option (List ℕ) → Option (List ℕ) → Type 0
Transfers (Took n) old new before after =
    (n ≤ length old) × (0 < length old → 0 < n) × (new ≡ drop n old) × Appends before after (take n old)
Transfers Again old new before after = (new ≡ old) × Keeps before after
Transfers Refused old new before after = (new ≡ old) × Keeps before after
