-- own: words for requests that are read, and for counts.
use Rattle.std.specs.Prelude.{◌≡◌, ℕ, List, Option, true, false}
use Rattle.hub_http.specs.declared.requests.Requests.{Requests}
use Rattle.hub_http.specs.declared.tally.Tally.{Tally}
use Rattle.hub_http.specs.Stream.{known, to_read}

-- the bytes that no request took yet, where they are known
abbrev pub to_come : {R : Type 0} → (R → Option (List ℕ)) → Requests R → Option (List ℕ)
to_come left q = known q.held (to_read q.block (left q.reader))

-- no fault came that ends the requests
abbrev pub IsOpen : {R : Type 0} → Requests R → Type 0
IsOpen q = q.ended ≡ false

-- a fault came that ends the requests
abbrev pub HasEnded : {R : Type 0} → Requests R → Type 0
HasEnded q = q.ended ≡ true

-- the reader of the requests
abbrev pub reader_of : {R : Type 0} → Requests R → R
reader_of q = q.reader

-- the number of reads that faulted
abbrev pub faults_of : {R : Type 0} → (R → ℕ) → Requests R → ℕ
faults_of count q = count q.reader

-- the number of reads that failed, other than by an interruption
abbrev pub failures_of : {R : Type 0} → (R → ℕ) → Requests R → ℕ
failures_of count q = count q.reader

-- the reader or writer whose calls are counted
abbrev pub inner_of : {T : Type 0} → Tally T → T
inner_of t = t.inner

-- the number of calls that faulted
abbrev pub faults_counted : {T : Type 0} → Tally T → ℕ
faults_counted t = t.faults

-- the number of those calls that were no interruptions
abbrev pub failures_counted : {T : Type 0} → Tally T → ℕ
failures_counted t = t.failures

-- the number of reads
abbrev pub reads_counted : {T : Type 0} → Tally T → ℕ
reads_counted t = t.reads
