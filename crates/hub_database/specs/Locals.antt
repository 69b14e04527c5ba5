-- Local documents (CouchDB API reference, local documents; own are their counts, and that the last write
-- wins).
use Rattle.std.specs.Prelude.{ℕ, ◌+◌, List, [], ◌∷◌, find, Option, Some, None}
use Rattle.std.specs.Ordering.{nat_cmp}
use Rattle.std.specs.Cmp.Lexicographic.{slice_cmp}
use Rattle.std.specs.Str.{bytes_eq}
use Rattle.std.specs.declared.cmp.Ordering.{Ordering}
use Rattle.std.specs.declared.cmp.Ordering.TheVariants.{Less, Equal, Greater}
use Rattle.hub_document.specs.declared.local_doc.LocalDoc.{LocalDoc}
use Rattle.hub_database.specs.Database.{Local}

-- the local document of this id, if there is one
abbrev pub local_of : List Local → List ℕ → Option Local
local_of locals id = find (λ l. bytes_eq l.id id) locals

-- the count of a local document after one more write
abbrev pub next_count : Option Local → ℕ
next_count None = 1
next_count (Some local) = local.count + 1

-- a local document put before another, into its place, or after it: rest is the tail with it put in
abbrev pub put_at : Ordering → Local → Local → List Local → List Local → List Local
put_at Less other local locals rest = other ∷ local ∷ locals
put_at Equal other local locals rest = other ∷ locals
put_at Greater other local locals rest = local ∷ rest

-- the local documents with this one, in the place of the one with its id if there is one
abbrev pub put_local : Local → List Local → List Local
put_local other [] = other ∷ []
put_local other (local ∷ locals) =
    put_at (slice_cmp nat_cmp other.id local.id) other local locals (put_local other locals)

-- a document as the database keeps it once it is written
abbrev pub local_after_write : List Local → LocalDoc → Local
local_after_write locals doc = record { id = doc.id; count = next_count (local_of locals doc.id); body = doc.body }
