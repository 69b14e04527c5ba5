-- The names of a hub's databases (own).
use Rattle.std.specs.Prelude.{◌≡◌, ◌≤◌, ◌+◌, ℕ, List, All, String, length, map, string_bytes, true}
use Rattle.std.specs.BTreeSet.{insert_key}
use Rattle.std.specs.Cmp.Lexicographic.{slice_cmp}
use Rattle.std.specs.List.Sorted.{IsStrictlySortedBy}
use Rattle.std.specs.Map.{keys_of}
use Rattle.std.specs.Ordering.{nat_cmp}
use Rattle.std.specs.Set.{remove_key}
use Rattle.std.specs.Str.{bytes_eq}
use Rattle.hub_databases.specs.Names.{is_name}

-- the most databases that the limits of a hub may allow
abbrev pub most_databases : ℕ
most_databases = 256

-- Names of databases, each once, in the order of their bytes, and no more than the limit. With a limit of 2
-- these are a and ab, but not ab and a, nor a, ab and b.
pub record AreNames (limit : ℕ) (names : List (List ℕ)) : Type 0 where
  pub valid : All (λ name. is_name name ≡ true) names
  pub once : IsStrictlySortedBy (slice_cmp nat_cmp) names
  pub within : length names ≤ limit

-- the names of a hub's databases, as contracts see them
pub record NamesState : Type 0 where
  pub names : List (List ℕ)  -- in the order of their bytes
  pub limit : ℕ  -- the most databases that there may be
  pub made : ℕ  -- the number of databases made so far, removed ones included: the life of the latest

-- the state with one name more, at its place in the order: a and c with b are a, b and c
abbrev pub with_name : List ℕ → NamesState → NamesState
with_name name state = record state { names = insert_key (slice_cmp nat_cmp) state.names name }

-- the state with a database that was made under this name, and counted
abbrev pub with_made : List ℕ → NamesState → NamesState
with_made name state = record (with_name name state) { made = state.made + 1 }

-- the state without this name
abbrev pub without_name : List ℕ → NamesState → NamesState
without_name name state = record state { names = remove_key (bytes_eq name) state.names }

-- the names of a map's entries: its keys
abbrev pub names_of : {Y V : Type 0} → List (String Y × V) → List (List ℕ)
names_of entries = map string_bytes (keys_of entries)

-- The invariant of a map's entries: the keys are such names, and each database has the name that is its key.
pub record AreKept {Y : Type 0} (limit : ℕ) (entries : List (String Y × List ℕ)) : Type 0 where
  pub names : AreNames limit (names_of entries)
  pub few : limit ≤ most_databases
  pub own : All (λ e. e.1 ≡ string_bytes e.0) entries
