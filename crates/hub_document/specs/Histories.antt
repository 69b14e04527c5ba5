-- The revision and the history that a document names by `_rev` and `_revisions` (CouchDB API reference,
-- documents; replication protocol, upload of changed documents). A history may end above the first
-- generation; its limits are own.
use Rattle.std.specs.Prelude.{ℕ, ◌-◌, ◌^◌, List, [], ◌∷◌, codes, Bool, true, ◌&&◌, ◌||◌, ◌==◌, nat_lt}
use Rattle.std.specs.Prelude.{is_some, if◌then◌else◌, Option, Some, None, option_map, option_and_then}
use Rattle.hub_model.specs.Revision.{Revision}
use Rattle.hub_model.specs.Path.{is_first}
use Rattle.hub_document.specs.RevisionText.{with_hash, revision_of}
use Rattle.serde_json.specs.Data.{Data, Items, no_items, item}
use Rattle.serde_json.specs.Find.{get, as_str, as_number, as_array, as_u64}

-- the revision whose text a JSON string is; None of any other value
abbrev pub rev_in : Data → Option Revision
rev_in content = option_and_then revision_of (as_str content)

-- `missing` where the member is absent, else the reading of its value
abbrev pub read_or : {A : Type 0} → Option A → (Data → Option A) → Option Data → Option A
read_or missing read None = missing
read_or missing read (Some content) = read content

-- the revision of `_rev`; None is a fault. Where edits are new, a document without `_rev` names no revision.
-- Where edits are not new, an absent `_rev` is a fault, unless there is a history (`_revisions`).
abbrev pub rev_of : Bool → Data → Option (Option Revision)
rev_of new_edits content =
    read_or (if new_edits || is_some (get (codes "_revisions") content)
    then Some None else None) (λ r. option_map Some (rev_in r)) (get (codes "_rev") content)

-- the revision of generation n whose hash is an item's text; None for generation 0, or where the item is no
-- hash
abbrev pub hashed_at : ℕ → Data → Option Revision
hashed_at n content = if n == 0 then None else option_and_then (with_hash n) (as_str content)

-- The revisions of hashes, with the generations n, n - 1 and so on; there is no generation 0. From 3 on, "c"
-- and "b" are 3-c 2-b. From 1 on the answer is None, since b would be of generation 0.
abbrev pub falling : ℕ → Items → Option (List Revision)
falling n no_items = Some []
falling n (item d ds) =
    if n == 0
    then None
    else option_and_then (λ r. option_map (λ rs. r
    ∷ rs) (falling (n - 1) ds)) (option_and_then (with_hash n) (as_str d))

-- a history of at least one revision, whose first generation is within the limits
abbrev pub limited_history : ℕ → Items → Option (List Revision)
limited_history start no_items = None
limited_history start (item d ds) =
    if nat_lt 0 start && nat_lt start (2 ^ 16) then falling start (item d ds) else None

-- the history of a value of `_revisions`, by its `start` and `ids`. {"start":3,"ids":["c","b"]} is 3-c 2-b.
-- {"start":1,"ids":["c","b"]} is none, and neither is {"start":3,"ids":[]}.
abbrev pub history_in : Data → Option (List Revision)
history_in content =
    option_and_then
    (λ start. option_and_then (limited_history start) (option_and_then as_array (get (codes "ids") content)))
    (option_and_then as_u64 (option_and_then as_number (get (codes "start") content)))

-- whether a history begins with the named revision; true where no revision is named
abbrev pub is_head : Option Revision → List Revision → Bool
is_head None path = true
is_head (Some revision) path = is_first revision path

-- the history, where it begins with the named revision. 3-c 2-b stays where 3-c or no revision is named, and
-- is None where 2-b is named.
abbrev pub if_head : Option Revision → List Revision → Option (List Revision)
if_head rev path = if is_head rev path then Some path else None

-- the history of a revision that comes without one: the revision alone
abbrev pub alone : Option Revision → Option (List Revision)
alone None = None
alone (Some revision) = Some (revision ∷ [])

-- the history of a document that names this revision. Where 3-c is named and `_revisions` is 3-c 2-b, it is
-- 3-c 2-b. Without `_revisions` it is 3-c alone. Where `_revisions` is 4-d 3-c, there is none.
abbrev pub path_of : Option Revision → Data → Option (List Revision)
path_of rev content =
    read_or (alone rev) (λ v. option_and_then (if_head rev) (history_in v)) (get (codes "_revisions") content)
