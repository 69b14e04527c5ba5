-- The ids of documents (CouchDB API reference, documents and design documents; the limits are own).
use Rattle.std.specs.Prelude.{◌≡◌, ◌≤◌, ℕ, List, [], ◌∷◌, length, codes, Bool, true, false, ◌&&◌, not, ◌==◌}
use Rattle.std.specs.Prelude.{nat_lt, if◌then◌else◌, Option, Some, None, option_and_then}
use Rattle.std.specs.List.{starts_with}
use Rattle.serde_json.specs.Data.{Data}
use Rattle.serde_json.specs.Find.{get, as_str}

-- an id has 1 byte or more. A `_` in front is followed by `design/` and a name, since `_local` documents have
-- calls of their own. a, a_b and _design/x are ids; the empty text, _a, _design/ and _local/x are none.
abbrev pub is_id : List ℕ → Bool
is_id [] = false
is_id (b ∷ rest) =
    if b == 95 then (starts_with (λ x y. x == y) rest (codes "design/") && nat_lt 7 (length rest)) else true

-- an id of 512 bytes at most
pub record IsDocId (s : List ℕ) : Type 0 where
  pub id : is_id s ≡ true
  pub short : length s ≤ 512

-- the text, where it is an id
abbrev pub if_id : List ℕ → Option (List ℕ)
if_id s = if is_id s then Some s else None

-- the text of `_id`, where it is an id of any length
abbrev pub id_of : Data → Option (List ℕ)
id_of content = option_and_then if_id (option_and_then as_str (get (codes "_id") content))

-- the text, where it is an id of 512 bytes at most
abbrev pub short_id : List ℕ → Option (List ℕ)
short_id s = if is_id s && not (nat_lt 512 (length s)) then Some s else None
