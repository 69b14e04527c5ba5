-- The parts of a target, and the kind and the id of a path (RFC 3986, sections 2.1 and 3; CouchDB API
-- reference, documents, design and local documents).
use Rattle.std.specs.Prelude.{◌≡◌, ◌≢◌, ◌⊎◌, All, ℕ, Bool, ◌&&◌, ◌==◌, List, length, drop, codes, nat_lt}
use Rattle.std.specs.Prelude.{Option, Some, option_map, if◌then◌else◌}
use Rattle.std.specs.List.{before_first, after_first, starts_with}
use Rattle.percent_encoding.specs.Percent.{IsKept, percent_sign, percent_encode, percent_decode}
use Rattle.hub_routes.specs.Table.{kind_at}
use Rattle.hub_routes.specs.declared.kind.Kind.{Kind}
use Rattle.hub_routes.specs.declared.kind.Kind.TheVariants.{Document, Local}

-- the bytes of a target before the first `?`
abbrev pub path_of : List ℕ → List ℕ
path_of target = before_first (λ b. b == 63) target

-- the bytes of a target behind the first `?`, empty where there is none
abbrev pub query_of : List ℕ → List ℕ
query_of target = after_first (λ b. b == 63) target

-- the path with each byte outside ASCII escaped
unfoldable pub ascii_path : List ℕ → List ℕ
ascii_path path = percent_encode (record { mask = 0 }) path

-- the first part of the path
abbrev pub name_part : List ℕ → List ℕ
name_part path = before_first (λ b. b == 47) (drop 1 path)

-- the rest of the path, behind the first part and its slash
abbrev pub id_part : List ℕ → List ℕ
id_part path = after_first (λ b. b == 47) (drop 1 path)

-- the name of the database: its escapes are read
abbrev pub name_of : List ℕ → List ℕ
name_of path = percent_decode (name_part path)

-- the id of the document, with `_design/` or `_local/` where the id has that: its escapes are read
abbrev pub id_of : List ℕ → List ℕ
id_of path = percent_decode (id_part path)

-- the id of a local document: `_local/` and 1 byte or more
abbrev pub is_local : List ℕ → Bool
is_local id = starts_with (λ x y. x == y) id (codes "_local/") && nat_lt 7 (length id)

-- a document is a local one where its id is that of a local document
abbrev pub kind_by_id : Kind → List ℕ → Kind
kind_by_id Document id = if is_local id then Local else Document
kind_by_id kind id = kind

-- a byte of the path lies outside ASCII: the table reads that byte escaped, and the escape takes memory
abbrev pub HasOtherBytes : List ℕ → Type 0
HasOtherBytes path = ¬ All (IsKept (record { mask = 0 })) path

-- the part has a `%`: the decoded part takes memory
abbrev pub HasPercent : List ℕ → Type 0
HasPercent part = ¬ All (λ b. b ≢ percent_sign) part

-- The search for the kind of a path takes memory. Either the path has a byte outside ASCII, or the table says
-- that it is a document's and its id has an escape. `/a/_changes` takes none, nor does `/a/b`; `/a/%62` does.
abbrev pub NeedsRoomForKind : List ℕ → Type 0
NeedsRoomForKind path =
    HasOtherBytes path ⊎ ((kind_at (ascii_path path) ≡ Some Document) × HasPercent (id_part path))

-- the kind of a path: the kind by the table, or Local where a document's id says so
abbrev pub kind_of : List ℕ → Option Kind
kind_of path = option_map (λ kind. kind_by_id kind (id_of path)) (kind_at (ascii_path path))
