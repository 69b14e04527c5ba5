-- The routes of requests (CouchDB API reference, the paths of the server, databases and documents; own for
-- the order of refusals).
use Rattle.std.specs.Prelude.{◌≡◌, ◌⊎◌, ℕ, true, false, List, [], Some, None, Result, Ok, Err, IsSome}
use Rattle.std.specs.Prelude.{if◌then◌else◌}
use Rattle.std.specs.Cow.{cow_str_bytes}
use Rattle.std.specs.Str.{IsUtf8}
use Rattle.hub_http.specs.Stream.{PlainRequest}
use Rattle.hub_http.specs.declared.refusal.Refusal.{Refusal}
use Rattle.hub_http.specs.declared.refusal.Refusal.TheVariants.{NoMemory, Missing, MethodNotAllowed, BadName}
use Rattle.hub_http.specs.declared.refusal.Refusal.TheVariants.{BadId, LengthMissing}
use Rattle.hub_routes.specs.Paths.{path_of, query_of, name_part, id_part, name_of, id_of, kind_of, HasPercent}
use Rattle.hub_routes.specs.Paths.{NeedsRoomForKind}
use Rattle.hub_routes.specs.Methods.{method_of, asked_of, has_document, takes_id, takes_body}
use Rattle.hub_routes.specs.declared.kind.Kind.{Kind}
use Rattle.hub_routes.specs.declared.route.Route.{Route}

-- the name of the database that a request asks for
abbrev pub database_of : PlainRequest → List ℕ
database_of asked = name_of (path_of asked.target)

-- the id of the document that a request asks for
abbrev pub document_of : PlainRequest → List ℕ
document_of asked = id_of (path_of asked.target)

-- the path of a request is of this kind, and the kind takes the request's method
pub record IsServed (asked : PlainRequest) (kind : Kind) : Type 0 where
  pub path : kind_of (path_of asked.target) ≡ Some kind
  pub method : IsSome (asked_of kind (method_of asked.method))

-- where a path of this kind names one document, the id is a text, and such a document may have it
abbrev pub IsGoodId : Kind → List ℕ → Type 0
IsGoodId kind id = (has_document kind ≡ true) → IsUtf8 id × (takes_id kind id ≡ true)

-- a path of this kind names one document, and the id is no text, or no such document may have it
abbrev pub IsBadId : Kind → List ℕ → Type 0
IsBadId kind id = (has_document kind ≡ true) × ((¬ IsUtf8 id) ⊎ (takes_id kind id ≡ false))

-- The steps that may run out of memory: the search for the kind of the path, and the decoding of the name or
-- of one document's id. A text without escapes is lent, and so is a query.
pub data NeedsRoom (asked : PlainRequest) : Type 0 where
  kind : NeedsRoomForKind (path_of asked.target) → NeedsRoom asked
  name : (k : Kind) → IsServed asked k → HasPercent (name_part (path_of asked.target)) → NeedsRoom asked
  document : (k : Kind) → IsServed asked k → has_document k ≡ true → IsUtf8 (database_of asked)
      → HasPercent (id_part (path_of asked.target)) → NeedsRoom asked

-- the route of a request: the call by the table and the method, with the parts of the request
pub record IsRoute (a : PlainRequest) (route : Route) : Type 0 where
  pub kind : Kind
  pub path : kind_of (path_of a.target) ≡ Some kind
  pub asked : asked_of kind (method_of a.method) ≡ Some route.call
  pub length : (takes_body kind ≡ true) → (a.has_length ≡ true)
  pub name : cow_str_bytes route.db ≡ database_of a
  pub id : cow_str_bytes route.id ≡ (if has_document kind then document_of a else [])
  pub good : IsGoodId kind (document_of a)
  pub query : route.query.now ≡ query_of a.target

-- the route of a request, or its refusal, which is one of six
abbrev pub GoesTo : PlainRequest → Result Route Refusal → Type 0
GoesTo asked (Ok route) = IsRoute asked route
GoesTo asked (Err NoMemory) = NeedsRoom asked
GoesTo asked (Err Missing) = kind_of (path_of asked.target) ≡ None
GoesTo asked (Err MethodNotAllowed) =
    (kind : Kind) × (kind_of (path_of asked.target) ≡ Some kind)
    × (asked_of kind (method_of asked.method) ≡ None)
GoesTo asked (Err BadName) = (kind : Kind) × IsServed asked kind × ¬ IsUtf8 (database_of asked)
GoesTo asked (Err BadId) =
    (kind : Kind) × IsServed asked kind × IsUtf8 (database_of asked) × IsBadId kind (document_of asked)
GoesTo asked (Err LengthMissing) =
    (kind : Kind) × IsServed asked kind × IsUtf8 (database_of asked) × (takes_body kind ≡ true)
    × (asked.has_length ≡ false)
GoesTo asked (Err other) = ⊥
