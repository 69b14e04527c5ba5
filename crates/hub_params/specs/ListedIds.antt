-- The ids that a feed with filter=_doc_ids shows (CouchDB API reference, _changes with doc_ids). None is a
-- fault.
use Rattle.std.specs.Prelude.{ℕ, List, [], ◌∷◌, codes, length, ◌==◌, if◌then◌else◌, Option, Some, None}
use Rattle.std.specs.Prelude.{option_map, option_and_then}
use Rattle.serde_json.specs.Data.{Data, Items, no_items, item}
use Rattle.serde_json.specs.Find.{get, as_str, as_array, as_object}
use Rattle.hub_document.specs.Read.{json_of}

-- the texts of items that are JSON strings
abbrev pub texts_of : Items → Option (List (List ℕ))
texts_of no_items = Some []
texts_of (item d ds) = option_and_then (λ text. option_map (λ texts. text ∷ texts) (texts_of ds)) (as_str d)

-- the texts of a JSON array of strings
abbrev pub texts_in : Data → Option (List (List ℕ))
texts_in content = option_and_then texts_of (as_array content)

-- the ids of the query's doc_ids
abbrev pub ids_in_query : Option (List ℕ) → Option (List (List ℕ))
ids_in_query value = option_and_then texts_in (option_and_then json_of value)

-- the ids of the body's doc_ids, or of the query where the body has none
abbrev pub ids_in_member : Option (List ℕ) → Option Data → Option (List (List ℕ))
ids_in_member value None = ids_in_query value
ids_in_member value (Some content) = texts_in content

-- the ids of a body that is not empty: the body is an object
abbrev pub ids_in_body : Option (List ℕ) → List ℕ → Option (List (List ℕ))
ids_in_body value body =
    option_and_then
    (λ d. option_and_then (λ members. ids_in_member value (get (codes "doc_ids") d)) (as_object d))
    (json_of body)

-- the ids that the query's value and the body list
abbrev pub ids_in : Option (List ℕ) → List ℕ → Option (List (List ℕ))
ids_in value body = if length body == 0 then ids_in_query value else ids_in_body value body
