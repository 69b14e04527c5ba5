-- The parts of a document's text as they are written one after the other (own).
use Rattle.std.specs.Prelude.{ℕ, List, ◌∷◌, ◌++◌, map, flat_map, codes, decimal}
use Rattle.std.specs.List.{join_with_byte}
use Rattle.json.specs.Print.{quoted}
use Rattle.hub_model.specs.Revision.{Revision}
use Rattle.hub_document.specs.DocText.{member_text, inside, if_some}

-- the texts, each with a comma in front
abbrev pub after_commas : List (List ℕ) → List ℕ
after_commas ms = flat_map (λ m. 44 ∷ m) ms

-- the front of a document's text: the brace and `_id`
unfoldable pub head_text : List ℕ → List ℕ
head_text id = codes "{" ++ member_text (codes "_id") (quoted id)

-- the hashes of a history, each in quotes, with commas between them
unfoldable pub ids_text : List Revision → List ℕ
ids_text path = join_with_byte 44 (map (λ r. quoted r.hash) path)

-- the member `_rev` of a local document, with a comma in front
unfoldable pub count_text : ℕ → List ℕ
count_text count = 44 ∷ member_text (codes "_rev") (quoted (codes "0-" ++ decimal count))

-- the rest of a document's text: a comma and its own members, where there are any, and the brace
unfoldable pub rest_text : List ℕ → List ℕ
rest_text body = after_commas (if_some (inside body)) ++ codes "}"
