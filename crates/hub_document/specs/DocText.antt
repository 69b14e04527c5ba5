-- The JSON text of a document (CouchDB API reference, documents; the order of its members is own).
use Rattle.std.specs.Prelude.{ℕ, ◌-◌, ◌≡◌, List, [], ◌∷◌, ◌++◌, length, drop, take, map, slice_get, Bool}
use Rattle.std.specs.Prelude.{true, false, Option, Some, None, option_map, codes, decimal}
use Rattle.std.specs.List.{join_with_byte}
use Rattle.json.specs.Print.{quoted}
use Rattle.hub_model.specs.Revision.{Revision, text_of}
use Rattle.hub_model.specs.Draft.{generation_of, parent_of}
use Rattle.hub_model.specs.Row.{ChangeRow}
use Rattle.hub_document.specs.declared.doc.Doc.{Doc}

-- a member: its name in quotes, a colon, and the text of its value
unfoldable pub member_text : List ℕ → List ℕ → List ℕ
member_text name value = quoted name ++ 58 ∷ value

-- `_rev`, where a revision is named
abbrev pub rev_member : Option Revision → List (List ℕ)
rev_member None = []
rev_member (Some revision) = member_text (codes "_rev") (quoted (text_of revision)) ∷ []

-- `_deleted`, where the document is deleted
abbrev pub deleted_member : Bool → List (List ℕ)
deleted_member false = []
deleted_member true = member_text (codes "_deleted") (codes "true") ∷ []

-- a history: the generation of its first revision, and the hashes
unfoldable pub history_text : List Revision → List ℕ
history_text path =
    codes "{\"start\":"
    ++ (decimal (generation_of (parent_of path))
    ++ (codes ",\"ids\":[" ++ (join_with_byte 44 (map (λ r. quoted r.hash) path) ++ codes "]}")))

-- `_revisions`, where there is a history
abbrev pub history_member : Option (List Revision) → List (List ℕ)
history_member None = []
history_member (Some path) = member_text (codes "_revisions") (history_text path) ∷ []

-- the text between the braces of an object
abbrev pub inside : List ℕ → List ℕ
inside body = drop 1 (take (length body - 1) body)

-- a list of the text, or the empty list where the text is empty
abbrev pub if_some : List ℕ → List (List ℕ)
if_some [] = []
if_some (b ∷ bs) = (b ∷ bs) ∷ []

-- the members of a document in their order: id, revision, mark, history, and the document's own members
abbrev pub members_of : Doc → List (List ℕ)
members_of doc =
    member_text (codes "_id") (quoted doc.id)
    ∷ (rev_member doc.rev ++ (deleted_member doc.deleted
    ++ (history_member doc.path ++ if_some (inside doc.body))))

-- the text of a document
unfoldable pub doc_text : Doc → List ℕ
doc_text doc = codes "{" ++ (join_with_byte 44 (members_of doc) ++ codes "}")

-- the document that a row shows, with these members of its own: the row's first revision is the winner
abbrev pub row_doc : ChangeRow → List ℕ → Doc
row_doc row body =
    record { id = row.id; rev = slice_get row.changes 0; path = None; deleted = row.deleted; body = body }

-- Whether this is the JSON string of the first revision that a row lists. For a row with 2-b the string is
-- `"2-b"`, quotes and all.
abbrev pub IsFirstText : ChangeRow → List ℕ → Type 0
IsFirstText row text = option_map (λ r. quoted (text_of r)) (slice_get row.changes 0) ≡ Some text

-- the text of a local document that was written this many times
unfoldable pub local_text : List ℕ → ℕ → List ℕ → List ℕ
local_text id count body =
    codes "{"
    ++ (join_with_byte 44 (member_text (codes "_id") (quoted id)
    ∷ member_text (codes "_rev") (quoted (codes "0-" ++ decimal count)) ∷ if_some (inside body)) ++ codes "}")
