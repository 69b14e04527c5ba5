-- The texts of rows of changes, and the end of a feed of such rows (CouchDB API reference, _changes).
use Rattle.std.specs.Prelude.{ℕ, List, [], ◌++◌, Bool, true, false, Option, Some, None, map, codes, decimal}
use Rattle.std.specs.List.{join_with_byte}
use Rattle.json.specs.Print.{quoted}
use Rattle.hub_model.specs.Revision.{Revision, text_of}
use Rattle.hub_model.specs.Row.{ChangeRow}
use Rattle.hub_document.specs.DocText.{doc_text, row_doc}
use Rattle.hub_document.specs.SequenceText.{sequence_text}

-- a revision that a row lists
unfoldable pub revision_text : Revision → List ℕ
revision_text revision = codes "{\"rev\":" ++ (quoted (text_of revision) ++ codes "}")

-- the revisions that a row lists, with commas (44) between them
unfoldable pub revisions_text : List Revision → List ℕ
revisions_text revisions = join_with_byte 44 (map revision_text revisions)

-- the member that marks a deleted document, behind the bracket that closes the revisions
unfoldable pub row_mark : Bool → List ℕ
row_mark false = codes "]"
row_mark true = codes "],\"deleted\":true"

-- the member `doc`, where the row brings the document's members
unfoldable pub doc_member : ChangeRow → Option (List ℕ) → List ℕ
doc_member row None = []
doc_member row (Some body) = codes ",\"doc\":" ++ doc_text (row_doc row body)

-- the end of a row
unfoldable pub row_end : ChangeRow → List ℕ
row_end row = row_mark row.deleted ++ (doc_member row row.doc ++ codes "}")

-- the member of the id, and the name of the next member with the bracket that opens the revisions
unfoldable pub id_member : List ℕ → List ℕ
id_member id = codes ",\"id\":" ++ (quoted id ++ codes ",\"changes\":[")

-- the members at the head of a row
unfoldable pub row_head : (life seq : ℕ) → List ℕ → List ℕ
row_head life seq id = codes "{\"seq\":" ++ (sequence_text seq life ++ id_member id)

-- The front of a row whose id needs no escape, up to the end of the id. In life 1 the front of the row of a
-- at 3 is `{"seq":"3-1","id":"a`.
unfoldable pub plain_front : (life seq : ℕ) → List ℕ → List ℕ
plain_front life seq id =
    codes "{\"seq\":\"" ++ (decimal seq ++ (codes "-" ++ (decimal life ++ (codes "\",\"id\":\"" ++ id))))

-- A row as a JSON object. Its sequence is written with the number of the feed's life. In life 1 the row of a
-- at 3 with 2-b is `{"seq":"3-1","id":"a","changes":[{"rev":"2-b"}]}`. A deleted row without a document ends
-- with `],"deleted":true}`.
unfoldable pub change_row_text : (life : ℕ) → ChangeRow → List ℕ
change_row_text life row = row_head life row.seq row.id ++ (revisions_text row.changes ++ row_end row)

-- the members that end a feed, and the brace that closes it. In life 1 an End at 3 with 2 pending is
-- `"last_seq":"3-1","pending":2}` and a line feed.
unfoldable pub change_end_text : (life last_seq pending : ℕ) → List ℕ
change_end_text life last_seq pending =
    codes "\"last_seq\":"
    ++ (sequence_text last_seq life ++ (codes ",\"pending\":" ++ (decimal pending ++ codes "}\n")))
