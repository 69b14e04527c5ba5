-- The JSON bodies of the hub's replies (CouchDB API reference; own for the order of the members).
use Rattle.std.specs.Prelude.{ℕ, List, [], ◌∷◌, ◌++◌, map, codes, decimal}
use Rattle.std.specs.List.{join_with_byte}
use Rattle.json.specs.Print.{quoted}
use Rattle.hub_model.specs.Revision.{Revision, text_of}
use Rattle.hub_model.specs.Missing.{Diff}
use Rattle.hub_document.specs.declared.doc.Doc.{Doc}
use Rattle.hub_document.specs.DocText.{doc_text, local_text}
use Rattle.hub_document.specs.SequenceText.{sequence_text}
use Rattle.hub_database.specs.declared.answers.Info.{Info}
use Rattle.hub_database.specs.declared.answers.OpenRev.{OpenRev}
use Rattle.hub_database.specs.declared.answers.OpenRev.TheVariants.{Found, Missing}

-- the hub's welcome, with its version
abbrev pub welcome_body : List ℕ
welcome_body = codes "{\"couchdb\":\"Welcome\",\"version\":\"3.0.0\"}\n"

-- the request is done
abbrev pub ok_body : List ℕ
ok_body = codes "{\"ok\":true}\n"

-- earlier writes are kept
abbrev pub commit_body : List ℕ
commit_body = codes "{\"instance_start_time\":\"0\",\"ok\":true}\n"

-- the name of a database, its counts and its latest sequence
unfoldable pub info_body : List ℕ → Info → List ℕ
info_body name info =
    codes "{\"db_name\":"
    ++ (quoted name
    ++ (codes ",\"doc_count\":"
    ++ (decimal info.doc_count
    ++ (codes ",\"doc_del_count\":"
    ++ (decimal info.doc_del_count
    ++ (codes ",\"update_seq\":"
    ++ (sequence_text info.update_seq info.life ++ codes ",\"instance_start_time\":\"0\"}\n")))))))

-- an edit that is stored: the JSON text of its document's id, and the text of its revision
unfoldable pub edit_text : List ℕ → List ℕ → List ℕ
edit_text id rev = codes "{\"ok\":true,\"id\":" ++ (id ++ (codes ",\"rev\":" ++ (quoted rev ++ codes "}")))

-- the front of the reply to an edit of the document of this id, before its revision
unfoldable pub edit_front : List ℕ → List ℕ
edit_front id = codes "{\"ok\":true,\"id\":" ++ (quoted id ++ codes ",\"rev\":")

-- the reply to an edit of the document of this id
unfoldable pub edit_body : List ℕ → Revision → List ℕ
edit_body id rev = edit_text (quoted id) (text_of rev) ++ codes "\n"

-- the reply to an edit of a local document, which was written this many times
unfoldable pub local_edit_body : List ℕ → ℕ → List ℕ
local_edit_body id count = edit_text (quoted id) (codes "0-" ++ decimal count) ++ codes "\n"

-- a document and a line feed
unfoldable pub doc_body : Doc → List ℕ
doc_body doc = doc_text doc ++ codes "\n"

-- a local document and a line feed: its id, the number of its writes, and its members
unfoldable pub local_doc_body : List ℕ → ℕ → List ℕ → List ℕ
local_doc_body id count body = local_text id count body ++ codes "\n"

-- the list of these texts, with commas (44) between them
unfoldable pub list_text : List (List ℕ) → List ℕ
list_text texts = codes "[" ++ (join_with_byte 44 texts ++ codes "]")

-- the list of the names of databases, in this order
unfoldable pub names_body : List (List ℕ) → List ℕ
names_body names = list_text (map quoted names) ++ codes "\n"

-- the object of a revision that was asked for
unfoldable pub open_rev_text : OpenRev → List ℕ
open_rev_text (Found doc) = codes "{\"ok\":" ++ (doc_text doc ++ codes "}")
open_rev_text (Missing rev) = codes "{\"missing\":" ++ (quoted (text_of rev) ++ codes "}")

-- the revisions that were asked for
unfoldable pub open_revs_body : List OpenRev → List ℕ
open_revs_body revs = list_text (map open_rev_text revs) ++ codes "\n"

-- the JSON list of some revisions
unfoldable pub revisions_text : List Revision → List ℕ
revisions_text revs = list_text (map (λ r. quoted (text_of r)) revs)

-- the member of the leaves that may be ancestors of a missing revision, where there are any
unfoldable pub ancestors_text : List Revision → List ℕ
ancestors_text [] = []
ancestors_text (revision ∷ revs) = codes ",\"possible_ancestors\":" ++ revisions_text (revision ∷ revs)

-- the member of a document that misses revisions: its id, the missing revisions and their possible ancestors
unfoldable pub diff_text : Diff → List ℕ
diff_text diff =
    quoted diff.id
    ++ (codes ":{\"missing\":"
    ++ (revisions_text diff.missing ++ (ancestors_text diff.possible_ancestors ++ codes "}")))

-- the revisions that each document misses, as an object with commas (44) between its members
unfoldable pub diffs_body : List Diff → List ℕ
diffs_body diffs = codes "{" ++ (join_with_byte 44 (map diff_text diffs) ++ codes "}\n")
