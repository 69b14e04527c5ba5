-- The document of a JSON value, or the first fault in the value (CouchDB API reference, documents and
-- `_bulk_docs`; the order of the faults is own).
use Rattle.std.specs.Prelude.{◌≡◌, ℕ, List, length, slice_get, Bool, true, false, not, nat_lt}
use Rattle.std.specs.Prelude.{if◌then◌else◌, Option, Some, None, option_map, Result, Ok, Err, ⊤}
use Rattle.hub_model.specs.Revision.{Revision}
use Rattle.serde_json.specs.Data.{Data, Members}
use Rattle.std.specs.Str.{is_utf8}
use Rattle.serde_json.specs.Read.{read}
use Rattle.serde_json.specs.Find.{as_object}
use Rattle.serde_json.specs.Written.{members_have_float}
use Rattle.hub_document.specs.SpecialMembers.{are_good_members, deleted_of}
use Rattle.hub_document.specs.BodyText.{body_text}
use Rattle.hub_document.specs.Ids.{is_id, id_of}
use Rattle.hub_document.specs.Histories.{rev_of, path_of}
use Rattle.hub_document.specs.declared.doc.DocFault.{DocFault}
use Rattle.hub_document.specs.declared.doc.DocFault.TheVariants.{NotJson, NotObject, BadNumber, BadId, BadRev}
use Rattle.hub_document.specs.declared.doc.DocFault.TheVariants.{BadRevisions, BadMember, TooLong}
use Rattle.hub_document.specs.declared.doc.Doc.{Doc}

-- goes on with the value that was read, or stops at the fault
abbrev pub or_fault : {A B : Type 0} → Option A → DocFault → (A → Result B DocFault) → Result B DocFault
or_fault None fault next = Err fault
or_fault (Some a) fault next = next a

-- Some where the test holds, else None
abbrev pub if_holds : Bool → Option ⊤
if_holds b = if b then Some tt else None

-- the revision and the history of an edit: a new edit has the named revision and no history
abbrev pub history_of : Bool → Option Revision → Data → Option (Option Revision × Option (List Revision))
history_of new_edits rev content =
    if new_edits then Some (rev, None) else
    option_map (λ path. (slice_get path 0, Some path)) (path_of rev content)

-- ---- the faults in their order

-- a document may have these members and this id: no number of them is a float, and the id is good
pub record IsStorable (members : Members) (id : List ℕ) : Type 0 where
  pub whole : members_have_float members ≡ false
  pub good : is_id id ≡ true

-- the document, where its revision and path are known; else BadMember, or TooLong for its id
abbrev pub with_path : Data → Members → List ℕ → Option Revision → Option (List Revision)
    → Result Doc DocFault
with_path content members id rev path =
    or_fault (if_holds (are_good_members members)) BadMember (λ _.
    or_fault (if_holds (not (nat_lt 512 (length id)))) TooLong (λ _.
    Ok (record { id = id; rev = rev; path = path; deleted = deleted_of content; body = body_text members })))

-- the document, where its id and `_rev` are known, or the first fault of the rest
abbrev pub with_rev : Bool → Data → Members → List ℕ → Option Revision → Result Doc DocFault
with_rev new_edits content members id rev =
    or_fault (history_of new_edits rev content) BadRevisions (λ p. with_path content members id p.0 p.1)

-- the document, where its id is known, or the first fault of the rest
abbrev pub with_id : Bool → Data → Members → List ℕ → Result Doc DocFault
with_id new_edits content members id =
    or_fault (rev_of new_edits content) BadRev (with_rev new_edits content members id)

-- the document of an object with these members, or the first fault
abbrev pub document_of : Bool → Data → Members → Result Doc DocFault
document_of new_edits content members =
    or_fault (if_holds (not (members_have_float members))) BadNumber (λ _.
    or_fault (id_of content) BadId (with_id new_edits content members))

-- the document of a value, or the first fault
abbrev pub doc_of : Bool → Data → Result Doc DocFault
doc_of new_edits content = or_fault (as_object content) NotObject (document_of new_edits content)

-- the JSON value of a text: the text is UTF-8, and is read as `serde_json` reads it
abbrev pub json_of : List ℕ → Option Data
json_of text = if is_utf8 text then read text else None

-- the document of a text, or the first fault
abbrev pub doc_in : Bool → List ℕ → Result Doc DocFault
doc_in new_edits text = or_fault (json_of text) NotJson (doc_of new_edits)
