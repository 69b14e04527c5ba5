-- A document that is put under an id (CouchDB API reference, PUT /{db}/{docid}; the order of the faults is
-- own).
use Rattle.std.specs.Prelude.{ℕ, List, length, codes, Bool, true, not, ◌&&◌, nat_lt, if◌then◌else◌, Option}
use Rattle.std.specs.Prelude.{Some, None, option_and_then, Result, Ok}
use Rattle.hub_model.specs.Revision.{Revision, is_same}
use Rattle.serde_json.specs.Data.{Data, Members}
use Rattle.serde_json.specs.Find.{get, as_object}
use Rattle.serde_json.specs.Written.{members_have_float}
use Rattle.hub_document.specs.BodyText.{body_text}
use Rattle.hub_document.specs.Histories.{rev_of}
use Rattle.hub_document.specs.Ids.{is_id}
use Rattle.hub_document.specs.Local.{is_named_so}
use Rattle.hub_document.specs.Read.{or_fault, if_holds, json_of}
use Rattle.hub_document.specs.RevisionText.{revision_of}
use Rattle.hub_document.specs.SpecialMembers.{are_good_members, deleted_of}
use Rattle.hub_document.specs.declared.doc.DocFault.{DocFault}
use Rattle.hub_document.specs.declared.doc.DocFault.TheVariants.{NotJson, NotObject, BadNumber, BadId, BadRev}
use Rattle.hub_document.specs.declared.doc.DocFault.TheVariants.{BadMember, TooLong}
use Rattle.hub_document.specs.declared.doc.Doc.{Doc}

-- the revision, unless the document names another one; None is a fault
abbrev pub unless_other : Revision → Option Revision → Option (Option Revision)
unless_other revision None = Some (Some revision)
unless_other revision (Some other) = if is_same revision other then Some (Some revision) else None

-- the leaf that the request names, or the document, or neither, or both alike; None is a fault. Where the
-- request names 2-b and the document has no `_rev`, the leaf is 2-b. A `_rev` of 1-a beside the request's 2-b
-- is a fault.
abbrev pub rev_put : Option (List ℕ) → Data → Option (Option Revision)
rev_put None content = rev_of true content
rev_put (Some text) content =
    option_and_then (λ r. option_and_then (unless_other r) (rev_of true content)) (revision_of text)

-- the document of an object with these members, under the id, or the first fault. Under the id _a a document
-- with a `_rev` of x is BadId, since BadId comes before BadRev.
abbrev pub put_of : List ℕ → Option (List ℕ) → Bool → Data → Members → Result Doc DocFault
put_of id rev new_edits content members =
    or_fault (if_holds (not (members_have_float members))) BadNumber (λ _.
    or_fault (if_holds (is_id id && is_named_so id (get (codes "_id") content))) BadId (λ _.
    or_fault (rev_put rev content) BadRev (λ named.
    or_fault (if_holds (are_good_members members && new_edits)) BadMember (λ _.
    or_fault (if_holds (not (nat_lt 512 (length id)))) TooLong (λ _.
    Ok (record {
      id = id;
      rev = named;
      path = None;
      deleted = deleted_of content;
      body = body_text members;
    }))))))

-- the document of a value, under the id, or the first fault
abbrev pub put_doc : List ℕ → Option (List ℕ) → Bool → Data → Result Doc DocFault
put_doc id rev new_edits content = or_fault (as_object content) NotObject (put_of id rev new_edits content)

-- the document of a text, under the id, or the first fault
abbrev pub put_in : List ℕ → Option (List ℕ) → Bool → List ℕ → Result Doc DocFault
put_in id rev new_edits text = or_fault (json_of text) NotJson (put_doc id rev new_edits)
