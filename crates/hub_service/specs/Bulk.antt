-- Batches of documents (CouchDB API reference, POST /{db}/_bulk_docs).
use Rattle.std.specs.Prelude.{ℕ, List, [], ◌∷◌, Bool, true, if◌then◌else◌, Option, Some, None, Result, Ok}
use Rattle.std.specs.Prelude.{Err, option_and_then, codes}
use Rattle.serde_json.specs.Data.{Data, Items, no_items, item}
use Rattle.serde_json.specs.Find.{get, as_array, as_bool}
use Rattle.hub_document.specs.declared.doc.Doc.{Doc}
use Rattle.hub_document.specs.declared.doc.DocFault.{DocFault}
use Rattle.hub_document.specs.Read.{doc_of, json_of}
use Rattle.hub_http.specs.declared.refusal.Refusal.{Refusal}
use Rattle.hub_http.specs.declared.refusal.Refusal.TheVariants.{NotJson, NotObject}
use Rattle.hub_http.specs.Refusals.{of_fault, of_doc_fault}
use Rattle.hub_model.specs.Revision.{Revision}
use Rattle.hub_model.specs.declared.outcomes.Outcome.{Outcome}
use Rattle.hub_model.specs.declared.outcomes.Outcome.TheVariants.{Stored, Known, Refused}
use Rattle.hub_replies.specs.declared.batch.BatchReply.{BatchReply}
use Rattle.hub_replies.specs.declared.batch.BatchReply.TheVariants as reply

-- the elements of a batch, and whether their revisions are made here
pub record Batch : Type 0 where
  pub docs : Items
  pub new_edits : Bool

-- the truth value of `new_edits`: true where it is absent, None where it is another value
abbrev pub flag_of : Option Data → Option Bool
flag_of None = Some true
flag_of (Some flag) = as_bool flag

-- the batch of these elements and this flag, where both were found
abbrev pub batch_with : Option Items → Option Bool → Result Batch Refusal
batch_with None flag = Err NotObject
batch_with (Some docs) None = Err NotObject
batch_with (Some docs) (Some new_edits) = Ok (record { docs = docs; new_edits = new_edits })

-- the batch in a JSON value, or the refusal of the whole
abbrev pub batch_of : Data → Result Batch Refusal
batch_of content =
    batch_with (option_and_then as_array (get (codes "docs") content))
    (flag_of (get (codes "new_edits") content))

-- the batch in a parsed body; a body that is no JSON has no value
abbrev pub batch_if : Option Data → Result Batch Refusal
batch_if None = Err NotJson
batch_if (Some content) = batch_of content

-- the batch in a body
abbrev pub batch_in : List ℕ → Result Batch Refusal
batch_in body = batch_if (json_of body)

-- the document or the fault that each element is read as
abbrev pub readings : Bool → Items → List (Result Doc DocFault)
readings new_edits no_items = []
readings new_edits (item d ds) = doc_of new_edits d ∷ readings new_edits ds

-- the elements that are documents
abbrev pub read_docs : List (Result Doc DocFault) → List Doc
read_docs [] = []
read_docs (Ok doc ∷ rs) = doc ∷ read_docs rs
read_docs (Err fault ∷ rs) = read_docs rs

-- for each element its fault, if it is no document
abbrev pub faults_of : List (Result Doc DocFault) → List (Option DocFault)
faults_of [] = []
faults_of (Ok doc ∷ rs) = None ∷ faults_of rs
faults_of (Err fault ∷ rs) = Some fault ∷ faults_of rs

-- the reply to a document: a revision that another database made is not listed
abbrev pub reply_to : Bool → Outcome Revision → Option BatchReply
reply_to new_edits (Stored rev) = if new_edits then Some (reply.Stored rev) else None
reply_to new_edits Known = None
reply_to new_edits (Refused fault) = Some (reply.Refused (of_fault fault))

-- the reply to each element: its own fault, or else the reply to its document
abbrev pub replies_of : Bool → List (Option DocFault) → List (Outcome Revision) → List (Option BatchReply)
replies_of new_edits [] outcomes = []
replies_of new_edits (Some fault ∷ faults) outcomes =
    Some (reply.Refused (of_doc_fault fault)) ∷ replies_of new_edits faults outcomes
replies_of new_edits (None ∷ faults) [] = None ∷ replies_of new_edits faults []
replies_of new_edits (None ∷ faults) (o ∷ outcomes) =
    reply_to new_edits o ∷ replies_of new_edits faults outcomes
