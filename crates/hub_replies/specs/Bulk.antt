-- The reply to a batch of documents (CouchDB API reference, POST /{db}/_bulk_docs).
use Rattle.std.specs.Prelude.{ℕ, List, [], ◌∷◌, ◌++◌, Option, Some, None, option_and_then, codes}
use Rattle.json.specs.Print.{quoted}
use Rattle.serde_json.specs.Data.{Data, Items, no_items, item}
use Rattle.serde_json.specs.Find.{get, as_str}
use Rattle.hub_model.specs.Revision.{text_of}
use Rattle.hub_http.specs.declared.refusal.Refusal.{Refusal}
use Rattle.hub_http.specs.Refusals.{error_of, reason_of}
use Rattle.hub_replies.specs.declared.batch.BatchReply.{BatchReply}
use Rattle.hub_replies.specs.declared.batch.BatchReply.TheVariants.{Stored, Refused}
use Rattle.hub_replies.specs.Bodies.{edit_text, list_text}

-- the id of an element, where its `_id` is a text
abbrev pub id_in : Data → Option (List ℕ)
id_in content = option_and_then as_str (get (codes "_id") content)

-- the JSON text of an element's id
abbrev pub id_text : Option (List ℕ) → List ℕ
id_text None = codes "null"
id_text (Some id) = quoted id

-- the members with the reason of a refusal, and the brace that closes the element
unfoldable pub reason_members : Refusal → List ℕ
reason_members refusal =
    codes ",\"error\":\""
    ++ (error_of refusal ++ (codes "\",\"reason\":\"" ++ (reason_of refusal ++ codes "\"}")))

-- the object of an element that is refused
unfoldable pub refused_text : Option (List ℕ) → Refusal → List ℕ
refused_text id refusal = codes "{\"id\":" ++ (id_text id ++ reason_members refusal)

-- the object of an element
unfoldable pub reply_text : Option (List ℕ) → BatchReply → List ℕ
reply_text id (Stored rev) = edit_text (id_text id) (text_of rev)
reply_text id (Refused refusal) = refused_text id refusal

-- the objects of the elements that have a reply, in order
abbrev pub reply_texts : Items → List (Option BatchReply) → List (List ℕ)
reply_texts no_items replies = []
reply_texts (item d ds) [] = []
reply_texts (item d ds) (None ∷ replies) = reply_texts ds replies
reply_texts (item d ds) (Some reply ∷ replies) = reply_text (id_in d) reply ∷ reply_texts ds replies

-- the list of these objects, and a line feed
unfoldable pub batch_body : Items → List (Option BatchReply) → List ℕ
batch_body items replies = list_text (reply_texts items replies) ++ codes "\n"
