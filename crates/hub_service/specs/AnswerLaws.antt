-- The laws of answers about a document (CouchDB API reference, `/{db}/{docid}`).
use Rattle.std.specs.Prelude.{◌≡◌, ℕ, List, None, Result, Ok}
use Rattle.hub_model.specs.Revision.{Revision}
use Rattle.hub_model.specs.declared.outcomes.Outcome.TheVariants.{Stored}
use Rattle.hub_document.specs.Put.{put_in}
use Rattle.hub_document.specs.declared.doc.Doc.{Doc}
use Rattle.hub_database.specs.Edits.{one_draft_result}
use Rattle.hub_database.specs.Reads.{lookup}
use Rattle.hub_database.specs.declared.answers.Lookup.TheVariants.{Found}
use Rattle.hub_http.specs.declared.refusal.Refusal.{Refusal}
use Rattle.hub_params.specs.DocParams.{doc_asked}
use Rattle.hub_replies.specs.Bodies.{doc_body, edit_body}
use Rattle.hub_routes.specs.declared.route.Call.TheVariants.{GetDocument, PutDocument}
use Rattle.hub_service.specs.Moments.{HasDatabase}
use Rattle.hub_service.specs.Requests.{AnswersCall}
use Rattle.hub_service.specs.Said.{Body, Says}
use Rattle.hub_service.specs.declared.response.Response.{Response}

-- A document that is got is there. A GET that is answered with a body has the status 200, and some legal
-- database has the document that the body shows. Where no database has a document of the id `a`, no GET of
-- `a` is answered with a body. A GET that asks for `open_revs` shows a list instead.
abbrev pub GotIsThere : Type 0
GotIsThere = (name id query asked body : List ℕ) (r : Result Response Refusal) (status : ℕ)
    → (doc_asked query).open_revs ≡ None → AnswersCall GetDocument name id query asked r
    → Says r (Body status body)
    → (status ≡ 200) × HasDatabase (λ db. (doc : Doc)
    × (lookup db.journal id (doc_asked query).revs ≡ Found doc) × (body ≡ doc_body doc))

-- A document that is put is stored. A PUT that is answered with a body has the status 201, and some legal
-- database stores the document of the request, with the revision in the body. A conflict is answered with no
-- such body.
abbrev pub PutIsStored : Type 0
PutIsStored = (name id query asked body : List ℕ) (r : Result Response Refusal) (status : ℕ)
    → AnswersCall PutDocument name id query asked r → Says r (Body status body)
    → (status ≡ 201) × HasDatabase (λ db. (doc : Doc) × (rev : Revision)
    × (put_in id (doc_asked query).rev (doc_asked query).new_edits asked ≡ Ok doc)
    × ((one_draft_result db.deleted db.limits.journal db.journal doc).outcome ≡ Stored rev)
    × (body ≡ edit_body doc.id rev))
