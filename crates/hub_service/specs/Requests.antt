-- The answers of a connection to requests (CouchDB API reference, the server, its databases, and each call
-- on one; own for the order of refusals). A call looks at the database that lies under its lock then, and is
-- answered as this database says.
use Rattle.std.specs.Prelude.{◌≡◌, ◌⊎◌, ℕ, List, true, false, Option, Some, Result, Ok, Err}
use Rattle.std.specs.Cow.{cow_str_bytes}
use Rattle.hub_document.specs.Local.{local_in}
use Rattle.hub_document.specs.Put.{put_in}
use Rattle.hub_database.specs.Locals.{local_of}
use Rattle.hub_databases.specs.Kept.{AreNames, most_databases}
use Rattle.hub_databases.specs.Names.{is_name}
use Rattle.hub_http.specs.Stream.{PlainRequest}
use Rattle.hub_http.specs.declared.refusal.Refusal.{Refusal}
use Rattle.hub_http.specs.declared.refusal.Refusal.TheVariants.{BadName, Exists, TooMany, Absent}
use Rattle.hub_http.specs.declared.refusal.Refusal.TheVariants.{NoMemory, SequenceFull}
use Rattle.hub_http.specs.declared.reply.Reply.TheVariants.{Done, Refused}
use Rattle.hub_params.specs.DocParams.{doc_asked}
use Rattle.hub_replies.specs.Bodies.{welcome_body, ok_body, names_body}
use Rattle.hub_routes.specs.Routes.{GoesTo}
use Rattle.hub_routes.specs.declared.route.Route.{Route}
use Rattle.hub_routes.specs.declared.route.Call.{Call}
use Rattle.hub_routes.specs.declared.route.Call.TheVariants.{Welcome, AllDbs, DbUpdates}
use Rattle.hub_routes.specs.declared.route.Call.TheVariants.{Info, PutDatabase, DeleteDatabase, BulkDocs}
use Rattle.hub_routes.specs.declared.route.Call.TheVariants.{Changes, RevsDiff, FullCommit}
use Rattle.hub_routes.specs.declared.route.Call.TheVariants.{GetDocument, PutDocument, DeleteDocument}
use Rattle.hub_routes.specs.declared.route.Call.TheVariants.{GetLocal, PutLocal}
use Rattle.hub_session.specs.declared.service.Answer.{Answer}
use Rattle.hub_session.specs.declared.service.Answer.TheVariants as answer
use Rattle.hub_service.specs.Bulk.{batch_in}
use Rattle.hub_service.specs.Calls.{says_info, says_commit, gets_doc, puts_doc}
use Rattle.hub_service.specs.Calls.{says_local, puts_local, says_diffs}
use Rattle.hub_service.specs.Calls.{asked_by, batch_reply}
use Rattle.hub_service.specs.Deletions.{IsDeletion}
use Rattle.hub_service.specs.Feeds.{Begins, BeginsChanges, BeginsUpdates, life_of}
use Rattle.hub_service.specs.Moments.{IsRead, IsWritten}
use Rattle.hub_service.specs.Said.{Body, IsSaid, IsWant, Says}
use Rattle.hub_service.specs.declared.response.Response.{Response}
use Rattle.hub_service.specs.declared.response.Response.TheVariants as response
use Rattle.hub_service.specs.declared.sent.Sent.{Sent}

-- a bad name is refused as a bad name, and no other name is
abbrev pub AtName : List ℕ → (Result Response Refusal → Type 0) → Result Response Refusal → Type 0
AtName name answers r =
    ((is_name name ≡ false) × (r ≡ Err BadName)) ⊎ ((is_name name ≡ true) × answers r)

-- A database was made. Or a database of the name was there, or there were too many, or the log of updates
-- was full, or memory was missing.
abbrev pub IsMade : Result Response Refusal → Type 0
IsMade r = IsSaid (Body 201 ok_body) r ⊎ ((r ≡ Err Exists) ⊎ ((r ≡ Err TooMany) ⊎ (r ≡ Err SequenceFull)))

-- a database was removed, or no database had the name, or the log of updates was full, or memory was missing
abbrev pub IsRemoved : Result Response Refusal → Type 0
IsRemoved r = IsSaid (Body 200 ok_body) r ⊎ ((r ≡ Err Absent) ⊎ (r ≡ Err SequenceFull))

-- names of databases were listed, each once, in the order of their bytes, or memory was missing
abbrev pub IsListed : Result Response Refusal → Type 0
IsListed r =
    ((names : List (List ℕ)) × AreNames most_databases names × Says r (Body 200 (names_body names)))
    ⊎ IsWant r

-- the database of the name answered, or no database had the name, or memory was missing
abbrev pub AtDatabase : List ℕ → (Result Response Refusal → Type 0) → Result Response Refusal → Type 0
AtDatabase name answers r = AtName name (λ r. answers r ⊎ ((r ≡ Err Absent) ⊎ IsWant r)) r

-- why no database of the name is found: the name is bad, or no database has it, or memory was missing
abbrev pub IsNoDatabase : List ℕ → Refusal → Type 0
IsNoDatabase name e =
    ((is_name name ≡ false) × (e ≡ BadName))
    ⊎ ((is_name name ≡ true) × ((e ≡ Absent) ⊎ (e ≡ NoMemory)))

-- the answer to a call, with the name, the id and the query of its request, and this body
abbrev pub AnswersCall : Call → List ℕ → List ℕ → List ℕ → List ℕ → Result Response Refusal → Type 0
AnswersCall Welcome name id query body r = IsSaid (Body 200 welcome_body) r
AnswersCall AllDbs name id query body r = IsListed r
AnswersCall DbUpdates name id query body r = Begins BeginsUpdates query body r
AnswersCall PutDatabase name id query body r = AtName name IsMade r
AnswersCall DeleteDatabase name id query body r = AtName name IsRemoved r
AnswersCall Info name id query body r = AtDatabase name (IsRead (λ db. says_info name db)) r
AnswersCall BulkDocs name id query body r = AtDatabase name (IsWritten (λ db. batch_reply db (batch_in body))) r
AnswersCall Changes name id query body r = AtDatabase name (Begins BeginsChanges query body) r
AnswersCall RevsDiff name id query body r =
    AtDatabase name (IsRead (λ db. says_diffs db.journal (asked_by body))) r
AnswersCall FullCommit name id query body r = AtDatabase name (IsSaid says_commit) r
AnswersCall GetDocument name id query body r =
    AtDatabase name (IsRead (λ db. gets_doc db.journal id (doc_asked query))) r
AnswersCall PutDocument name id query body r =
    let asked = doc_asked query in
    AtDatabase name (IsWritten (λ db. puts_doc db (put_in id asked.rev asked.new_edits body))) r
AnswersCall DeleteDocument name id query body r = AtDatabase name (IsDeletion id query) r
AnswersCall GetLocal name id query body r =
    AtDatabase name (IsRead (λ db. says_local (local_of db.locals id))) r
AnswersCall PutLocal name id query body r =
    AtDatabase name (IsRead (λ db. puts_local db (local_in id body))) r

-- the answer to a request with this body, by its route
abbrev pub Responds : List ℕ → Result Route Refusal → Result Response Refusal → Type 0
Responds body (Err refusal) r = r ≡ Err refusal
Responds body (Ok route) r =
    AnswersCall route.call (cow_str_bytes route.db) (cow_str_bytes route.id) route.query.now body r

-- the response is sent as this answer; a feed or list that it begins is being sent then, else the old one
-- still is
abbrev pub IsSent : Result Response Refusal → Answer → Option Sent → Option Sent → Type 0
IsSent (Ok (response.Body status body)) a maybe_sent t =
    (a ≡ answer.Whole (Done status body)) × (t ≡ maybe_sent)
IsSent (Ok (response.Stream mode sent)) a maybe_sent t =
    (a ≡ answer.Stream mode (life_of sent)) × (t ≡ Some sent)
IsSent (Err e) a maybe_sent t = (a ≡ answer.Whole (Refused e)) × (t ≡ maybe_sent)

-- a connection that sends `maybe_sent` may answer the request with this answer, and then it sends `t`
pub record Answers (maybe_sent : Option Sent) (asked : PlainRequest) (answer : Answer)
    (t : Option Sent) : Type 0 where
  pub route : Result Route Refusal
  pub response : Result Response Refusal
  pub goes : GoesTo asked route
  pub responds : Responds asked.body route response
  pub sent : IsSent response answer maybe_sent t
