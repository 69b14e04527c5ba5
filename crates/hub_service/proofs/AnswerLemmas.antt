-- The laws of answers about a document.
use Rattle.std.proofs.Common.{◌≡◌, ℕ, List, Bool, true, false, refl, sym, ◌∙◌, subst, inl, inr}
use Rattle.std.specs.Prelude.{Option, Some, None, Result, Ok, Err, if◌then◌else◌}
use Rattle.hub_model.specs.Journal.{Edit}
use Rattle.hub_model.specs.Revision.{Revision}
use Rattle.hub_model.specs.declared.outcomes.Outcome.{Outcome}
use Rattle.hub_model.specs.declared.outcomes.Outcome.TheVariants.{Stored, Known, Refused}
use Rattle.hub_document.specs.Put.{put_in}
use Rattle.hub_document.specs.declared.doc.Doc.{Doc}
use Rattle.hub_document.specs.declared.doc.DocFault.{DocFault}
use Rattle.hub_database.specs.Database.{Database}
use Rattle.hub_database.specs.Edits.{one_draft_result}
use Rattle.hub_database.specs.Reads.{lookup}
use Rattle.hub_database.specs.declared.answers.Lookup.{Lookup}
use Rattle.hub_database.specs.declared.answers.Lookup.TheVariants.{Unknown, Deleted, Found}
use Rattle.hub_http.specs.Refusals.{of_doc_fault, of_fault}
use Rattle.hub_http.specs.declared.refusal.Refusal.{Refusal}
use Rattle.hub_http.specs.declared.refusal.Refusal.TheVariants as refusal
use Rattle.hub_params.specs.DocParams.{doc_asked}
use Rattle.hub_replies.specs.Bodies.{doc_body, edit_body}
use Rattle.hub_service.specs.AnswerLaws.{GotIsThere, PutIsStored}
use Rattle.hub_service.specs.Calls.{gets_by, puts_doc, says_edit, says_found}
use Rattle.hub_service.specs.Moments.{IsRead, IsWritten}
use Rattle.hub_service.specs.Requests.{AtDatabase}
use Rattle.hub_service.specs.Said.{Body, CallAnswer, Refusing, Says}
use Rattle.hub_service.specs.declared.response.Response.{Response}
use Rattle.hub_service.specs.declared.response.Response.TheVariants as response

-- a response has one body
one_body : (r : Result Response Refusal) (n m : ℕ) (a b : List ℕ) → Says r (Body n a) → Says r (Body m b)
    → (n ≡ m) × (a ≡ b)
one_body (Ok (response.Body s bytes)) n m a b x y = (sym x.0 ∙ y.0, sym x.1 ∙ y.1)
one_body (Ok (response.Stream mode sent)) n m a b x y = absurd x
one_body (Err e) n m a b x y = absurd x

-- a response with a body is no refusal
no_refusal : (r : Result Response Refusal) (n : ℕ) (a : List ℕ) (e : Refusal) → Says r (Body n a)
    → Says r (Refusing e) → ⊥
no_refusal (Ok (response.Body s bytes)) n a e x y = y
no_refusal (Ok (response.Stream mode sent)) n a e x y = y
no_refusal (Err f) n a e x y = x

no_error : (r : Result Response Refusal) (n : ℕ) (a : List ℕ) (e : Refusal) → Says r (Body n a)
    → r ≡ Err e → ⊥
no_error r n a e x is = subst (λ s. Says s (Body n a)) is x

-- a call on a database that answers with a body was answered there
answered : (name : List ℕ) (answers : Result Response Refusal → Type 0) (r : Result Response Refusal) (n : ℕ)
    (a : List ℕ) → Says r (Body n a) → AtDatabase name answers r → answers r
answered name answers r n a says at =
    elim at [
      | inl bad ↦ absurd (no_error r n a refusal.BadName says bad.1)
      | inr good ↦ elim good.1 [
        | inl told ↦ told
        | inr none ↦ elim none [
          | inl absent ↦ absurd (no_error r n a refusal.Absent says absent)
          | inr want ↦ absurd (no_error r n a refusal.NoMemory says want)
        ]
      ]
    ]

-- a database that answers with a body was not deleted
stands : (deleted : Bool) (said : CallAnswer) (r : Result Response Refusal) (n : ℕ) (a : List ℕ)
    → Says r (Body n a) → Says r (if deleted then Refusing refusal.Deleted else said) → Says r said
stands true said r n a says told = absurd (no_refusal r n a refusal.Deleted says told)
stands false said r n a says told = told

found : (look : Lookup) (r : Result Response Refusal) (n : ℕ) (a : List ℕ) → Says r (Body n a)
    → Says r (says_found look) → (n ≡ 200) × ((doc : Doc) × (look ≡ Found doc) × (a ≡ doc_body doc))
found Unknown r n a says told = absurd (no_refusal r n a refusal.Missing says told)
found Deleted r n a says told = absurd (no_refusal r n a refusal.DocDeleted says told)
found (Found doc) r n a says told =
    let same = one_body r n 200 a (doc_body doc) says told in (same.0, (doc, refl, same.1))

got : (journal : List Edit) (id : List ℕ) (revs : Bool) (rev open_revs : Option (List ℕ))
    (r : Result Response Refusal) (n : ℕ) (a : List ℕ) → open_revs ≡ None → Says r (Body n a)
    → Says r (gets_by journal id revs rev open_revs)
    → (n ≡ 200) × ((doc : Doc) × (lookup journal id revs ≡ Found doc) × (a ≡ doc_body doc))
got journal id revs rev (Some text) r n a plain says told = absurd (cc)
got journal id revs (Some text) None r n a plain says told =
    absurd (no_refusal r n a refusal.BadRev says told)
got journal id revs None None r n a plain says told = found (lookup journal id revs) r n a says told

pub got_is_there : GotIsThere
got_is_there name id query asked body r status plain answers says =
    let wanted = doc_asked query in
    elim (answered name (IsRead (λ db. gets_by db.journal id wanted.revs wanted.rev wanted.open_revs)) r status
    body says answers) [
      | inl some ↦ let told = got some.db.journal id wanted.revs wanted.rev wanted.open_revs r status body plain
          says (stands some.db.deleted (gets_by some.db.journal id wanted.revs wanted.rev wanted.open_revs) r status
          body says some.held) in (told.0, record { db = some.db; legal = some.legal; held = told.1 })
      | inr want ↦ absurd (no_error r status body refusal.NoMemory says want)
    ]

-- an edit that is answered with a body was stored, and the body tells its revision
edited : (outcome : Outcome Revision) (id : List ℕ) (r : Result Response Refusal) (n : ℕ) (a : List ℕ)
    → Says r (Body n a) → Says r (says_edit 201 id outcome)
    → (n ≡ 201) × ((rev : Revision) × (outcome ≡ Stored rev) × (a ≡ edit_body id rev))
edited (Stored rev) id r n a says told =
    let same = one_body r n 201 a (edit_body id rev) says told in (same.0, (rev, refl, same.1))
edited Known id r n a says told = absurd (no_refusal r n a refusal.Conflict says told)
edited (Refused fault) id r n a says told = absurd (no_refusal r n a (of_fault fault) says told)

put : (db : Database) (read : Result Doc DocFault) (r : Result Response Refusal) (n : ℕ) (a : List ℕ)
    → Says r (Body n a) → Says r (puts_doc db read).said
    → (n ≡ 201) × ((doc : Doc) × (rev : Revision) × (read ≡ Ok doc)
    × ((one_draft_result db.deleted db.limits.journal db.journal doc).outcome ≡ Stored rev)
    × (a ≡ edit_body doc.id rev))
put db (Err fault) r n a says told = absurd (no_refusal r n a (of_doc_fault fault) says told)
put db (Ok doc) r n a says told =
    let stored = edited (one_draft_result db.deleted db.limits.journal db.journal doc).outcome doc.id r n a says
    told in (stored.0, (doc, stored.1.0, refl, stored.1.1, stored.1.2))

pub put_is_stored : PutIsStored
put_is_stored name id query asked body r status answers says =
    let wanted = doc_asked query in
    let read = put_in id wanted.rev wanted.new_edits asked in
    elim (answered name (IsWritten (λ db. puts_doc db read)) r status body says answers) [
      | inl some ↦ let told = put some.db read r status body says some.held in
          (told.0, record { db = some.db; legal = some.legal; held = told.1 })
      | inr lost ↦ elim lost [
        | inl want ↦ absurd (no_error r status body refusal.NoMemory says want)
        | inr full ↦ absurd (no_error r status body refusal.SequenceFull says full.0)
      ]
    ]
