-- The answers to calls that look at a database, as some database says them.
use Rattle.std.proofs.Common.{◌≡◌, ◌<◌, ◌^◌, ℕ, zero, suc, List, [], ◌∷◌, Bool, true, false}
use Rattle.std.proofs.Common.{◌⊎◌, inl, inr, refl, sym, ap, ◌∙◌, subst, length, take, arith}
use Rattle.std.specs.Prelude.{Option, Some, None, Result, Ok, Err, IfOk, IfErr}
use Rattle.std.specs.Prelude.{OnErr, IsSome, Contains, if◌then◌else◌, nat_le}
use Rattle.std.specs.Borrow.{Bor}
use Rattle.std.proofs.lemmas.Bool.{le-leb, lt-leb}
use Rattle.hub_model.specs.Journal.{Edit}
use Rattle.hub_model.specs.Outcome.{Stores, stores_all}
use Rattle.hub_model.specs.Revision.{Revision}
use Rattle.hub_model.specs.declared.outcomes.Fault.TheVariants as fault
use Rattle.hub_model.specs.declared.outcomes.Outcome.{Outcome}
use Rattle.hub_model.specs.declared.outcomes.Outcome.TheVariants.{Stored, Refused}
use Rattle.hub_document.specs.Read.{json_of}
use Rattle.hub_document.specs.declared.doc.Doc.{Doc}
use Rattle.hub_document.specs.declared.limits.Limits.{Limits}
use Rattle.hub_document.specs.declared.local_doc.LocalDoc.{LocalDoc}
use Rattle.hub_database.specs.Database.{Database, GivesUp}
use Rattle.hub_database.specs.Edits.{stores_doc, docs_result}
use Rattle.hub_database.specs.Hosting.{hosted_of}
use Rattle.hub_database.specs.Locals.{local_after_write}
use Rattle.hub_database.specs.declared.batch.Batch.{Batch}
use Rattle.hub_database.specs.declared.batch.DbFault.{DbFault}
use Rattle.hub_database.specs.declared.batch.DbFault.TheVariants as db_fault
use Rattle.hub_databases.specs.declared.written.Edited.{Edited}
use Rattle.hub_databases.specs.declared.written.Written.{Written}
use Rattle.hub_feed.specs.Host.{opening_fault}
use Rattle.hub_feed.specs.declared.host.OpenFault.{OpenFault}
use Rattle.hub_feed.specs.declared.host.OpenFault.TheVariants as open_fault
use Rattle.hub_params.specs.FeedParams.{FeedAsked}
use Rattle.hub_params.specs.declared.feed_fault.ParamFault.{ParamFault}
use Rattle.hub_params.specs.declared.feed_fault.ParamFault.TheVariants as param
use Rattle.hub_http.specs.declared.refusal.Refusal.{Refusal}
use Rattle.hub_http.specs.declared.refusal.Refusal.TheVariants.{NoMemory, Deleted, SequenceFull}
use Rattle.hub_shared.specs.Locals.{IsLocalFault}
use Rattle.hub_shared.specs.Handles.{HandleState, IsEditedBy, IsFoundBy, IsStoredBy}
use Rattle.hub_shared.specs.Stored.{HasStored}
use Rattle.hub_updates.specs.declared.state.NoteFault.{NoteFault}
use Rattle.hub_updates.specs.declared.state.NoteFault.TheVariants as note_fault
use Rattle.hub_http.specs.Refusals.{of_doc_fault}
use Rattle.hub_document.specs.declared.doc.DocFault.{DocFault}
use Rattle.hub_document.specs.declared.doc.DocFault.TheVariants as doc_fault
use Rattle.serde_json.specs.Data.{Data, Items}
use Rattle.hub_replies.specs.Bodies.{edit_body, local_edit_body}
use Rattle.hub_replies.specs.Bulk.{batch_body}
use Rattle.hub_service.specs.Bulk.{batch_if, batch_in, batch_of}
use Rattle.hub_service.specs.Bulk as bulk
use Rattle.hub_service.specs.Bulk.{faults_of, read_docs, readings, replies_of}
use Rattle.hub_service.specs.Calls.{edits, local_reply, puts_doc, says_batch}
use Rattle.hub_service.specs.Calls.{says_edit, says_noted, batch_reply}
use Rattle.hub_service.specs.Feeds.{BeginsRead, IsUnopened}
use Rattle.hub_service.specs.Moments.{HasDatabase, IsEdited, IsFound, IsKept, IsLooked, IsRead, with_refusal}
use Rattle.hub_service.specs.Moments.{IsStored, IsWritten, said_unless_deleted}
use Rattle.hub_service.specs.Refusals.{of_db_fault, of_note_fault, of_open_fault, of_param_fault}
use Rattle.hub_service.specs.Said.{CallAnswer, Body, Refusing, IsSaid, IsWant, Says, WriteAnswer}
use Rattle.hub_service.specs.declared.response.Response.{Response}
use Rattle.hub_service.specs.declared.response.Response.TheVariants as response

-- ---- some database, for answers without a look

abbrev some_limits : Limits
some_limits = record {
  body = 1;
  head = 1;
  headers = 1;
  databases = 1;
  feeds = 1;
  lane = 1;
  hold = 1;
  journal = 1;
  history = 1;
  limited = record {
    body_some = omega arith;
    body_most = omega arith;
    head_some = omega arith;
    head_most = omega arith;
    headers_some = omega arith;
    headers_most = omega arith;
    databases_some = omega arith;
    databases_most = omega arith;
    feeds_some = omega arith;
    feeds_most = omega arith;
    lane_some = omega arith;
    lane_most = omega arith;
    hold_some = omega arith;
    hold_most = omega arith;
    journal_some = omega arith;
    journal_most = omega arith;
    history_some = omega arith;
    history_most = omega arith;
  };
}

abbrev some_database : Database
some_database =
    record {
      journal = [];
      deleted = false;
      locals = [];
      feeds = [];
      next_feed = 0;
      limits = some_limits;
      life = 1;
    }

-- ---- answers

-- an answer was said, or memory was missing
pub said_or_want : (said : CallAnswer) (r : Result Response Refusal) → IsSaid said r → Says r said ⊎ IsWant r
said_or_want (Body status body) r is = is
said_or_want (Refusing refusal) r is = inl is

-- a response that says a refusal is that refusal
pub is_refused : (r : Result Response Refusal) (refusal : Refusal) → Says r (Refusing refusal)
    → r ≡ Err refusal
is_refused (Err x) refusal is = ap Err is
is_refused (Ok (response.Body status body)) refusal is = absurd is
is_refused (Ok (response.Stream mode sent)) refusal is = absurd is

-- an answer without a look is the answer of any database
pub read_anyway : (says : Database → CallAnswer) (said : CallAnswer) (r : Result Response Refusal) → Says r said
    → ((db : Database) → said ≡ says db) → IsRead says r
read_anyway says said r is same =
    inl (record { db = some_database; legal = tt; held = subst (Says r) (same some_database) is })

pub written_anyway : (does : Database → WriteAnswer) (said : CallAnswer) (r : Result Response Refusal) → Says r said
    → ((db : Database) → said ≡ (does db).said) → IsWritten does r
written_anyway does said r is same =
    inl (record { db = some_database; legal = tt; held = subst (Says r) (same some_database) is })

-- ---- reading

-- the answer with the result of a look is the answer of the database that was looked at
pub found_read : {A : Type 0} (found : Database → A → Type 0) (says : Database → CallAnswer) (a : A) (said : CallAnswer)
    (r : Result Response Refusal) → IsFound found (Ok a) → IsSaid said r
    → ((db : Database) → found db a → said ≡ says db) → IsRead says r
found_read found says a said r has is same = by (said_or_want said r is)
  where
    by : Says r said ⊎ IsWant r → IsRead says r
    by (inr want) = inr want
    by (inl is) =
        let standing : said_unless_deleted has.db (says has.db) ≡ says has.db =
        ap (λ b. if b then Refusing Deleted else says has.db) has.held.0 in
        inl (record {
          db = has.db;
          legal = has.legal;
          held = subst (Says r) (same has.db has.held.1 ∙ sym standing) is;
        })

-- the refusal of a look that found nothing is the answer of a deleted database, or memory was missing
pub unfound_read : {A : Type 0} (found : Database → A → Type 0) (says : Database → CallAnswer) (refusal : Refusal)
    → IsFound found (Err refusal) → IsRead says (Err refusal)
unfound_read found says refusal (inl want) = inr (ap Err want)
unfound_read found says refusal (inr is) =
    let gone : said_unless_deleted is.1.db (says is.1.db) ≡ Refusing Deleted =
    ap (λ b. if b then Refusing Deleted else says is.1.db) is.1.held in
    inl (record { db = is.1.db; legal = is.1.legal; held = subst (Says (Err refusal)) (sym gone) is.0 })

-- a look that gave a value found it, where the closure gives such a value of each database that stands
pub look_found : {A : Type 0} (gives : Bor Database → Result A DbFault → Type 0)
    (found : Database → A → Type 0) (a : A)
    → IsLooked (λ db given. (lent : Bor Database) × gives lent given × (lent.now ≡ db)) (Ok a)
    → ((lent : Bor Database) (given : Result A DbFault) → gives lent given
    → IfOk given (λ a. (lent.now.deleted ≡ false) × found lent.now a))
    → IsFound found (Ok a)
look_found gives found a (inl want) finds = absurd (cc)
look_found {A} gives found a (inr is) finds =
    by is.held.0 is.held.2
    (subst (λ db. IfOk is.held.0 (λ a. (db.deleted ≡ false) × found db a)) is.held.1.2
    (finds is.held.1.0 is.held.0 is.held.1.1))
  where
    by : (given : Result A DbFault) → Ok a ≡ with_refusal given
        → IfOk given (λ a. (is.db.deleted ≡ false) × found is.db a) → IsFound found (Ok a)
    by (Ok b) same holds =
        subst (IsFound found) (sym same) (record { db = is.db; legal = is.legal; held = holds })
    by (Err e) same holds = absurd (cc)

-- a look that gave no value found a deleted database, or memory was missing
pub look_unfound : {A : Type 0} (gives : Bor Database → Result A DbFault → Type 0)
    (found : Database → A → Type 0) (needs : Database → Type 0) (refusal : Refusal)
    → IsLooked (λ db given. (lent : Bor Database) × gives lent given × (lent.now ≡ db)) (Err refusal)
    → ((lent : Bor Database) (given : Result A DbFault) → gives lent given
    → IfErr given (λ e. GivesUp lent.now (needs lent.now) e))
    → IsFound found (Err refusal)
look_unfound gives found needs refusal (inl want) fails = subst (IsFound found) (sym want) (inl refl)
look_unfound {A} gives found needs refusal (inr is) fails =
    by is.held.0 is.held.2
    (subst (λ db. IfErr is.held.0 (λ e. GivesUp db (needs db) e)) is.held.1.2
    (fails is.held.1.0 is.held.0 is.held.1.1))
  where
    gone : (fault : DbFault) → GivesUp is.db (needs is.db) fault → IsFound found (Err (of_db_fault fault))
    gone fault (inl deleted) =
        inr (ap of_db_fault deleted.1, record { db = is.db; legal = is.legal; held = deleted.0 })
    gone fault (inr want) = inl (ap of_db_fault want.1)

    by : (given : Result A DbFault) → Err refusal ≡ with_refusal given
        → IfErr given (λ e. GivesUp is.db (needs is.db) e) → IsFound found (Err refusal)
    by (Ok b) same fault = absurd (cc)
    by (Err e) same fault = subst (IsFound found) (sym same) (gone e fault)

-- a look finds the value that a closure gives of a database that stands; or the database was deleted, or
-- memory was missing
pub looked_found : {A : Type 0} (gives : Bor Database → Result A DbFault → Type 0)
    (found : Database → A → Type 0) (needs : Database → Type 0) (r : Result A Refusal)
    → IsLooked (λ db given. (lent : Bor Database) × gives lent given × (lent.now ≡ db)) r
    → ((lent : Bor Database) (given : Result A DbFault) → gives lent given
    → IfOk given (λ a. (lent.now.deleted ≡ false) × found lent.now a))
    → ((lent : Bor Database) (given : Result A DbFault) → gives lent given
    → IfErr given (λ e. GivesUp lent.now (needs lent.now) e))
    → IsFound found r
looked_found gives found needs (Ok a) looked finds fails = look_found gives found a looked finds
looked_found gives found needs (Err refusal) looked finds fails =
    look_unfound gives found needs refusal looked fails

-- ---- writing

-- an edit was made, or some database refuses it, or memory was missing
pub edited_or_not : (doc : Doc) (given : Result Edited DbFault)
    → IfOk given (λ e. IsEditedBy false 0 (record { parts = 0; count = 0 }) doc (Ok e.rev))
    → IfErr given (λ e. (e ≡ db_fault.NoMemory)
    ⊎ IsEditedBy false 0 (record { parts = 0; count = 0 }) doc (Err e))
    → IsEdited doc (with_refusal given)
edited_or_not doc (Ok edited) is fault =
    record { db = is.db; legal = is.found.legal; held = is.answered }
edited_or_not doc (Err e) is (inl want) = inl (ap of_db_fault want)
edited_or_not doc (Err db_fault.NoMemory) is (inr fault) = inl refl
edited_or_not doc (Err (db_fault.Refused refused)) is (inr fault) =
    inr (record { db = fault.db; legal = fault.found.legal; held = (refused, refl, fault.answered) })

-- a batch was stored, or memory was missing
pub stored_whole : (new_edits : Bool) (docs : List Doc) (given : Result Written DbFault)
    → IfOk given (λ w. IsStoredBy false 0 (record { parts = 0; count = 0 }) new_edits docs w.batch)
    → IfOk given (λ w. IsSome w.lapsed → HasStored w.batch.replies)
    → IfOk (with_refusal given) (IsStored new_edits docs)
stored_whole new_edits docs (Ok batch) stored lapsed = record { stored = stored; lapsed = lapsed }
stored_whole new_edits docs (Err e) stored lapsed = tt

-- an edit that was refused is answered with its refusal
pub edit_refused : (status : ℕ) (doc : Doc) (refusal : Refusal) → IsEdited doc (Err refusal)
    → IsWritten (λ db. edits status db doc) (Err refusal)
edit_refused status doc refusal (inl want) = inr (inl (ap Err want))
edit_refused status doc refusal (inr is) =
    inl (record {
      db = is.db;
      legal = is.legal;
      held = subst (λ o. Says (Err refusal) (says_edit status doc.id o)) (sym is.held.2) is.held.1;
    })

-- the answer to a stored edit is the answer of some database
edit_made : (status : ℕ) (doc : Doc) (edited : Edited) (r : Result Response Refusal)
    → IsEdited doc (Ok edited) → IsSaid (Body status (edit_body doc.id edited.rev)) r
    → IsWritten (λ db. edits status db doc) r
edit_made status doc edited r is (inr want) = inr (inl want)
edit_made status doc edited r is (inl said) =
    inl (record {
      db = is.db;
      legal = is.legal;
      held = subst (λ o. Says r (says_edit status doc.id o)) (sym is.held) said;
    })

-- an edit whose notice lapsed was stored
edit_lapsed : (status : ℕ) (doc : Doc) (edited : Edited) (fault : NoteFault) → IsEdited doc (Ok edited)
    → IsWritten (λ db. edits status db doc) (Err (of_note_fault fault))
edit_lapsed status doc edited note_fault.NoMemory is = inr (inl refl)
edit_lapsed status doc edited note_fault.SequenceFull is =
    inr (inr (
      refl,
      record { db = is.db; legal = is.legal; held = (edited.rev, (0, omega arith, is.held)) },
    ))

-- the answer to a stored edit, by whether the edit was noted
edit_noted : (status : ℕ) (doc : Doc) (edited : Edited) (lapsed : Option NoteFault)
    (r : Result Response Refusal) → IsEdited doc (Ok edited)
    → IsSaid (says_noted lapsed (Body status (edit_body doc.id edited.rev))) r
    → IsWritten (λ db. edits status db doc) r
edit_noted status doc edited None r is said = edit_made status doc edited r is said
edit_noted status doc edited (Some fault) r is said =
    subst (IsWritten (λ db. edits status db doc)) (sym (is_refused r (of_note_fault fault) said))
    (edit_lapsed status doc edited fault is)

-- the answer to a stored edit, by the result of the write
pub edit_said : (status : ℕ) (doc : Doc) (edited : Edited) (r : Result Response Refusal)
    → IsEdited doc (Ok edited)
    → IsSaid (says_noted edited.lapsed (Body status (edit_body doc.id edited.rev))) r
    → IsWritten (λ db. edits status db doc) r
edit_said status doc edited r is said = edit_noted status doc edited edited.lapsed r is said

-- ---- local documents

-- the answer to a local document that was kept
pub kept_read : (doc : LocalDoc) (count : ℕ) (r : Result Response Refusal) → IsKept doc (Ok count)
    → ((db : Database) → count ≡ (local_after_write db.locals doc).count → IsSaid (local_reply (local_after_write db.locals doc)) r)
    → IsRead (λ db. local_reply (local_after_write db.locals doc)) r
kept_read doc count r (db, standing, is) says =
    by (said_or_want (local_reply (local_after_write db.locals doc)) r (says db is))
  where
    by : Says r (local_reply (local_after_write db.locals doc)) ⊎ IsWant r → IsRead (λ db. local_reply (local_after_write db.locals doc)) r
    by (inr want) = inr want
    by (inl said) =
        inl (record {
          db = record db { journal = [] };
          legal = tt;
          held =
              subst (Says r)
              (sym (ap (λ b. if b then Refusing Deleted else local_reply (local_after_write db.locals doc)) standing)) said;
        })

-- a local document was kept, or the fault says why not
pub kept_or_not : (doc : LocalDoc) (given : Result ℕ DbFault)
    → IfOk given (λ count. (db : Database) × (db.deleted ≡ false) × (count ≡ (local_after_write db.locals doc).count))
    → IfErr given (λ e. (db : Database) × IsLocalFault db doc e) → IsKept doc (with_refusal given)
kept_or_not doc (Ok count) kept fault = kept
kept_or_not doc (Err e) kept (db, inl gone) = inr (inl (ap of_db_fault gone.1, (db, gone.0)))
kept_or_not doc (Err e) kept (db, inr (standing, inl want)) = inl (ap of_db_fault want.0)
kept_or_not doc (Err e) kept (db, inr (standing, inr full)) =
    inr (inr (ap of_db_fault full.0, (db, standing, full.1)))

-- a count below 2^64 is answered as the count of the local document that is kept
pub kept_said : (db : Database) (doc : LocalDoc) (count : ℕ) (r : Result Response Refusal) → count < 2 ^ 64
    → IsSaid (Body 201 (local_edit_body doc.id count)) r → count ≡ (local_after_write db.locals doc).count
    → IsSaid (local_reply (local_after_write db.locals doc)) r
kept_said db doc count r few said is =
    let n = (local_after_write db.locals doc).count in
    let some : nat_le (2 ^ 64) n ≡ false = lt-leb (2 ^ 64) n (subst (λ n. n < 2 ^ 64) is few) in
    subst (λ b. IsSaid (if b then Refusing SequenceFull else Body 201 (local_edit_body doc.id n)) r)
    (sym some)
    (subst (λ n. IsSaid (Body 201 (local_edit_body doc.id n)) r) is said)

-- the refusal of a local document that was not kept
pub unkept_read : (doc : LocalDoc) (refusal : Refusal) → IsKept doc (Err refusal)
    → IsRead (λ db. local_reply (local_after_write db.locals doc)) (Err refusal)
unkept_read doc refusal (inl want) = inr (ap Err want)
unkept_read doc refusal (inr (inl (gone, (db, deleted)))) =
    inl (record {
      db = record db { journal = [] };
      legal = tt;
      held =
          subst (Says (Err refusal))
          (sym (ap (λ b. if b then Refusing Deleted else local_reply (local_after_write db.locals doc)) deleted)) gone;
    })
unkept_read doc refusal (inr (inr (full, (db, standing, many)))) =
    inl (record {
      db = record db { journal = [] };
      legal = tt;
      held =
          subst (Says (Err refusal))
          (sym (ap (λ b. if b then Refusing Deleted else local_reply (local_after_write db.locals doc)) standing
          ∙ ap (λ b. if b then Refusing SequenceFull
          else Body 201 (local_edit_body doc.id (local_after_write db.locals doc).count))
          (le-leb (2 ^ 64) (local_after_write db.locals doc).count many))) full;
    })

-- ---- values that are there

pub some_is_some : {A : Type 0} (o : Option A) (a : A) → o ≡ Some a → IsSome o
some_is_some o a is = subst IsSome (sym is) cc

-- ---- puts and batches

-- a document that was read is put
pub put_as : (p : Result Doc DocFault) (doc : Doc) (r : Result Response Refusal) → p ≡ Ok doc
    → IsWritten (λ db. edits 201 db doc) r → IsWritten (λ db. puts_doc db p) r
put_as p doc r is w = subst (λ p. IsWritten (λ db. puts_doc db p) r) (sym is) w

-- a document that could not be read is refused without a look
pub put_refused : (p : Result Doc DocFault) (fault : DocFault) (refusal : Refusal)
    → (fault ≡ doc_fault.NoMemory) ⊎ (p ≡ Err fault) → refusal ≡ of_doc_fault fault
    → IsWritten (λ db. puts_doc db p) (Err refusal)
put_refused p fault refusal (inl want) is = inr (inl (ap Err (is ∙ ap of_doc_fault want)))
put_refused p fault refusal (inr same) is =
    written_anyway (λ db. puts_doc db p) (Refusing refusal) (Err refusal) refl
    (λ db. ap Refusing is ∙ sym (ap (λ p. (puts_doc db p).said) same))

-- the front of a list of all its length is the list
take_whole : {A : Type 0} (xs : List A) → take (length xs) xs ≡ xs
take_whole [] = refl
take_whole (x ∷ xs) = ap (λ l. x ∷ l) (take_whole xs)

-- the answer with a body that was made, or memory was missing for the body
pub said_text : {B E : Type 0} (items : B → List ℕ) (status : ℕ) (text : List ℕ) (b : Result B E)
    (r : Result Response Refusal)
    → IfOk b (λ b. items b ≡ text) → IfOk b (λ b. IsSaid (Body status (items b)) r) → OnErr b (IsWant r)
    → IsSaid (Body status text) r
said_text items status text (Ok b) r is said want = subst (λ t. IsSaid (Body status t) r) is said
said_text items status text (Err e) r is said want = inr want

-- a statement about each such value is a statement about this one
pub told_of : {B E I : Type 0} (is_such : I → Type 0) (told : B → I → Type 0) (b : Result B E) (one : I)
    → is_such one
    → IfOk b (λ x. (other : I) → is_such other → told x other) → IfOk b (λ x. told x one)
told_of is_such told (Ok x) one such all = all one such
told_of is_such told (Err e) one such all = tt

-- the outcomes of the documents of a batch that did not stop
batch_outcomes : (new_edits : Bool) (docs : List Doc) (batch : Batch)
    → (w : IsStoredBy false 0 (record { parts = 0; count = 0 }) new_edits docs batch)
    → batch.stopped ≡ false
    → batch.replies ≡ (docs_result new_edits w.db.deleted w.db.limits.journal w.db.journal docs).outcomes
batch_outcomes new_edits docs batch w goes =
    w.replies ∙ ap (λ l. (docs_result new_edits w.db.deleted w.db.limits.journal w.db.journal l).outcomes)
    (ap (λ n. take n docs) (w.whole goes) ∙ take_whole docs)

-- the answer to a batch that did not stop is the answer of some database
batch_written : (new_edits : Bool) (items : Items) (batch : Batch) (r : Result Response Refusal)
    → IsStoredBy false 0 (record { parts = 0; count = 0 }) new_edits (read_docs (readings new_edits items))
    batch
    → batch.stopped ≡ false
    → IsSaid (Body 201
    (batch_body items (replies_of new_edits (faults_of (readings new_edits items)) batch.replies))) r
    → IsWritten (λ db. batch_reply db (Ok (record { docs = items; new_edits = new_edits }))) r
batch_written new_edits items batch r w goes (inr want) = inr (inl want)
batch_written new_edits items batch r w goes (inl is) =
    inl (record {
      db = w.db;
      legal = w.found.legal;
      held =
          subst (λ l. Says r
          (Body 201 (batch_body items (replies_of new_edits (faults_of (readings new_edits items)) l))))
          (batch_outcomes new_edits _ batch w goes) is;
    })

-- a stored revision of a list is also in a list with the same first entry, where that holds of the entries
-- behind
stored_behind : (rev : Revision) (o : Outcome Revision) (os ps : List (Outcome Revision))
    → (Contains os (Stored rev) → Contains ps (Stored rev)) → Contains (o ∷ os) (Stored rev)
    → Contains (o ∷ ps) (Stored rev)
stored_behind rev o os ps more (zero, few, is) = (0, omega arith, is)
stored_behind rev o os ps more (suc k, few, is) =
    let there = more (k, omega (arith, few), is) in
    (suc there.0, omega (arith, there.1), there.2)

-- an empty list has no stored revision
none_stored : {A : Type 0} (rev : Revision) → Contains [] (Stored rev) → A
none_stored rev (k, few, is) = absurd (omega (arith, few))

-- a revision that is stored of a front of documents is stored of them all
stored_of_front : (store : List Edit → Doc → Stores) (deleted : Bool) (journal : List Edit) (n : ℕ)
    (docs : List Doc) (rev : Revision)
    → Contains (stores_all store deleted journal (take n docs)).outcomes (Stored rev)
    → Contains (stores_all store deleted journal docs).outcomes (Stored rev)
stored_of_front store deleted journal zero docs rev has = none_stored rev has
stored_of_front store deleted journal (suc n) [] rev has = has
stored_of_front store true journal (suc n) (doc ∷ docs) rev has =
    stored_behind rev (Refused fault.Deleted) (stores_all store true journal (take n docs)).outcomes
    (stores_all store true journal docs).outcomes
    (stored_of_front store true journal n docs rev) has
stored_of_front store false journal (suc n) (doc ∷ docs) rev has =
    let K = (store journal doc).journal in
    stored_behind rev (store journal doc).outcome (stores_all store false K (take n docs)).outcomes
    (stores_all store false K docs).outcomes
    (stored_of_front store false K n docs rev) has

-- a batch whose notice lapsed has a document that was stored, whether the batch was written whole or stopped
batch_lapsed : (new_edits : Bool) (items : Items) (batch : Batch) (fault : NoteFault)
    → IsStoredBy false 0 (record { parts = 0; count = 0 }) new_edits (read_docs (readings new_edits items))
    batch
    → HasStored batch.replies
    → IsWritten (λ db. batch_reply db (Ok (record { docs = items; new_edits = new_edits })))
    (Err (of_note_fault fault))
batch_lapsed new_edits items batch note_fault.NoMemory w some = inr (inl refl)
batch_lapsed new_edits items batch note_fault.SequenceFull w some =
    let docs = read_docs (readings new_edits items) in
    let front = subst (λ (l : List (Outcome Revision)). Contains l (Stored some.0)) w.replies some.1 in
    inr (inr (
      refl,
      record {
        db = w.db;
        legal = w.found.legal;
        held = (
          some.0,
          stored_of_front (stores_doc new_edits w.db.limits.journal) w.db.deleted w.db.journal
              (length batch.replies) docs some.0 front,
        );
      },
    ))

-- the answer to a batch, by whether it stopped
batch_stopped : (new_edits : Bool) (items : Items) (batch : Batch) (stopped : Bool)
    (r : Result Response Refusal)
    → IsStoredBy false 0 (record { parts = 0; count = 0 }) new_edits (read_docs (readings new_edits items))
    batch
    → batch.stopped ≡ stopped
    → IsSaid (says_batch (record { docs = items; new_edits = new_edits })
    (faults_of (readings new_edits items)) stopped batch.replies) r
    → IsWritten (λ db. batch_reply db (Ok (record { docs = items; new_edits = new_edits }))) r
batch_stopped new_edits items batch true r w is said = inr (inl (is_refused r NoMemory said))
batch_stopped new_edits items batch false r w is said = batch_written new_edits items batch r w is said

-- the answer to a batch, by whether it was noted
batch_noted : (new_edits : Bool) (items : Items) (batch : Batch) (lapsed : Option NoteFault)
    (r : Result Response Refusal)
    → IsStoredBy false 0 (record { parts = 0; count = 0 }) new_edits (read_docs (readings new_edits items))
    batch
    → (IsSome lapsed → HasStored batch.replies)
    → IsSaid (says_noted lapsed
    (says_batch (record { docs = items; new_edits = new_edits })
    (faults_of (readings new_edits items)) batch.stopped batch.replies)) r
    → IsWritten (λ db. batch_reply db (Ok (record { docs = items; new_edits = new_edits }))) r
batch_noted new_edits items batch None r w some is =
    batch_stopped new_edits items batch batch.stopped r w refl is
batch_noted new_edits items batch (Some fault) r w some is =
    subst (IsWritten (λ db. batch_reply db (Ok (record { docs = items; new_edits = new_edits }))))
    (sym (is_refused r (of_note_fault fault) is))
    (batch_lapsed new_edits items batch fault w (some cc))

-- the answer to a batch, by the result of the write
pub batch_said : (new_edits : Bool) (items : Items) (written : Written) (r : Result Response Refusal)
    → IsStored new_edits (read_docs (readings new_edits items)) written
    → IsSaid (says_noted written.lapsed
    (says_batch (record { docs = items; new_edits = new_edits })
    (faults_of (readings new_edits items)) written.batch.stopped written.batch.replies)) r
    → IsWritten (λ db. batch_reply db (Ok (record { docs = items; new_edits = new_edits }))) r
batch_said new_edits items written r stored is =
    batch_noted new_edits items written.batch written.lapsed r stored.stored stored.lapsed is

-- a batch that was read is stored
pub stored_as : (b : Result bulk.Batch Refusal) (batch : bulk.Batch) (r : Result Response Refusal)
    → b ≡ Ok batch
    → IsWritten (λ db. batch_reply db (Ok batch)) r → IsWritten (λ db. batch_reply db b) r
stored_as b batch r is w = subst (λ b. IsWritten (λ db. batch_reply db b) r) (sym is) w

-- a batch that could not be read is refused without a look
pub store_refused : (b : Result bulk.Batch Refusal) (refusal : Refusal) → b ≡ Err refusal
    → IsWritten (λ db. batch_reply db b) (Err refusal)
store_refused b refusal is =
    written_anyway (λ db. batch_reply db b) (Refusing refusal) (Err refusal) refl
    (λ db. sym (ap (λ b. (batch_reply db b).said) is))

-- the batch in a body is the batch in its JSON value
pub stored_of_body : (body : List ℕ) (r : Result Response Refusal) (content : Data)
    → json_of body ≡ Some content
    → IsWritten (λ db. batch_reply db (batch_of content)) r → IsWritten (λ db. batch_reply db (batch_in body)) r
stored_of_body body r content is w = subst (λ o. IsWritten (λ db. batch_reply db (batch_if o)) r) (sym is) w

-- a body that is no JSON value is refused without a look
pub store_unread : (body : List ℕ) (fault : DocFault) (refusal : Refusal)
    → (fault ≡ doc_fault.NoMemory) ⊎ ((fault ≡ doc_fault.NotJson) × (json_of body ≡ None))
    → refusal ≡ of_doc_fault fault
    → IsWritten (λ db. batch_reply db (batch_in body)) (Err refusal)
store_unread body fault refusal (inl want) is = inr (inl (ap Err (is ∙ ap of_doc_fault want)))
store_unread body fault refusal (inr (bad, none)) is =
    store_refused (batch_in body) refusal (ap batch_if none ∙ ap Err (sym (is ∙ ap of_doc_fault bad)))

-- ---- bodies that ask

-- the answer to a body that was read
pub read_as : {A : Type 0} (says : Database → Result A DocFault → CallAnswer) (p : Result A DocFault) (a : A)
    (r : Result Response Refusal) → p ≡ Ok a → IsRead (λ db. says db (Ok a)) r → IsRead (λ db. says db p) r
read_as says p a r is given = subst (λ p. IsRead (λ db. says db p) r) (sym is) given

-- a body that could not be read is refused without a look
pub read_refused : {A : Type 0} (says : Database → Result A DocFault → CallAnswer)
    (p : Result A DocFault) (fault : DocFault)
    (refusal : Refusal) → ((db : Database) → says db (Err fault) ≡ Refusing (of_doc_fault fault))
    → (fault ≡ doc_fault.NoMemory) ⊎ (p ≡ Err fault) → refusal ≡ of_doc_fault fault
    → IsRead (λ db. says db p) (Err refusal)
read_refused says p fault refusal refused (inl want) is = inr (ap Err (is ∙ ap of_doc_fault want))
read_refused says p fault refusal refused (inr same) is =
    read_anyway (λ db. says db p) (Refusing refusal) (Err refusal) refl
    (λ db. ap Refusing is ∙ sym (ap (says db) same ∙ refused db))

-- ---- beginning a feed

-- a look that found nothing for a list that goes downwards says why nothing begins
pub unfound_feed : {A : Type 0} (found : Database → A → Type 0) (asked : FeedAsked) (refusal : Refusal)
    → asked.descending ≡ true → IsFound found (Err refusal) → IsUnopened asked refusal ⊎ (refusal ≡ NoMemory)
unfound_feed found asked refusal down (inl want) = inr want
unfound_feed found asked refusal down (inr (gone, is)) =
    let upwards = of_open_fault (opening_fault (hosted_of is.db)) in
    inl (record {
      db = is.db;
      legal = is.legal;
      held = gone ∙ sym (ap (λ b. if b then (if is.db.deleted then Deleted else NoMemory) else upwards) down
          ∙ ap (λ b. if b then Deleted else NoMemory) is.held);
    })

-- a feed that was not opened has its reason
pub unopened_feed : (asked : FeedAsked) (fault : OpenFault) (refusal : Refusal) → asked.descending ≡ false
    → (fault ≡ open_fault.NoMemory) ⊎ HasDatabase (λ db. fault ≡ opening_fault (hosted_of db))
    → refusal ≡ of_open_fault fault → IsUnopened asked refusal ⊎ (refusal ≡ NoMemory)
unopened_feed asked fault refusal up (inl want) is = inr (is ∙ ap of_open_fault want)
unopened_feed asked fault refusal up (inr told) is =
    let upwards = of_open_fault (opening_fault (hosted_of told.db)) in
    inl (record {
      db = told.db;
      legal = told.legal;
      held = is ∙ (ap of_open_fault told.held
          ∙ sym (ap (λ b. if b then (if told.db.deleted then Deleted else NoMemory) else upwards) up));
    })

-- a feed was opened, or the database that the handle found says why not
pub opened_or_told : {A : Type 0} (counts : Bool) (all_parts : ℕ) (state : HandleState)
    (r : Result A OpenFault)
    → IfErr r (λ e. (db : Database) × IsFoundBy counts all_parts state db
    × (e ≡ opening_fault (hosted_of db)))
    → IfErr r (λ e. (e ≡ open_fault.NoMemory) ⊎ HasDatabase (λ db. e ≡ opening_fault (hosted_of db)))
opened_or_told counts all_parts state (Ok feed) told = tt
opened_or_told counts all_parts state (Err e) (db, found, told) =
    inr (record { db = db; legal = found.legal; held = told })

-- the feed that parameters ask for is begun
pub read_feed : (begins : FeedAsked → Result Response Refusal → Type 0) (needs : Type 0)
    (p : Result FeedAsked ParamFault) (asked : FeedAsked) (r : Result Response Refusal)
    → p ≡ Ok asked → begins asked r → BeginsRead begins needs p r
read_feed begins needs p asked r is begun = subst (λ p. BeginsRead begins needs p r) (sym is) begun

-- parameters that could not be read are refused, or memory was missing to read them
pub unread_feed : (begins : FeedAsked → Result Response Refusal → Type 0) (needs : Type 0)
    (p : Result FeedAsked ParamFault) (fault : ParamFault) (refusal : Refusal)
    → ((asked : FeedAsked) → begins asked (Err NoMemory)) → (fault ≡ param.NoMemory) ⊎ (p ≡ Err fault)
    → (fault ≡ param.NoMemory → needs) → refusal ≡ of_param_fault fault
    → BeginsRead begins needs p (Err refusal)
unread_feed begins needs p fault refusal may (inr told) room is =
    subst (λ p. BeginsRead begins needs p (Err refusal)) (sym told) (inl (ap Err is))
unread_feed begins needs (Ok asked) fault refusal may (inl want) room is =
    subst (λ refusal. begins asked (Err refusal)) (sym (is ∙ ap of_param_fault want)) (may asked)
unread_feed begins needs (Err bad) fault refusal may (inl want) room is =
    inr (ap Err (is ∙ ap of_param_fault want), room want)
