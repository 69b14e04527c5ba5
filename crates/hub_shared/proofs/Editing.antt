-- The effect of one edit, and of a batch without receipts.
use Rattle.std.proofs.Common.{◌≡◌, ◌⊎◌, ◌+◌, ◌-◌, ◌<◌, ◌≤◌, ◌^◌, ℕ, List, [], ◌∷◌, ◌++◌, length, Bool}
use Rattle.std.proofs.Common.{true, false, ap, refl, sym, ◌∙◌, subst, inl, inr, length-append, arith}
use Rattle.std.specs.Prelude.{cond, Result, Ok, Err, IfOk, IfErr, OnOk}
use Rattle.std.proofs.lemmas.List.{length-map}
use Rattle.std.proofs.lemmas.List.Sums.{sum_by-cons}
use Rattle.hub_document.specs.declared.doc.Doc.{Doc}
use Rattle.hub_model.specs.Draft.{HasNextRevision}
use Rattle.hub_model.specs.Journal.{Edit, IsLegal}
use Rattle.hub_model.specs.Outcome.{Stores, StoresAll, refusal_result}
use Rattle.hub_model.specs.Revision.{Revision}
use Rattle.hub_model.specs.RightlyHanded.{ChangeItem}
use Rattle.hub_model.specs.declared.outcomes.Fault.{Fault}
use Rattle.hub_model.specs.declared.outcomes.Outcome.{Outcome}
use Rattle.hub_model.specs.declared.outcomes.Outcome.TheVariants.{Stored, Known, Refused}
use Rattle.hub_database.specs.Database.{Database}
use Rattle.hub_database.specs.Edits.{IsBatch, StopsAt, draft_of, one_draft_result}
use Rattle.hub_database.specs.Handing.{IsFitting}
use Rattle.hub_database.specs.Hosting.{hosted_of}
use Rattle.hub_database.specs.declared.batch.Batch.{Batch}
use Rattle.hub_database.specs.declared.batch.DbFault.{DbFault}
use Rattle.hub_database.specs.declared.batch.DbFault.TheVariants as db_fault
use Rattle.hub_shared.specs.Edits.{IsEditAnswer}
use Rattle.hub_shared.specs.Handles.{HandleState, IsFoundBy, IsStoredBy}
use Rattle.hub_shared.specs.Label.{Label}
use Rattle.hub_shared.specs.Locked.{AreSendersOf, IsBookOf}
use Rattle.hub_database.specs.Receipts.{ids_of, receipts_from}
use Rattle.hub_shared.specs.Stored.{Adds, StoresBatch, is_stored, stored_count}
use Rattle.hub_shared.proofs.Booking.{book_grows}
use Rattle.hub_shared.proofs.Storing.{StoredAs, as_many, make_stored, senders_stay, writes_added}

-- ---- one edit

-- the answer of a database to one edit
pub edit_answer : (kept : Type 0) (old : Database) (edits : List Edit) (doc : Doc)
    (r : Result Revision DbFault)
    → IfOk r (λ rev. one_draft_result old.deleted old.limits.journal old.journal doc
    ≡ record { outcome = Stored rev; journal = edits })
    → IfErr r (λ e. kept × ((e ≡ db_fault.NoMemory) ⊎ ((fault : Fault) × (e ≡ db_fault.Refused fault)
    × (one_draft_result old.deleted old.limits.journal old.journal doc ≡ refusal_result old.journal fault))))
    → (r ≡ Err db_fault.NoMemory → (old.deleted ≡ false) × HasNextRevision old.journal (draft_of doc))
    → IsEditAnswer old doc r
edit_answer kept old edits doc (Ok rev) made failed memory = ap (λ (stores : Stores). stores.outcome) made
edit_answer kept old edits doc (Err db_fault.NoMemory) made failed memory = memory refl
edit_answer kept old edits doc (Err (db_fault.Refused fault)) made (stays, inl want) memory = absurd (cc)
edit_answer kept old edits doc (Err (db_fault.Refused fault)) made (stays, inr (other, is, refused)) memory =
    let alike : other ≡ fault = cc in
    ap (λ (stores : Stores). stores.outcome) refused ∙ ap (λ f. Refused f) alike

-- an edit that is made here stands after the others
made_behind : (deleted : Bool) (limit : ℕ) (journal other_journal : List Edit) (doc : Doc) (rev : Revision)
    → one_draft_result deleted limit journal doc ≡ record { outcome = Stored rev; journal = other_journal }
    → (edit : Edit) × (other_journal ≡ journal ++ edit ∷ [])
made_behind true limit journal other_journal doc rev is =
    let outcome : Refused _ ≡ Stored rev = ap (λ (stores : Stores). stores.outcome) is in absurd (cc)
made_behind false limit journal other_journal doc rev is =
    let stored =
    subst (λ (stores : Stores). StoredAs journal doc.id stores.outcome stores.journal) is
    (make_stored limit journal (draft_of doc)) in
    (stored.0, stored.1)

-- so the journal has one edit more
pub one_added : (old new : Database) (doc : Doc) (r : Result Revision DbFault)
    → IfOk r (λ rev. one_draft_result old.deleted old.limits.journal old.journal doc
    ≡ record { outcome = Stored rev; journal = new.journal })
    → IsLegal new.journal → length new.journal < 2 ^ 32 → new ≡ record old { journal = new.journal }
    → OnOk r (Adds 1 old new)
one_added old new doc (Err e) made legal within rest = tt
one_added old new doc (Ok rev) made legal within rest =
    let behind = made_behind old.deleted old.limits.journal old.journal new.journal doc rev made in record {
      edits = behind.0 ∷ [];
      behind = behind.1;
      many = refl;
      legal = legal;
      within = within;
      rest = rest;
    }

-- ---- a batch

-- there are as many receipts as stored documents
receipts_many : (n : ℕ) (ids : List (List ℕ)) (replies : List (Outcome Revision))
    → length replies ≤ length ids → length (receipts_from n ids replies) ≡ stored_count replies
receipts_many n [] [] few = refl
receipts_many n (id ∷ ids) [] few = refl
receipts_many n [] (reply ∷ replies) few = absurd (omega (arith, few))
receipts_many n (id ∷ ids) (Stored rev ∷ replies) few =
    omega (
      arith,
      receipts_many (n + 1) ids replies (omega (arith, few)),
      sum_by-cons (λ o. cond (is_stored o) 1 0) (Stored rev) replies,
    )
receipts_many n (id ∷ ids) (Known ∷ replies) few =
    omega (
      arith,
      receipts_many n ids replies (omega (arith, few)),
      sum_by-cons (λ o. cond (is_stored o) 1 0) Known replies,
    )
receipts_many n (id ∷ ids) (Refused fault ∷ replies) few =
    omega (
      arith,
      receipts_many n ids replies (omega (arith, few)),
      sum_by-cons (λ o. cond (is_stored o) 1 0) (Refused fault) replies,
    )

few_replies : (stopped : Bool) (replies docs : ℕ) → (stopped ≡ false → replies ≡ docs)
    → (stopped ≡ true → replies < docs) → replies ≤ docs
few_replies true replies docs whole less = omega (arith, less refl)
few_replies false replies docs whole less = omega (arith, whole refl)

-- there is one edit more for each stored document
pub batch_added : (new_edits : Bool) (docs : List Doc) (old new : Database) (batch : Batch)
    → IsBatch new_edits old.deleted old.limits.journal old.journal new.journal docs batch
    → IsLegal new.journal → length new.journal < 2 ^ 32 → new ≡ record old { journal = new.journal }
    → Adds (stored_count batch.replies) old new
batch_added new_edits docs old new batch is legal within rest =
    let added =
    writes_added new_edits old.deleted old.limits.journal old.journal new.journal docs batch.replies is.ok in
    let few : length batch.replies ≤ length (ids_of docs) = omega (
      arith,
      few_replies batch.stopped (length batch.replies) (length docs) is.whole is.stopped,
      length-map docs (λ (doc : Doc). doc.id),
    ) in record {
      edits = added.0;
      behind = added.1;
      many = as_many (length old.journal) added.0 _ added.2
          ∙ receipts_many (length old.journal) (ids_of docs) batch.replies few;
      legal = legal;
      within = within;
      rest = rest;
    }

-- the new journal is longer by the number of added edits
pub longer_by : (count : ℕ) (old new : Database) → Adds count old new
    → length new.journal ≡ length old.journal + count
longer_by count old new adds =
    ap length adds.behind
    ∙ (length-append old.journal adds.edits ∙ ap (λ n. length old.journal + n) adds.many)

-- so the lengths of the journals differ by this number
pub edits_more : (count before after : ℕ) (old new : Database) → Adds count old new
    → before ≡ length old.journal → after ≡ length new.journal → after - before ≡ count
edits_more count before after old new adds from to = omega (arith, from, to, longer_by count old new adds)

-- the effect of a batch on a database
pub batch_stored : (new_edits : Bool) (docs : List Doc) (old new : Database) (batch : Batch)
    → IsBatch new_edits old.deleted old.limits.journal old.journal new.journal docs batch
    → IsLegal new.journal → length new.journal < 2 ^ 32 → new ≡ record old { journal = new.journal }
    → StoresBatch new_edits docs old batch new
batch_stored new_edits docs old new batch is legal within rest = record {
  replies = is.ok;
  whole = is.whole;
  stopped = is.stopped;
  stops = is.stops;
  adds = batch_added new_edits docs old new batch is legal within rest;
}

-- the effect of a batch on a found database, as the handle knows it
abbrev pub stored_by : {counts : Bool} {all_parts : ℕ} {h : HandleState} (new_edits : Bool) (docs : List Doc)
    (old new : Database) (batch : Batch) → IsFoundBy counts all_parts h old
    → StoresBatch new_edits docs old batch new → IsStoredBy counts all_parts h new_edits docs batch
stored_by new_edits docs old new batch found stores = record {
  db = old;
  found = found;
  replies = ap (λ (s : StoresAll). s.outcomes) (sym stores.replies);
  whole = stores.whole;
  stopped = stores.stopped;
  stops = λ t. subst (λ (s : StoresAll). StopsAt new_edits old.deleted s.journal (length batch.replies) docs)
      (sym stores.replies) (stores.stops t);
}

-- after more edits the outboxes are still those of the feeds
pub senders_added : {K : Type 0} (label : K → Label) (sent : K → List ChangeItem) (count : ℕ)
    (old new : Database) (senders : List (ℕ × K)) → Adds count old new
    → AreSendersOf label sent (λ f items. IsFitting old.journal f items) (hosted_of old) senders
    → AreSendersOf label sent (λ f items. IsFitting new.journal f items) (hosted_of new) senders
senders_added label sent count old new senders adds are =
    senders_stay label sent old new senders adds.legal (adds.edits, adds.behind)
    (ap (λ (db : Database). db.feeds) adds.rest) (ap (λ (db : Database). db.next_feed) adds.rest) are

-- after more edits the book is still that of the edits
pub book_added : (counts : Bool) (total counted rise count : ℕ) (old new : Database) → Adds count old new
    → IsBookOf counts total (length old.journal) → rise ≤ count → (counts ≡ true → rise ≡ count)
    → counted ≡ total + rise → IsBookOf counts counted (length new.journal)
book_added counts total counted rise count old new adds book low whole is =
    subst (λ n. IsBookOf counts n (length new.journal)) (sym is)
    (subst (λ n. IsBookOf counts (total + rise) n) (sym (longer_by count old new adds))
    (book_grows counts total rise count (length old.journal) book low whole))

-- after more edits a share has still counted less than 2^32
pub amount_within : (amount counted rise count : ℕ) (old new : Database) → Adds count old new
    → amount ≤ length old.journal → rise ≤ count → counted ≡ amount + rise → counted < 2 ^ 32
amount_within amount counted rise count old new adds bound low is =
    omega (arith, bound, low, is, adds.within, longer_by count old new adds)
