-- The result of a write to a database.
use Rattle.std.proofs.Common.{◌≡◌, ◌∙◌, ℕ, List, Bool, ap, arith, length, refl, sym, subst}
use Rattle.hub_document.specs.declared.doc.Doc.{Doc}
use Rattle.hub_database.specs.Database.{Database}
use Rattle.hub_database.specs.Receipts.{ids_of, receipts_from}
use Rattle.hub_database.specs.declared.batch.Batch.{Batch}
use Rattle.hub_database.proofs.Auditing.{added_stand, added_rise}
use Rattle.hub_shared.specs.Handles.{HandleState, IsFoundBy, IsWrittenBy}
use Rattle.hub_shared.specs.Stored.{StoresBatch, batch_of, stored_count}
use Rattle.hub_shared.specs.Writes.{Stores}
use Rattle.hub_shared.specs.declared.write.Accepted.{Accepted}
use Rattle.hub_shared.proofs.Editing.{longer_by, stored_by}
use Rattle.hub_shared.proofs.Storing.{added_longer, receipts_added}

-- a batch that was stored, with its receipts
pub stores_with : (new_edits : Bool) (docs : List Doc) (old new : Database) (batch : Batch)
    (accepted : Accepted) (edits : ℕ) (ids : List (List ℕ)) → StoresBatch new_edits docs old batch new
    → batch_of accepted ≡ batch → accepted.receipts.items ≡ receipts_from edits ids batch.replies
    → edits ≡ length old.journal → ids ≡ ids_of docs → Stores new_edits docs old accepted new
stores_with new_edits docs old new batch accepted edits ids done is told from of =
    let stores = subst (λ b. StoresBatch new_edits docs old b new) (sym is) done in
    let replies : batch.replies ≡ accepted.replies = ap (λ (b : Batch). b.replies) (sym is) in
    let receipts = accepted.receipts.items in
    let added =
    receipts_added new_edits old.deleted old.limits.journal old.journal new.journal docs accepted.replies
    stores.replies edits ids batch.replies receipts from of replies told in record {
      batch = stores;
      receipts = told ∙ (λ k. receipts_from (from k) (of k) (replies k));
      longer = added_longer old.journal new.journal receipts added;
      added = added;
      stand = added_stand old.journal new.journal receipts added;
      rise = added_rise old.journal new.journal receipts added;
    }

-- there are as many receipts as documents that were stored
pub receipts_count : (new_edits : Bool) (docs : List Doc) (old new : Database) (accepted : Accepted)
    → Stores new_edits docs old accepted new
    → stored_count accepted.replies ≡ length accepted.receipts.items
receipts_count new_edits docs old new accepted done =
    omega (arith, done.longer, longer_by (stored_count accepted.replies) old new done.batch.adds)

-- the knowledge that a handle has of a finished write
pub written_by : (counts : Bool) (all_parts : ℕ) (state : HandleState) (new_edits : Bool) (docs : List Doc)
    (db new : Database) (accepted : Accepted) → IsFoundBy counts all_parts state db
    → Stores new_edits docs db accepted new → IsWrittenBy counts all_parts state new_edits docs accepted
written_by counts all_parts state new_edits docs db new accepted found done = record {
  stored =
      stored_by new_edits docs db new (batch_of accepted) found done.batch;
  receipts = done.receipts;
}
