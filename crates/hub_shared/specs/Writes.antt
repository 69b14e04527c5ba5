-- The effect of a write on a database (CouchDB API reference, _bulk_docs; receipts are own).
use Rattle.std.specs.Prelude.{◌≡◌, ◌+◌, List, All, length, Bool}
use Rattle.hub_document.specs.declared.doc.Doc.{Doc}
use Rattle.hub_database.specs.Database.{Database}
use Rattle.hub_database.specs.Receipts.{AreAdded, AreRising, HasEdit, ids_of, receipts_from}
use Rattle.hub_shared.specs.Stored.{StoresBatch, batch_of}
use Rattle.hub_shared.specs.declared.write.Accepted.{Accepted}

-- The documents before the stop were stored one after the other, and nothing else changed. Say that a, b and
-- c are given after 5 edits. Where b is refused, there are 7 edits then, with the receipts (6, a, ..) and
-- (7, c, ..). Where memory runs out at b, there are 6 edits, and one reply.
pub record Stores (new_edits : Bool) (docs : List Doc) (old : Database) (accepted : Accepted)
    (new : Database) : Type 0 where
  -- the documents were stored, as a batch without receipts
  pub batch : StoresBatch new_edits docs old (batch_of accepted) new
  -- each document that was stored has its receipt, in order
  pub receipts : accepted.receipts.items
      ≡ receipts_from (length old.journal) (ids_of docs) accepted.replies
  -- there are as many new edits as receipts
  pub longer : length new.journal ≡ length old.journal + length accepted.receipts.items
  -- the new edits are just those that the receipts tell of
  pub added : AreAdded old.journal new.journal accepted.receipts.items
  -- the journal has the edit of each receipt, at its number
  pub stand : All (λ r. HasEdit new.journal r) accepted.receipts.items
  -- the receipts' numbers rise, from above the number of the earlier edits
  pub rise : AreRising (length old.journal) accepted.receipts.items
