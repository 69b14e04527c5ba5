-- The answers to a DELETE of a document (CouchDB API reference, DELETE /{db}/{docid}).
use Rattle.std.specs.Prelude.{◌≡◌, ◌≢◌, ◌⊎◌, ℕ, List, true, false, Option, Some, None, Result, Err}
use Rattle.std.specs.Prelude.{if◌then◌else◌}
use Rattle.hub_document.specs.Ids.{short_id}
use Rattle.hub_document.specs.RevisionText.{revision_of}
use Rattle.hub_model.specs.Revision.{Revision}
use Rattle.hub_params.specs.DocParams.{doc_asked}
use Rattle.hub_params.specs.Room.{DocNeedsRoom}
use Rattle.hub_revtree.specs.declared.leaf.Winner.{Winner}
use Rattle.hub_http.specs.declared.refusal.Refusal.{Refusal}
use Rattle.hub_http.specs.declared.refusal.Refusal.TheVariants.{BadRev, Conflict, Missing}
use Rattle.hub_http.specs.declared.refusal.Refusal.TheVariants.{Deleted, DocDeleted}
use Rattle.hub_service.specs.Calls.{deletion, edits, winner_in}
use Rattle.hub_service.specs.Moments.{HasDatabase, IsRead, IsWritten}
use Rattle.hub_service.specs.Said.{Refusing, IsWant}
use Rattle.hub_service.specs.declared.response.Response.{Response}

-- The refusal to delete a document with this winner, where no leaf is named. Without a document it is
-- Missing, with a deleted winner it is DocDeleted, and with another winner, as 2-b, it is Conflict.
abbrev pub refuses_unnamed : Option Winner → Refusal
refuses_unnamed None = Missing
refuses_unnamed (Some winner) = if winner.deleted then DocDeleted else Conflict

-- a look found no such document, or a database that was deleted
abbrev pub IsUnknown : List ℕ → Result Response Refusal → Type 0
IsUnknown id r = ((r ≡ Err Missing) × HasDatabase (λ db. (db.deleted ≡ false) × (winner_in db id ≡ None)))
    ⊎ ((r ≡ Err Deleted) × HasDatabase (λ db. db.deleted ≡ true))

-- a look found a document of this id, in a database that was not deleted
abbrev pub IsKnown : List ℕ → Type 0
IsKnown id = HasDatabase (λ db. (db.deleted ≡ false) × (winner_in db id ≢ None))

-- Deleting the leaf of a revision, of the document of an id. `None` says that no document can have the id:
-- then the answer is Missing, and no memory is taken. Else a look finds no such document; or it finds the
-- document, and an edit is written, to the database as it is then.
abbrev pub DeletesLeaf : List ℕ → Option (List ℕ) → Revision → Result Response Refusal → Type 0
DeletesLeaf id None rev r = r ≡ Err Missing
DeletesLeaf id (Some short) rev r =
    IsUnknown id r ⊎ (IsWant r ⊎ (IsKnown id × IsWritten (λ db. edits 200 db (deletion short rev)) r))

-- deleting the leaf that a text names; a text that is no revision, as x, is BadRev
abbrev pub DeletesNamed : List ℕ → Option Revision → Result Response Refusal → Type 0
DeletesNamed id None r = r ≡ Err BadRev
DeletesNamed id (Some rev) r = DeletesLeaf id (short_id id) rev r

-- deleting a document: its leaf where one is named, and else a refusal
abbrev pub Deletes : List ℕ → Option (List ℕ) → Result Response Refusal → Type 0
Deletes id None r = IsRead (λ db. Refusing (refuses_unnamed (winner_in db id))) r
Deletes id (Some text) r = DeletesNamed id (revision_of text) r

-- Deleting a document by the `rev` of a query. Reading the query may take memory. `rev=x` is BadRev, unless
-- memory was missing for the text `x`.
abbrev pub IsDeletion : List ℕ → List ℕ → Result Response Refusal → Type 0
IsDeletion id query r = (IsWant r × DocNeedsRoom query) ⊎ Deletes id (doc_asked query).rev r
