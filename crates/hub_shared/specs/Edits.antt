-- The answers to one edit whose revision is made here (CouchDB API reference, PUT and DELETE of a document).
use Rattle.std.specs.Prelude.{◌≡◌, true, false, Result, Ok, Err}
use Rattle.hub_document.specs.declared.doc.Doc.{Doc}
use Rattle.hub_model.specs.Revision.{Revision}
use Rattle.hub_model.specs.declared.outcomes.Outcome.TheVariants as outcome
use Rattle.hub_database.specs.Database.{Database}
use Rattle.hub_database.specs.Edits.{NeedsRoom, one_draft_result}
use Rattle.hub_database.specs.declared.batch.DbFault.{DbFault}
use Rattle.hub_database.specs.declared.batch.DbFault.TheVariants.{NoMemory, Refused}

-- The answer is the revision that the database makes, or why it refuses the document. Out of memory is the
-- answer only of a database that stands, for a document that has a leaf and a generation left. A put of 1-b
-- where the leaf is 1-a is always answered as a conflict.
abbrev pub IsEditAnswer : Database → Doc → Result Revision DbFault → Type 0
IsEditAnswer db doc (Ok rev) =
    (one_draft_result db.deleted db.limits.journal db.journal doc).outcome ≡ outcome.Stored rev
IsEditAnswer db doc (Err (Refused fault)) =
    (one_draft_result db.deleted db.limits.journal db.journal doc).outcome ≡ outcome.Refused fault
IsEditAnswer db doc (Err NoMemory) = (db.deleted ≡ false) × NeedsRoom true db.journal doc
