-- The fields of a database's contents: its documents by number, its journal and its rows (own).
use Rattle.std.specs.Prelude.{◌≡◌, ◌+◌, ℕ, List, length, [], Option}
use Rattle.hub_index.specs.Order.{IsOrder, number_in}
use Rattle.hub_model.specs.Journal.{Edit}
use Rattle.hub_model.specs.Leaves.{leaves_of}
use Rattle.hub_model.specs.Row.{is_deleted}
use Rattle.hub_model.specs.Revision.{Revision}
use Rattle.hub_model.specs.declared.outcomes.Outcome.{Outcome}
use Rattle.hub_database.specs.Documents.{files, deleted_in, one_if, unwritten_document}
use Rattle.hub_database.specs.Looked.{Setting, IsStorable, outcome_of, document_after, documents_after}
use Rattle.hub_database.specs.Looked.{entries_after, rows_after, numbers_after}
use Rattle.hub_database.specs.declared.document.Looked.{Looked}
use Rattle.hub_database.specs.declared.contents.Contents.TheInside.{Inside}
use Rattle.hub_database.specs.Filed.{IsFiled, ids_of, journal_of}
use Rattle.hub_database.specs.Indexed.{IsIndexed}

-- the journal of the contents
abbrev pub edits_inside : Inside → List Edit
edits_inside inside = journal_of (files inside.documents.items) inside.journal.items

-- the ids of the documents, by number
abbrev pub ids_in : Inside → List (List ℕ)
ids_in inside = ids_of (files inside.documents.items)

-- the number of the document with this id
abbrev pub number_by : Inside → List ℕ → Option ℕ
number_by inside id = number_in (ids_in inside) inside.numbers id

-- the documents are filed by their numbers, and the numbers stand in the order of the ids
pub record HasDocuments (inside : Inside) : Type 0 where
  pub filed : IsFiled inside.limits.journal (number_by inside) (files inside.documents.items)
      inside.journal.items
  pub order : IsOrder (ids_in inside) inside.numbers

-- the count of documents with a deleted winner is that of the journal
abbrev pub IsCounted : Inside → Type 0
IsCounted inside = inside.deleted ≡ deleted_in (edits_inside inside)

-- the rows are the journal's current rows
abbrev pub HasRows : Inside → Type 0
HasRows inside = IsIndexed (files inside.documents.items) inside.journal.items inside.index

-- the invariant of a database's contents
pub record IsWhole (inside : Inside) : Type 0 where
  pub documents : HasDocuments inside
  pub counted : IsCounted inside
  pub rows : HasRows inside

-- both have the same documents, numbers, entries, count and rows
pub record ShowsSame (old new : Inside) : Type 0 where
  pub documents : files new.documents.items ≡ files old.documents.items
  pub numbers : new.numbers ≡ old.numbers
  pub journal : new.journal.items ≡ old.journal.items
  pub deleted : new.deleted ≡ old.deleted
  pub index : new.index ≡ old.index

-- The setting of a write of a document's first edit: the document comes after the others. After three
-- documents, with the numbers 0, 1 and 2, it is document 3.
abbrev pub first_setting : List ℕ → Inside → Setting
first_setting id inside =
    record {
      number = length inside.documents.items;
      document = unwritten_document id;
      entries = inside.journal.items;
      rows = inside.index;
    }

-- The first edit of a document was written. The write answers the look's outcome. Where the edit is stored,
-- the document stands after the others, is found by its id, and is counted if it is deleted.
pub record IsInserted (id : List ℕ) (look : Looked) (old new : Inside) (reply : Outcome Revision) : Type 0
  where
    pub answer : reply ≡ outcome_of look
    pub files : files new.documents.items
        ≡ documents_after look (first_setting id old) (files old.documents.items)
    pub entries : new.journal.items ≡ entries_after look (first_setting id old)
    pub rows : new.index ≡ rows_after look (first_setting id old)
    pub numbers : (q : List ℕ)
        → number_by new q ≡ numbers_after look id (length old.documents.items) (number_by old) q
    pub order : IsOrder (ids_in new) new.numbers
    pub deleted : new.deleted
        ≡ old.deleted + one_if (is_deleted (leaves_of (document_after look (first_setting id old)).edits []))
    pub storable : IsStorable [] look
