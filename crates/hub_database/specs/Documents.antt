-- Documents by number, and their count (own).
use Rattle.std.specs.Prelude.{ℕ, List, [], map, count_by, Bool, true, false, Option}
use Rattle.hub_model.specs.Current.{current}
use Rattle.hub_model.specs.Journal.{Edit}
use Rattle.hub_model.specs.Leaves.{leaves_of}
use Rattle.hub_model.specs.Row.{ChangeRow, changes_of, is_deleted}
use Rattle.hub_model.specs.declared.feeds.Style.{Style}
use Rattle.hub_database.specs.Filed.{FiledDocument}
use Rattle.hub_database.specs.Looked.{Setting}
use Rattle.hub_database.specs.declared.document.Document.{Document}
use Rattle.hub_database.specs.declared.entry.Entry.{Entry}

-- a document without the room of its tree
abbrev pub filed_document : Document → FiledDocument
filed_document document = record { id = document.id; latest = document.latest; edits = document.tree.edits }

-- documents without the rooms of their trees
abbrev pub files : List Document → List FiledDocument
files documents = map filed_document documents

-- the number of documents of a journal that have a deleted winner
abbrev pub deleted_in : List Edit → ℕ
deleted_in journal = count_by (λ c. is_deleted (leaves_of journal c.id)) (current journal)

-- 1 for true and 0 for false
abbrev pub one_if : Bool → ℕ
one_if true = 1
one_if false = 0

-- the setting of a write to this document
abbrev pub setting_of : ℕ → Document → List Entry → List (ℕ × ℕ) → Setting
setting_of number document entries rows =
    record { number = number; document = filed_document document; entries = entries; rows = rows }

-- a document before its first edit
abbrev pub unwritten_document : List ℕ → FiledDocument
unwritten_document id = record { id = id; latest = 0; edits = [] }

-- The row at this sequence of a document with this id and these edits, with these members, made while there
-- are `seen` edits.
abbrev pub made_row : ℕ → List ℕ → List Edit → Style → Option (List ℕ) → ℕ → ChangeRow
made_row seq id edits style doc seen = record {
  seq = seq;
  id = id;
  changes = changes_of style (leaves_of edits []);
  deleted = is_deleted (leaves_of edits []);
  doc = doc;
  seen = seen;
}
