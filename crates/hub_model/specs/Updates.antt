-- The log of the events of databases, and its rows (CouchDB API reference, _db_updates).
use Rattle.std.specs.Prelude.{◌≡◌, ℕ, List, [], ◌∷◌, map, length, Bool, false, nat_eq, if◌then◌else◌}
use Rattle.hub_model.specs.Journal.{Edit}
use Rattle.hub_model.specs.Current.{Current}
use Rattle.hub_model.specs.declared.feeds.Style.{Style}
use Rattle.hub_model.specs.declared.updates.UpdateKind.{UpdateKind}
use Rattle.hub_model.specs.declared.updates.UpdateKind.TheVariants.{Created, Updated, Deleted}

-- an event of the database with this name
pub record Note : Type 0 where
  pub kind : UpdateKind
  pub name : List ℕ

-- a letter for each kind: c, u and d
abbrev pub letter_of : UpdateKind → ℕ
letter_of Created = 99
letter_of Updated = 117
letter_of Deleted = 100

-- The id of the document of a note. Of notes with one id only the last has a current row. The creation of d
-- has the id cd, and the deletion of d has the id dd.
abbrev pub id_of : Note → List ℕ
id_of note = letter_of note.kind ∷ note.name

-- a note as an edit of the document with its id; the other members of the edit say nothing
abbrev pub edit_of : Note → Edit
edit_of note = record { id = id_of note; path = []; deleted = false; body = [] }

-- The notes of a log as edits: the current rows of these edits are the rows of the log. Where d was created,
-- updated, deleted and created again, they are updated at 2, deleted at 3 and created at 4. The first
-- creation has no row any more (proved: `UpdatesAgain`).
abbrev pub edits_of_log : List Note → List Edit
edits_of_log notes = map edit_of notes

-- the kind of a letter; a letter of no kind counts as Deleted
abbrev pub kind_of : ℕ → UpdateKind
kind_of letter = if nat_eq letter 99 then Created else if nat_eq letter 117 then Updated else Deleted

-- the note with this id; the empty id, which no note has, counts as a deletion with an empty name
abbrev pub note_of : List ℕ → Note
note_of [] = record { kind = Deleted; name = [] }
note_of (letter ∷ name) = record { kind = kind_of letter; name = name }

-- a row of the log. `seen` is the number of notes when the row was made
pub record UpdateRow : Type 0 where
  pub db_name : List ℕ
  pub kind : UpdateKind
  pub seq : ℕ
  pub seen : ℕ

-- The row that shows a current row of the log's edits; the style and the wish for documents change nothing.
-- Of four notes the note at 3 with the id dd is shown as Deleted of d, with seq 3 and seen 4 (proved:
-- `UpdatesAgain`).
abbrev pub update_row_of : List Edit → Style → Bool → Current → UpdateRow
update_row_of edits style include_docs row = record {
  db_name = (note_of row.id).name;
  kind = (note_of row.id).kind;
  seq = row.seq;
  seen = length edits;
}

-- a note is read back from its id
abbrev pub NotesReadBack : Type 0
NotesReadBack = (note : Note) → note_of (id_of note) ≡ note
