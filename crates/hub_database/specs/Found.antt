-- A document of a database, and the edits that its tree shows (own).
use Rattle.std.specs.Prelude.{◌≡◌, ℕ, List, [], map, Bool, Option, option_map, if◌then◌else◌, Some, None}
use Rattle.hub_model.specs.Revision.{Revision}
use Rattle.hub_model.specs.Journal.{Edit, edits_of}
use Rattle.hub_model.specs.Missing.{RevisionsOfDoc, Diff, diff_of, is_wanted}
use Rattle.hub_model.specs.Walk.{shown_edit}
use Rattle.hub_revtree.specs.Extend.{path_to}
use Rattle.hub_database.specs.declared.document.Document.{Document}
use Rattle.hub_database.specs.Filed.{edit_with_id}

-- the document has the id, and its tree the journal's edits with this id, the id left out
pub record IsFound (journal : List Edit) (id : List ℕ) (document : Document) : Type 0 where
  pub same : document.id ≡ id
  pub kept : edits_of journal id ≡ map (edit_with_id id) document.tree.edits
  pub one : edits_of document.tree.edits [] ≡ document.tree.edits

-- the edit that a document shows for a revision, if any
abbrev pub shown_in : Document → Revision → Option Edit
shown_in document revision = option_map (edit_with_id document.id) (shown_edit document.tree.edits [] revision)

-- the same, where there may be no document
abbrev pub shown_if_any : Option Document → Revision → Option Edit
shown_if_any None revision = None
shown_if_any (Some document) revision = shown_in document revision

-- the revisions that a document which is asked for misses, where it misses any
abbrev pub wanted_diff : List Edit → RevisionsOfDoc → Option Diff
wanted_diff journal asked = if is_wanted (diff_of journal asked) then Some (diff_of journal asked) else None

-- a known revision and all that stands behind it, where its history is asked for
abbrev pub history_of : Bool → List Edit → Revision → Option (List Revision)
history_of revs edits revision = if revs then path_to edits revision else None
