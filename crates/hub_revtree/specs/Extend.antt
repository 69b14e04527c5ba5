-- The edit that a draft becomes in a tree (CouchDB API reference, PUT and DELETE of a document).
use Rattle.std.specs.Prelude.{ℕ, List, [], ◌∷◌, Bool, if◌then◌else◌, nat_le, Option, Some, None, Result, Ok}
use Rattle.std.specs.Prelude.{Err, ◌≡◌, unwrap_or}
use Rattle.hub_model.specs.Revision.{Revision}
use Rattle.hub_model.specs.Journal.{Edit, is_known}
use Rattle.hub_model.specs.Leaves.{leaves_of}
use Rattle.hub_model.specs.Walk.{line_of}
use Rattle.hub_model.specs.Draft.{Draft, HasNextRevision, extended_path, generation_of}
use Rattle.hub_model.specs.Draft.{new_revision, parent_of}
use Rattle.hub_revtree.specs.Tree.{nameless}
use Rattle.hub_revtree.specs.declared.fault.EditFault.{EditFault}
use Rattle.hub_revtree.specs.declared.fault.EditFault.TheVariants.{Conflict, GenerationLimit, NoMemory}

-- an edit before its revision is made
abbrev pub draft : List ℕ → Option Revision → Bool → List ℕ → Draft
draft id rev deleted body = record { id = id; rev = rev; deleted = deleted; body = body }

-- the edit that a draft becomes on this path, its id left out; or the fault for which it becomes none
abbrev pub edit_on_path : List Edit → Draft → Option (List Revision) → Result Edit EditFault
edit_on_path edits draft None = Err Conflict
edit_on_path edits draft (Some path) =
    if nat_le 65535 (generation_of (parent_of path)) then Err GenerationLimit
    else (if is_known edits [] (new_revision draft (parent_of path)) then Err Conflict
    else Ok (nameless (new_revision draft (parent_of path) ∷ path) draft.deleted draft.body))

-- the edit that a draft becomes after these edits of its document, on the path that it extends
abbrev pub edit_of_draft : List Edit → Draft → Result Edit EditFault
edit_of_draft edits draft = edit_on_path edits draft (extended_path edits [] (leaves_of edits []) draft.rev)

-- The reason why no edit is made of a draft after these edits of its document. NoMemory: the draft has a next
-- revision, and memory for its edit was not to be had. Another fault is that of `edit_of_draft`.
abbrev pub IsEditFault : List Edit → Draft → EditFault → Type 0
IsEditFault edits this NoMemory = HasNextRevision edits (draft [] this.rev this.deleted this.body)
IsEditFault edits this fault = edit_of_draft edits this ≡ Err fault

-- a revision and all revisions behind it, where it is known
abbrev pub path_to : List Edit → Revision → Option (List Revision)
path_to edits revision = if is_known edits [] revision then Some (line_of edits [] revision) else None

-- the same of a revision that may be missing, as a list: empty without a revision, and where it is unknown
abbrev pub line_to : List Edit → Option Revision → List Revision
line_to edits None = []
line_to edits (Some revision) = unwrap_or (path_to edits revision) []
