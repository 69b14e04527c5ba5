-- The tree of one document, seen as the journal of its edits (CouchDB API reference, document revisions and
-- conflicts).
use Rattle.std.specs.Prelude.{◌≡◌, ◌≤◌, ℕ, List, [], Bool, IfOk, Option, Result, Some, length}
use Rattle.hub_model.specs.Revision.{Revision}
use Rattle.hub_model.specs.Path.{IsFirst}
use Rattle.hub_model.specs.Journal.{Edit, IsAcceptable, IsKnown, IsLegal, edits_of, head_of}
use Rattle.hub_revtree.specs.declared.fault.MergeFault.{MergeFault}
use Rattle.hub_revtree.specs.declared.fault.MergeFault.TheVariants.{Contradicts, NoMemory}

-- the edits of the document, its id left out, in the order in which they were taken; and the number of
-- further revisions that the tree has memory for
pub record Tree : Type 0 where
  pub edits : List Edit
  pub room : ℕ

-- the edits of a tree are a legal journal, and all of the document whose id is left out
pub record IsRevTree (edits : List Edit) : Type 0 where
  pub legal : IsLegal edits
  pub one : edits_of edits [] ≡ edits

-- an edit whose document's id is left out
abbrev pub nameless : List Revision → Bool → List ℕ → Edit
nameless path deleted body = record { id = []; path = path; deleted = deleted; body = body }

-- a look changes no edit, and an edit that it makes ready is this one, for which the tree has memory
pub record MakesReady {E : Type 0} (before after : Tree) (edit : Edit) (result : Result Edit E) : Type 0 where
  pub edits : after.edits ≡ before.edits
  pub ready : IfOk result (λ ready. ready ≡ edit)
  pub room : IfOk result (λ ready. length ready.path ≤ after.room)

-- the part of an edit that a tree lends: its revision, whether it deletes the document, and its members
pub record Tip : Type 0 where
  pub rev : Option Revision
  pub deleted : Bool
  pub body : List ℕ

-- the tip of an edit
abbrev pub tip_of : Edit → Tip
tip_of edit = record { rev = head_of edit; deleted = edit.deleted; body = edit.body }

-- the tip of an edit with this revision, mark and members
abbrev pub tip : Revision → Bool → List ℕ → Tip
tip rev deleted body = record { rev = Some rev; deleted = deleted; body = body }

-- the first revision of the path is known
abbrev pub HasKnownHead : List Edit → List Revision → Type 0
HasKnownHead edits path = (revision : Revision) × IsFirst path revision × IsKnown edits [] revision

-- The reason why an edit is not merged after these edits. Contradicts: its revision is unknown, and the edit
-- is not acceptable. NoMemory: the edit is acceptable, and memory for it was not to be had.
abbrev pub IsMergeFault : List Edit → Edit → MergeFault → Type 0
IsMergeFault edits edit Contradicts = (¬ HasKnownHead edits edit.path) × (¬ IsAcceptable edits edit)
IsMergeFault edits edit NoMemory = IsAcceptable edits edit
