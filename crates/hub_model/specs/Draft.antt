-- An edit whose revision the database makes (CouchDB API reference, PUT and DELETE of a document,
-- _bulk_docs).
use Rattle.std.specs.Prelude.{◌≡◌, ◌⊎◌, ◌≤◌, ◌<◌, length, ℕ, ◌+◌, List, [], ◌∷◌, ◌++◌, Bool, true, false}
use Rattle.std.specs.Prelude.{if◌then◌else◌, nat_le, Option, Some, None, slice_get, codes}
use Rattle.md5.specs.Md5.{md5}
use Rattle.hex.specs.Hex.{encode_lower}
use Rattle.json.specs.Print.{quoted}
use Rattle.hub_model.specs.Revision.{Revision, text_of}
use Rattle.hub_model.specs.Path.{IsFirst, names}
use Rattle.hub_model.specs.Journal.{Edit, IsKnown, is_known}
use Rattle.hub_model.specs.Leaves.{IsLeaf, IsMarked, IsWinner, Leaf, leaves_of, revisions_of}
use Rattle.hub_model.specs.Walk.{IsWalk, line_of}
use Rattle.hub_model.specs.declared.outcomes.Fault.TheVariants.{Conflict, GenerationLimit, SequenceFull}
use Rattle.hub_model.specs.declared.outcomes.Outcome.{Outcome}
use Rattle.hub_model.specs.declared.outcomes.Outcome.TheVariants.{Stored, Known, Refused}
use Rattle.hub_model.specs.Outcome.{Stores, refusal_result, addition_result}

-- an edit before its revision is made. `rev` names the leaf that the draft extends
pub record Draft : Type 0 where
  pub id : List ℕ
  pub rev : Option Revision
  pub deleted : Bool
  pub body : List ℕ

-- The path that a draft extends, if there is one. With a name it is the line of the named leaf. Without a
-- name the path is empty for an unknown document, and otherwise the line of a winner that is deleted. Take
-- the leaves 2-a, with 1-q behind it, and 1-z. The path is 2-a 1-q for the name 2-a. There is no path for the
-- name 1-q, which is no leaf, and none without a name, since the winner 2-a is not deleted.
abbrev pub extended_path : List Edit → List ℕ → List Leaf → Option Revision → Option (List Revision)
extended_path journal id leaves (Some rev) =
    if names (revisions_of leaves) rev then Some (line_of journal id rev) else None
extended_path journal id [] None = Some []
extended_path journal id (winner ∷ others) None =
    if winner.edit.deleted then Some (line_of journal id winner.rev) else None

-- the JSON text of a truth value
abbrev pub bool_text : Bool → List ℕ
bool_text false = codes "false"
bool_text true = codes "true"

-- the parent of a draft's revision: the first revision of the extended path, if there is one
abbrev pub parent_of : List Revision → Option Revision
parent_of path = slice_get path 0

-- the JSON text of the parent, `null` where there is none
abbrev pub parent_text : Option Revision → List ℕ
parent_text None = codes "null"
parent_text (Some revision) = quoted (text_of revision)

-- The text that this project hashes for a draft's revision: `[deleted,parent,id,body]`. For a new document x
-- with the body {} it is `[false,null,"x",{}]`. With the parent 1-a it is `[false,"1-a","x",{}]`.
abbrev pub draft_text : Draft → Option Revision → List ℕ
draft_text draft parent =
    codes "["
    ++ (bool_text draft.deleted
    ++ (codes ","
    ++ (parent_text parent ++ (codes "," ++ (quoted draft.id ++ (codes "," ++ (draft.body ++ codes "]")))))))

-- the generation of the parent, 0 where there is none
abbrev pub generation_of : Option Revision → ℕ
generation_of None = 0
generation_of (Some revision) = revision.generation

-- The revision of a draft with this parent. A new document x with the body {} gets
-- 1-6bb47d1c10868be9dedaf96db9579d8b. With the parent 1-a it gets 2-7c379ea93cbd7dfe02fff7e52e3793f7.
abbrev pub new_revision : Draft → Option Revision → Revision
new_revision draft parent =
    record { generation = generation_of parent + 1; hash = encode_lower (md5 (draft_text draft parent)) }

-- the edit that a draft becomes where it extends the path
abbrev pub edit_of : Draft → List Revision → Edit
edit_of draft path =
    record {
      id = draft.id;
      path = new_revision draft (parent_of path)
          ∷ path;
      deleted = draft.deleted;
      body = draft.body;
    }

-- the result of storing a draft that extends this path; a draft without a path is refused as a Conflict
abbrev pub draft_result_on : ℕ → List Edit → Draft → Option (List Revision) → Stores
draft_result_on limit journal draft None = refusal_result journal Conflict
draft_result_on limit journal draft (Some path) =
    if nat_le 65535 (generation_of (parent_of path)) then refusal_result journal GenerationLimit
    else if is_known journal draft.id (new_revision draft (parent_of path)) then refusal_result journal Conflict
    else addition_result limit journal (edit_of draft path)

-- The result of storing a draft: its outcome, and the journal after it. After an edit with the path 2-b 1-a a
-- draft that names 1-a is refused as a Conflict (proved: `WritesAnswer`). A draft that names 2-b is stored,
-- with a revision of generation 3.
abbrev pub draft_result : ℕ → List Edit → Draft → Stores
draft_result limit journal draft =
    draft_result_on limit journal draft (extended_path journal draft.id (leaves_of journal draft.id) draft.rev)

-- The draft extends a path, and the next generation is at most 65,535, so the draft's revision is to be made.
-- A draft without `_rev` extends a path where its document is unknown or the winner is deleted. It extends
-- none where the winner is not deleted.
abbrev pub HasNextRevision : List Edit → Draft → Type 0
HasNextRevision journal draft =
    (path : List Revision) × (extended_path journal draft.id (leaves_of journal draft.id) draft.rev ≡ Some path)
    × (generation_of (parent_of path) < 65535)

-- A draft that names this revision, or names none, extends the path. After an edit with the path 2-b 1-a the
-- path is 2-b 1-a for the name 2-b. There is none for the name 1-a, which is no leaf. Without a name the path
-- is 2-b 1-a where that edit deletes, and there is none where it does not.
abbrev pub Extends : List Edit → List ℕ → Option Revision → List Revision → Type 0
Extends journal id (Some revision) path =
    IsLeaf journal id revision × IsFirst path revision × IsWalk journal id path
Extends journal id None path =
    (((revision : Revision) → ¬ IsKnown journal id revision) × (path ≡ []))
    ⊎ ((revision : Revision) × IsWinner journal id revision × IsMarked journal id revision true
    × IsFirst path revision × IsWalk journal id path)

-- storing a draft as a relation: after `journal` the draft may have this outcome and leave the journal `new`
abbrev pub Makes : ℕ → List Edit → Draft → Outcome Revision → List Edit → Type 0
Makes limit journal draft (Stored r) new =
    (path : List Revision) × Extends journal draft.id draft.rev path
    × (generation_of (parent_of path) < 65535)
    × (r ≡ new_revision draft (parent_of path)) × (¬ IsKnown journal draft.id r) × (length journal < limit)
    × (new ≡ journal ++ edit_of draft path ∷ [])
Makes limit journal draft Known new = ⊥
Makes limit journal draft (Refused Conflict) new =
    (((path : List Revision) → ¬ Extends journal draft.id draft.rev path)
    ⊎ ((path : List Revision) × Extends journal draft.id draft.rev path
    × (generation_of (parent_of path) < 65535)
    × IsKnown journal draft.id (new_revision draft (parent_of path)))) × (new ≡ journal)
Makes limit journal draft (Refused GenerationLimit) new =
    (path : List Revision) × Extends journal draft.id draft.rev path
    × (65535 ≤ generation_of (parent_of path)) × (new ≡ journal)
Makes limit journal draft (Refused SequenceFull) new =
    (path : List Revision) × Extends journal draft.id draft.rev path
    × (generation_of (parent_of path) < 65535)
    × (¬ IsKnown journal draft.id (new_revision draft (parent_of path))) × (limit ≤ length journal) × (new ≡ journal)
Makes limit journal draft (Refused _) new = ⊥
