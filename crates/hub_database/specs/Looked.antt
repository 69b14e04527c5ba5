-- A look at a document's tree for an edit, and the state after the write of that edit (own).
use Rattle.std.specs.Prelude.{◌≡◌, ◌+◌, ◌≤◌, ℕ, List, [], ◌∷◌, ◌++◌, length, Bool, true, if◌then◌else◌}
use Rattle.std.specs.Prelude.{nat_le, Option, Some, Result, Ok, Err, IfOk, OnErr, unwrap_or}
use Rattle.std.specs.Map.{update}
use Rattle.std.specs.Str.{bytes_eq}
use Rattle.std.specs.declared.alloc.AllocError.{AllocError}
use Rattle.hub_model.specs.Revision.{Revision}
use Rattle.hub_model.specs.Journal.{Edit, IsAcceptable, head_of, is_head_known, is_acceptable}
use Rattle.hub_model.specs.declared.outcomes.Fault.TheVariants as fault
use Rattle.hub_model.specs.declared.outcomes.Outcome.{Outcome}
use Rattle.hub_model.specs.declared.outcomes.Outcome.TheVariants as outcome
use Rattle.hub_model.specs.Outcome.{Stores, merge_result}
use Rattle.hub_model.specs.Draft.{HasNextRevision, draft_result}
use Rattle.hub_index.specs.Rows.{rows_after_move}
use Rattle.hub_revtree.specs.Extend.{draft, edit_of_draft}
use Rattle.hub_revtree.specs.Tree.{IsRevTree, Tree, nameless}
use Rattle.hub_revtree.specs.declared.fault.EditFault.{EditFault}
use Rattle.hub_revtree.specs.declared.fault.EditFault.TheVariants as edit_fault
use Rattle.hub_database.specs.Filed.{FiledDocument, edit_with_id}
use Rattle.hub_database.specs.declared.entry.Entry.{Entry}
use Rattle.hub_database.specs.declared.document.Incoming.{Incoming}
use Rattle.hub_database.specs.declared.document.Origin.{Origin}
use Rattle.hub_database.specs.declared.document.Origin.TheVariants.{Elsewhere, Here}
use Rattle.hub_database.specs.declared.document.Looked.{Looked}
use Rattle.hub_database.specs.declared.document.Looked.TheVariants.{Known, Refused, Ready}

-- The outcome of storing an edit of the document, and the journal after it. An edit that comes with its
-- history is merged, and an edit that is made here gets its revision.
abbrev pub stores_from : ℕ → List Edit → List ℕ → Origin → Bool → List ℕ → Stores
stores_from limit journal id (Elsewhere path) deleted body =
    merge_result limit journal (edit_with_id id (nameless path deleted body))
stores_from limit journal id (Here rev) deleted body = draft_result limit journal (draft id rev deleted body)

-- the outcome of storing an incoming edit of the document, and the journal after it
abbrev pub stores_edit : ℕ → List Edit → List ℕ → Incoming → Stores
stores_edit limit journal id edit = stores_from limit journal id edit.origin edit.deleted edit.body

-- ---- looks

-- the look at an edit with its history, by whether its head is known, and whether the edits may take it
abbrev pub look_by : Edit → Bool → Bool → Looked
look_by edit known acceptable =
    if known then Known else if acceptable then Ready edit else Refused fault.Contradicts

-- the look at an edit that is made here, by the made edit or the fault
abbrev pub look_made : Result Edit EditFault → Looked
look_made (Ok e) = Ready e
look_made (Err edit_fault.GenerationLimit) = Refused fault.GenerationLimit
look_made (Err _) = Refused fault.Conflict

-- the look at an edit after these edits of its document, whose id is left out
abbrev pub look_from : List ℕ → List Edit → Origin → Bool → List ℕ → Looked
look_from id edits (Elsewhere path) deleted body =
    look_by (nameless path deleted body) (is_head_known edits [] path)
    (is_acceptable edits (nameless path deleted body))
look_from id edits (Here rev) deleted body = look_made (edit_of_draft edits (draft id rev deleted body))

-- the look at an incoming edit after these edits of its document
abbrev pub look_at : List ℕ → List Edit → Incoming → Looked
look_at id edits edit = look_from id edits edit.origin edit.deleted edit.body

-- the look where the journal is full, or is not: a full journal takes no edit, but a known edit stays
-- known, and a refused one keeps its fault
abbrev pub unless_full : Bool → Looked → Looked
unless_full true (Ready e) = Refused fault.SequenceFull
unless_full full looked = looked

-- an edit that is to be stored may stand after these edits, its id left out
abbrev pub IsStorable : List Edit → Looked → Type 0
IsStorable edits (Ready e) = (e.id ≡ []) × IsAcceptable edits e
IsStorable edits looked = Unit {0}

-- a tree with room for so many revisions has room for an edit that is to be stored
abbrev pub HasRoom : ℕ → Looked → Type 0
HasRoom room (Ready e) = length e.path ≤ room
HasRoom room looked = Unit {0}

-- Storing an edit of the document takes memory. An edit with its history may be stored, or an edit that is
-- made here has a leaf to extend and a generation left.
abbrev pub NeedsRoomFrom : List Edit → List ℕ → Origin → Bool → List ℕ → Type 0
NeedsRoomFrom journal id (Elsewhere path) deleted body =
    IsAcceptable journal (edit_with_id id (nameless path deleted body))
NeedsRoomFrom journal id (Here rev) deleted body = HasNextRevision journal (draft id rev deleted body)

-- storing an incoming edit of the document takes memory
abbrev pub NeedsRoomFor : List Edit → List ℕ → Incoming → Type 0
NeedsRoomFor journal id edit = NeedsRoomFrom journal id edit.origin edit.deleted edit.body

-- A look at a document's tree for an incoming edit, where the journal is full or is not. It leaves the
-- tree's edits as they were, and its result is that of `look_at`, by `unless_full`. A tree has room then
-- for an edit that is to be stored. Memory runs out only where storing the edit takes some. So a look at an
-- edit whose revision is known never fails, and leaves the tree's edits.
pub record IsLook (id : List ℕ) (full : Bool) (edit : Incoming) (before after : Tree)
    (result : Result Looked AllocError) : Type 0 where
  pub edits : after.edits ≡ before.edits
  pub tree : IsRevTree before.edits
  pub looked : IfOk result (λ looked. looked ≡ unless_full full (look_at id before.edits edit))
  pub storable : IfOk result (IsStorable before.edits)
  pub room : IfOk result (HasRoom after.room)
  pub memory : OnErr result (NeedsRoomFor before.edits [] edit)

-- the outcome of a write, by the look at its edit
abbrev pub outcome_of : Looked → Outcome Revision
outcome_of Known = outcome.Known
outcome_of (Refused f) = outcome.Refused f
outcome_of (Ready e) = outcome.Stored (unwrap_or (head_of e) (record { generation = 0; hash = [] }))

-- ---- the state after a write

-- the parts that a write changes: the document with its number, the journal's entries, the rows by sequence
pub record Setting : Type 0 where
  pub number : ℕ
  pub document : FiledDocument
  pub entries : List Entry
  pub rows : List (ℕ × ℕ)

-- the look at an incoming edit in a setting, with this limit of the journal
abbrev pub look_in : ℕ → Setting → Incoming → Looked
look_in limit setting edit =
    unless_full (nat_le limit (length setting.entries))
    (look_at setting.document.id setting.document.edits edit)

-- The definitions below give the things that a write may change as they are after it, by the look at its
-- edit. Only Ready changes anything. Let document 3 have two edits, and the journal seven entries. Ready
-- leaves a document of three edits with the latest sequence 8, and an eighth entry, which names edit 2 of
-- document 3. The row of document 3 is then at sequence 8 alone.

-- the document: an edit that is stored is its latest
abbrev pub document_after : Looked → Setting → FiledDocument
document_after (Ready e) setting =
    record {
      id = setting.document.id;
      latest = length setting.entries + 1;
      edits = setting.document.edits
          ++ e ∷ [];
    }
document_after looked setting = setting.document

-- the entries: the last entry is that of the edit that is stored
abbrev pub entries_after : Looked → Setting → List Entry
entries_after (Ready e) setting =
    setting.entries ++ record { document = setting.number; revision = length setting.document.edits } ∷ []
entries_after looked setting = setting.entries

-- the rows: the document's row is the last, at the sequence of the edit that is stored
abbrev pub rows_after : Looked → Setting → List (ℕ × ℕ)
rows_after (Ready e) setting = rows_after_move setting.rows setting.number (length setting.entries + 1)
rows_after looked setting = setting.rows

-- the journal: the edit that is stored stands last, with its document's id
abbrev pub journal_after : Looked → List ℕ → List Edit → List Edit
journal_after (Ready e) id journal = journal ++ edit_with_id id e ∷ []
journal_after looked id journal = journal

-- the documents: the document of a first edit that is stored stands last
abbrev pub documents_after : Looked → Setting → List FiledDocument → List FiledDocument
documents_after (Ready e) setting documents = documents ++ document_after (Ready e) setting ∷ []
documents_after looked setting documents = documents

-- the numbers by id: the document of a first edit that is stored has this number
abbrev pub numbers_after : Looked → List ℕ → ℕ → (List ℕ → Option ℕ) → List ℕ → Option ℕ
numbers_after (Ready e) id number numbers = update bytes_eq numbers id (Some number)
numbers_after looked id number numbers = numbers

-- An edit of a document that was there was written. The write answers the look's outcome, and leaves the
-- document, the entries and the rows that follow from the look.
pub record IsWritten (look : Looked) (before after : Setting) (reply : Outcome Revision) : Type 0 where
  pub answer : reply ≡ outcome_of look
  pub document : after.document ≡ document_after look before
  pub entries : after.entries ≡ entries_after look before
  pub rows : after.rows ≡ rows_after look before
  pub storable : IsStorable before.document.edits look
