-- The documents of a database with their trees, and the journal that they make up (own).
use Rattle.std.specs.Prelude.{◌≡◌, ℕ, ◌<◌, ◌≤◌, List, [], length, map, slice_get, get_or, false, Option, Some}
use Rattle.std.specs.Prelude.{None}
use Rattle.hub_index.specs.Order.{number_in}
use Rattle.hub_model.specs.Journal.{Edit, IsLegal, edits_of}
use Rattle.hub_model.specs.Current.{current}
use Rattle.hub_database.specs.declared.entry.Entry.{Entry}

-- a document: its id, the sequence of its latest edit, and its edits with their id left out
pub record FiledDocument : Type 0 where
  pub id : List ℕ
  pub latest : ℕ
  pub edits : List Edit

-- the documents' ids, by number
abbrev pub ids_of : List FiledDocument → List (List ℕ)
ids_of documents = map (λ (filed : FiledDocument). filed.id) documents

-- the edit with this id
abbrev pub edit_with_id : List ℕ → Edit → Edit
edit_with_id id edit = record { id = id; path = edit.path; deleted = edit.deleted; body = edit.body }

abbrev pub no_edit : Edit
no_edit = record { id = []; path = []; deleted = false; body = [] }

-- the edit of this number of a document
abbrev pub edit_in : Option FiledDocument → ℕ → Edit
edit_in None revision = no_edit
edit_in (Some document) revision = edit_with_id document.id (get_or document.edits revision no_edit)

-- the edit that an entry stands for
abbrev pub edit_at : List FiledDocument → Entry → Edit
edit_at documents entry = edit_in (slice_get documents entry.document) entry.revision

-- the journal that documents and entries make up
abbrev pub journal_of : List FiledDocument → List Entry → List Edit
journal_of documents entries = map (edit_at documents) entries

-- each document is found by its id
abbrev pub HasNumbers : List FiledDocument → List ℕ → Type 0
HasNumbers documents numbers =
    (k : ℕ) (filed : FiledDocument) → slice_get documents k ≡ Some filed
    → number_in (ids_of documents) numbers filed.id ≡ Some k

-- The invariant of the documents, of their numbers by id, and of the entries. Just the ids of documents
-- have numbers, and a document has the journal's edits with its id. The journal is legal.
pub record IsFiled (limit : ℕ) (numbers : List ℕ
    → Option ℕ) (documents : List FiledDocument) (entries : List Entry) : Type 0 where
  pub found : (id : List ℕ) (k : ℕ) → numbers id ≡ Some k
      → (filed : FiledDocument) × (slice_get documents k ≡ Some filed) × (filed.id ≡ id)
  pub own : (k : ℕ) (filed : FiledDocument) → slice_get documents k ≡ Some filed → numbers filed.id ≡ Some k
  pub kept : (k : ℕ) (filed : FiledDocument) → slice_get documents k ≡ Some filed
      → edits_of (journal_of documents entries) filed.id ≡ map (edit_with_id filed.id) filed.edits
  pub others : (id : List ℕ) → numbers id ≡ None → edits_of (journal_of documents entries) id ≡ []
  pub within : (i : ℕ) (x : Entry) → slice_get entries i ≡ Some x
      → (filed : FiledDocument) × (slice_get documents x.document ≡ Some filed) × (x.revision < length filed.edits)
  pub legal : IsLegal (journal_of documents entries)
  pub count : length entries ≤ limit
  pub fewer : length documents ≤ length entries
  pub one : (k : ℕ) (filed : FiledDocument) → slice_get documents k ≡ Some filed
      → edits_of filed.edits [] ≡ filed.edits
  pub some : (k : ℕ) (filed : FiledDocument) → slice_get documents k ≡ Some filed → 1 ≤ length filed.edits
  pub each : length documents ≡ length (current (journal_of documents entries))
