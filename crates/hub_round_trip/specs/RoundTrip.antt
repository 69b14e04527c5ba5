-- Reading a document and writing it undo each other (own).
use Rattle.std.specs.Prelude.{◌≡◌, ℕ, ◌^◌, ◌<◌, ◌≤◌, pos, negsuc, List, Bool, false, Option, is_some, not}
use Rattle.std.specs.Prelude.{slice_get, All, IsUtf8, Ok, ⊤}
use Rattle.std.specs.Option.{IfSome}
use Rattle.std.specs.Ordering.{nat_cmp}
use Rattle.std.specs.Cmp.Lexicographic.{slice_cmp}
use Rattle.std.specs.declared.cmp.Ordering.TheVariants.{Less}
use Rattle.hub_model.specs.Revision.{Revision, IsRevision}
use Rattle.hub_model.specs.Path.{IsHistory}
use Rattle.serde_json.specs.Data.{Num, unsigned, negative, float, Data, null, boolean, number, string, array}
use Rattle.serde_json.specs.Data.{object, Items, no_items, item, Members, no_members, member, depth}
use Rattle.serde_json.specs.Read.{max_depth}
use Rattle.serde_json.specs.Written.{compact_text}
use Rattle.hub_document.specs.BodyText.{is_hidden}
use Rattle.hub_document.specs.DocText.{doc_text}
use Rattle.hub_document.specs.Ids.{IsDocId}
use Rattle.hub_document.specs.Read.{doc_in}
use Rattle.hub_document.specs.declared.doc.Doc.{Doc}

-- a whole number of 64 bits
abbrev pub IsWhole : Num → Type 0
IsWhole (unsigned n) = n < 2 ^ 64
IsWhole (negative (pos n)) = ⊥
IsWhole (negative (negsuc n)) = n < 2 ^ 63
IsWhole (float x) = ⊥

-- each number is a whole number of 64 bits, and each text and key is UTF-8
abbrev mutual
  pub IsWritable : Data → Type 0
  IsWritable null = ⊤
  IsWritable (boolean b) = ⊤
  IsWritable (number n) = IsWhole n
  IsWritable (string s) = IsUtf8 s
  IsWritable (array ds) = AreWritable ds
  IsWritable (object ms) = AreWritableMembers ms

  pub AreWritable : Items → Type 0
  AreWritable no_items = ⊤
  AreWritable (item d ds) = IsWritable d × AreWritable ds

  pub AreWritableMembers : Members → Type 0
  AreWritableMembers no_members = ⊤
  AreWritableMembers (member k d ms) = IsUtf8 k × IsWritable d × AreWritableMembers ms

-- the key stands before each key of the members, in byte order
abbrev pub IsBefore : List ℕ → Members → Type 0
IsBefore k no_members = ⊤
IsBefore k (member l e ms) = (slice_cmp nat_cmp k l ≡ Less) × IsBefore k ms

-- the keys rise in byte order
abbrev pub DoKeysRise : Members → Type 0
DoKeysRise no_members = ⊤
DoKeysRise (member k d ms) = IsBefore k ms × DoKeysRise ms

-- the keys rise in each object of a value
abbrev mutual
  pub IsOrdered : Data → Type 0
  IsOrdered null = ⊤
  IsOrdered (boolean b) = ⊤
  IsOrdered (number n) = ⊤
  IsOrdered (string s) = ⊤
  IsOrdered (array ds) = AreOrdered ds
  IsOrdered (object ms) = DoKeysRise ms × AreOrderedMembers ms

  pub AreOrdered : Items → Type 0
  AreOrdered no_items = ⊤
  AreOrdered (item d ds) = IsOrdered d × AreOrdered ds

  pub AreOrderedMembers : Members → Type 0
  AreOrderedMembers no_members = ⊤
  AreOrderedMembers (member k d ms) = IsOrdered d × AreOrderedMembers ms

-- no key begins with `_`
abbrev pub AreOwn : Members → Type 0
AreOwn no_members = ⊤
AreOwn (member k d ms) = (is_hidden k ≡ false) × AreOwn ms

-- the compact text of an object of members that are a document's own, nested as deep as a reader goes
pub record IsBody (text : List ℕ) : Type 0 where
  pub members : Members
  pub text_is : text ≡ compact_text (object members)
  pub own : AreOwn members
  pub writable : AreWritableMembers members
  pub ordered : IsOrdered (object members)
  pub shallow : depth (object members) ≤ max_depth

-- a history of revisions within the limits, of which the document names the first
pub record IsPathOf (rev : Option Revision) (path : List Revision) : Type 0 where
  pub history : IsHistory path
  pub revisions : All IsRevision path
  pub head : slice_get path 0 ≡ rev

-- a document as readers make it
pub record IsDoc (doc : Doc) : Type 0 where
  pub id : IsDocId doc.id
  pub utf8 : IsUtf8 doc.id
  pub rev : IfSome doc.rev IsRevision
  pub path : IfSome doc.path (IsPathOf doc.rev)
  pub body : IsBody doc.body

-- a document that is read is such a document, and has a path where the edit was not made here
abbrev pub ReadsAreDocs : Type 0
ReadsAreDocs =
    (new_edits : Bool) (text : List ℕ) (doc : Doc) → doc_in new_edits text ≡ Ok doc
    → IsDoc doc × (is_some doc.path ≡ not new_edits)

-- the text of each such document reads as the document
abbrev pub DocsRead : Type 0
DocsRead = (doc : Doc) → IsDoc doc → doc_in (not (is_some doc.path)) (doc_text doc) ≡ Ok doc

-- so a document that is read, written and read again is the same
abbrev pub DocsReadBack : Type 0
DocsReadBack =
    (new_edits : Bool) (text : List ℕ) (doc : Doc) → doc_in new_edits text ≡ Ok doc
    → doc_in new_edits (doc_text doc) ≡ Ok doc
