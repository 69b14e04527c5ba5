-- Receipts of accepted edits (own).
use Rattle.std.specs.Prelude.{◌≡◌, ℕ, ◌+◌, ◌<◌, ◌&&◌, List, [], ◌∷◌, ◌++◌, All, length, map, take, slice_get}
use Rattle.std.specs.Prelude.{Bool, false, Option, Some, None, Result, Ok, Err, IfSome, ⊤}
use Rattle.std.specs.Str.{bytes_eq}
use Rattle.hub_model.specs.Journal.{Edit, head_of}
use Rattle.hub_model.specs.Revision.{Revision, is_same}
use Rattle.hub_model.specs.declared.outcomes.Outcome.{Outcome}
use Rattle.hub_model.specs.declared.outcomes.Outcome.TheVariants.{Stored, Known, Refused}
use Rattle.hub_document.specs.declared.doc.Doc.{Doc}
use Rattle.hub_database.specs.Reads.{entry_of}
use Rattle.hub_database.specs.declared.receipt.Receipt.{Receipt}
use Rattle.hub_database.specs.declared.receipt.AuditFault.{AuditFault}
use Rattle.hub_database.specs.declared.receipt.AuditFault.TheVariants.{WrongReceipt}

-- the ids of documents
abbrev pub ids_of : List Doc → List (List ℕ)
ids_of docs = map (λ (doc : Doc). doc.id) docs

-- the receipt of a document with this id and this reply, after n edits: none where it was not stored
abbrev pub receipt_if : ℕ → List ℕ → Outcome Revision → List Receipt
receipt_if n id (Stored rev) = record { seq = n + 1; id = id; rev = rev } ∷ []
receipt_if n id Known = []
receipt_if n id (Refused fault) = []

-- the number of edits after a document with this reply, where there were n before it
abbrev pub behind_reply : ℕ → Outcome Revision → ℕ
behind_reply n (Stored rev) = n + 1
behind_reply n Known = n
behind_reply n (Refused fault) = n

-- The receipts of documents with these ids and replies, the first after n edits: one for each that was
-- stored. Where n is 5, and the second of three is refused, the sequences are 6 and 7.
abbrev pub receipts_from : ℕ → List (List ℕ) → List (Outcome Revision) → List Receipt
receipts_from n [] replies = []
receipts_from n (id ∷ ids) [] = []
receipts_from n (id ∷ ids) (reply ∷ replies) =
    receipt_if n id reply ++ receipts_from (behind_reply n reply) ids replies

-- These are the receipts of these edits, the first of which stands after n others. After 5 others, edits of
-- a with 1-p and of b with 1-q have the receipts (6, a, 1-p) and (7, b, 1-q).
abbrev pub AreReceipts : ℕ → List Edit → List Receipt → Type 0
AreReceipts n [] [] = ⊤
AreReceipts n [] (receipt ∷ receipts) = ⊥
AreReceipts n (edit ∷ edits) [] = ⊥
AreReceipts n (edit ∷ edits) (receipt ∷ receipts) =
    (receipt.seq ≡ n + 1) × (receipt.id ≡ edit.id) × (head_of edit ≡ Some receipt.rev)
    × AreReceipts (n + 1) edits receipts

-- just the edits of these receipts were added to the journal. Where journal has 5 edits, and the receipts
-- have the sequences 6 and 7, other_journal has 7 edits, of which the last two are those of the receipts.
abbrev pub AreAdded : List Edit → List Edit → List Receipt → Type 0
AreAdded journal other_journal receipts =
    (edits : List Edit) × (other_journal ≡ journal ++ edits) × AreReceipts (length journal) edits receipts

-- the sequences of the receipts rise, the first above this number: above 5 such as 6, 7 and 9
abbrev pub AreRising : ℕ → List Receipt → Type 0
AreRising n [] = ⊤
AreRising n (receipt ∷ receipts) = (n < receipt.seq) × AreRising receipt.seq receipts

-- whether an entry has the id and the revision of the receipt
abbrev pub is_entry_of : Option (List ℕ × Revision) → Receipt → Bool
is_entry_of None receipt = false
is_entry_of (Some entry) receipt = bytes_eq entry.0 receipt.id && is_same entry.1 receipt.rev

-- Whether the journal has the receipt's edit, at its sequence. After edits of a, b and then a again, where
-- b has 1-q, it has (2, b, 1-q), and neither (3, b, 1-q) nor (2, b, 2-q).
abbrev pub has_edit : List Edit → Receipt → Bool
has_edit journal receipt = is_entry_of (entry_of journal receipt.seq) receipt

-- the journal has the receipt's edit, at its sequence
abbrev pub HasEdit : List Edit → Receipt → Type 0
HasEdit journal receipt = entry_of journal receipt.seq ≡ Some (receipt.id, receipt.rev)

-- The result of an audit. Ok: the journal has the edit of each receipt. Err: it lacks the edit of the receipt
-- at this place, and has those before. Of three receipts whose second has a wrong revision, the place is 1.
abbrev pub IsAudit : List Edit → List Receipt → Result (Unit {0}) AuditFault → Type 0
IsAudit journal receipts (Ok all) = All (λ r. HasEdit journal r) receipts
IsAudit journal receipts (Err (WrongReceipt at)) =
    All (λ r. HasEdit journal r) (take at receipts)
    × IfSome (slice_get receipts at) (λ r. ¬ HasEdit journal r) × (at < length receipts)
