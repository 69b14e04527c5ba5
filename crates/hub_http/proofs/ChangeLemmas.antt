-- The texts of rows of changes.
use Rattle.std.proofs.Common.{◌≡◌, ℕ, ◌≤◌, List, [], ◌∷◌, ◌++◌, ◌+◌, length, map, take, drop, take_all}
use Rattle.std.proofs.Common.{sym, ap, ◌∙◌, arith, append_assoc, append-nil, codes, decimal, Some, None, false}
use Rattle.std.proofs.Common.{Result, Ok, Err}
use Rattle.hub_document.specs.Appends.{Appends}
use Rattle.hub_document.proofs.AppendLemmas.{appended, front_by}
use Rattle.std.specs.List.{flat_map, join_with_byte}
use lib.Seq.{take-append-add, drop-append-add}
use Rattle.hub_model.specs.Revision.{Revision, text_of}
use Rattle.json.specs.Print.{escape, quoted}
use Rattle.hub_model.specs.Row.{ChangeRow}
use Rattle.hub_document.specs.DocText.{doc_text, row_doc}
use Rattle.hub_document.specs.SequenceText.{sequence_text}
use Rattle.hub_http.specs.ChangeTexts.{revision_text, revisions_text, row_mark, doc_member, row_end}
use Rattle.hub_http.specs.ChangeTexts.{id_member, row_head, plain_front}

-- in the joined text each revision but the first has a comma before it
joined : (p : List ℕ) (revisions : List Revision)
    → join_with_byte 44 (p ∷ map revision_text revisions) ≡ p
    ++ flat_map (λ revision. 44 ∷ revision_text revision) revisions
joined p [] = sym (append-nil p)
joined p (revision ∷ revisions) = ap (λ l. p ++ 44 ∷ l) (joined (revision_text revision) revisions)

all_revisions : (revision : Revision) (revisions : List Revision)
    → revisions_text (revision ∷ revisions) ≡ revision_text revision
    ++ flat_map (λ s. 44 ∷ revision_text s) revisions
unfolding revisions_text
all_revisions r rs = joined (revision_text r) rs

pub one_revision : (held new : List ℕ) (all : List Revision) (revision : Revision) → revision ∷ [] ≡ all
    → new ≡ held ++ revision_text revision → new ≡ held ++ revisions_text all
unfolding revisions_text
one_revision held new all r is written = written ∙ ap (λ l. held ++ revisions_text l) is

pub no_revisions : (held : List ℕ) (revisions : List Revision) → length revisions ≡ 0 → held ≡ held
    ++ revisions_text revisions
unfolding revisions_text
no_revisions held [] e = sym (append-nil held)
no_revisions held (r ∷ rs) e = absurd (omega (arith, e))

-- the first revision is written, and then all the others
pub revisions_written : (held mid new : List ℕ) (revision : Revision) (revisions all : List Revision) (i : ℕ)
    → all ≡ revision ∷ revisions → mid ≡ held ++ revision_text revision
    → new ≡ mid ++ flat_map (λ s. 44 ∷ revision_text s) (take i revisions) → length revisions ≤ i
    → new ≡ held ++ revisions_text all
revisions_written held mid new revision revisions all i e first later end =
    later
    ∙ ap (λ l. mid ++ flat_map (λ s. 44 ∷ revision_text s) l) (take_all i revisions end)
    ∙ ap (λ l. l ++ flat_map (λ s. 44 ∷ revision_text s) revisions) first
    ∙ append_assoc held (revision_text revision) (flat_map (λ s. 44 ∷ revision_text s) revisions)
    ∙ ap (λ l. held ++ l) (sym (ap revisions_text e ∙ all_revisions revision revisions))

-- the parts of the front of a row whose id needs no escape
pub plain_parts : (held : List ℕ) (life seq : ℕ) (id : List ℕ)
    → (held ++ (codes "{\"seq\":\"" ++ (decimal seq ++ 45 ∷ (decimal life ++ codes "\",\"id\":\"")))) ++ id
    ≡ held ++ plain_front life seq id
unfolding plain_front
plain_parts held life seq id = simp append_assoc

-- a row whose id needs no escape and whose only revision is this one
pub plain_row : (held : List ℕ) (life : ℕ) (row : ChangeRow) (revision : Revision) → escape row.id ≡ row.id
    → row.changes ≡ revision ∷ []
    → ((held ++ plain_front life row.seq row.id)
    ++ (codes "\",\"changes\":[{\"rev\":" ++ quoted (text_of revision))) ++ (125 ∷ row_end row)
    ≡ held ++ (row_head life row.seq row.id ++ (revisions_text row.changes ++ row_end row))
unfolding plain_front row_head id_member sequence_text revision_text revisions_text
plain_row held life row revision plain only = simp (append_assoc, plain, only)

-- the same row, where the rest behind its id is one part
pub short_row : (held : List ℕ) (life : ℕ) (row : ChangeRow) (revision : Revision) → escape row.id ≡ row.id
    → row.changes ≡ revision ∷ []
    → (held ++ plain_front life row.seq row.id)
    ++ (codes "\",\"changes\":[{\"rev\":" ++ (quoted (text_of revision) ++ 125 ∷ row_end row))
    ≡ held ++ (row_head life row.seq row.id ++ (revisions_text row.changes ++ row_end row))
short_row held life row revision plain only =
    sym (append_assoc (held ++ plain_front life row.seq row.id)
    (codes "\",\"changes\":[{\"rev\":" ++ quoted (text_of revision)) (125 ∷ row_end row))
    ∙ plain_row held life row revision plain only

-- the end of a row that brings a document, behind its only revision
pub doc_ended : (held : List ℕ) (row : ChangeRow) (body : List ℕ) → row.doc ≡ Some body
    → ((held ++ 125 ∷ (row_mark row.deleted ++ codes ",\"doc\":")) ++ doc_text (row_doc row body))
    ++ codes "}"
    ≡ held ++ 125 ∷ row_end row
unfolding row_end doc_member
doc_ended held row body brought = simp (append_assoc, brought)

-- the rest of a row that is not deleted and brings no document, with the JSON string of its only revision
pub short_ended : (row : ChangeRow) (text string : List ℕ) → row.deleted ≡ false → row.doc ≡ None
    → text ≡ string
    → codes "\",\"changes\":[{\"rev\":" ++ (text ++ codes "}]}")
    ≡ codes "\",\"changes\":[{\"rev\":" ++ (string ++ 125 ∷ row_end row)
unfolding row_end doc_member row_mark
short_ended row text string live none same = simp (live, none, same)

-- the text between the id of a row that is not deleted and its document
abbrev pub before_doc : List ℕ → List ℕ
before_doc text = codes "\",\"changes\":[{\"rev\":" ++ (text ++ codes "}],\"doc\":")

-- an appended text, with 36 bytes from its byte 20 on written over
pub over_part : (old text held part bytes : List ℕ) (at : ℕ) → held ≡ old ++ text → at ≡ length old
    → bytes ≡ take (at + 20) held ++ (part ++ drop (at + 20 + 36) held)
    → bytes ≡ old ++ (take 20 text ++ (part ++ drop 56 text))
over_part old text held part bytes at is place over =
    let e : length old + 20 + 36 ≡ length old + 56 = omega arith in
    over
    ∙ rw (is, place, take-append-add old text 20, e, drop-append-add old text 56)
    (append_assoc old (take 20 text) (part ++ drop 56 text))

-- the part of an appended text that begins at its byte 20
pub part_at : (old text held : List ℕ) (at : ℕ) → held ≡ old ++ text → at ≡ length old
    → drop (at + 20) held ≡ drop 20 text
part_at old text held at is place = rw (is, place) (drop-append-add old text 20)

-- the rest of a row that is not deleted and brings a document, with the JSON string of its only revision
pub short_doc : (held : List ℕ) (row : ChangeRow) (text string body : List ℕ) → row.deleted ≡ false
    → row.doc ≡ Some body → text ≡ string
    → (held ++ (before_doc text ++ doc_text (row_doc row body))) ++ codes "}"
    ≡ held ++ (codes "\",\"changes\":[{\"rev\":" ++ (string ++ 125 ∷ row_end row))
unfolding row_end doc_member row_mark
short_doc held row text string body live brought same = simp (append_assoc, live, brought, same)

-- a last part that is appended, or is out of memory, behind parts that are there
pub ended_by : {E : Type 0} (r : Result (Unit {0}) E) (text last old mid new : List ℕ)
    → take (length old) mid ≡ old → mid ++ last ≡ old ++ text → Appends last r mid new → Appends text r old new
ended_by (Ok u) text last old mid new kept whole done = appended text old new (done.ok ∙ whole)
ended_by (Err e) text last old mid new kept whole done =
    record { ok = tt; front = front_by old mid new kept done.front }
