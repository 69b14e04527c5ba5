-- The parts of a document's text, and the text that they make together.
use Rattle.std.proofs.Common.{◌≡◌, ℕ, ◌+◌, ◌-◌, ◌<◌, ◌≤◌, ◌^◌, List, [], ◌∷◌, ◌++◌, length, map, take, drop}
use Rattle.std.proofs.Common.{get_or, take_all, refl, sym, ap, ◌∙◌, arith, append_assoc, append-nil}
use Rattle.std.proofs.Common.{decimal, codes, true, Option, None, Some}
use Rattle.std.proofs.lemmas.Grind.{flat_map-append}
use Rattle.std.proofs.lemmas.List.{length-take-le, length-drop, length-append, take_more}
use Rattle.std.specs.Prelude.{flat_map, option_map}
use Rattle.std.specs.List.{join_with_byte}
use Rattle.json.specs.Print.{escape, escape_byte, quoted}
use Rattle.hub_model.specs.Revision.{Revision, text_of}
use Rattle.hub_model.specs.Draft.{generation_of, parent_of}
use Rattle.hub_document.specs.declared.doc.Doc.{Doc}
use Rattle.hub_document.specs.DocText.{member_text, rev_member, deleted_member, history_member}
use Rattle.hub_document.specs.DocText.{history_text, inside, if_some, doc_text, local_text}
use Rattle.hub_document.specs.Joined.{after_commas, head_text, ids_text, count_text, rest_text}
use Rattle.hub_document.specs.SpecialText.{special_text}
use Rattle.hub_document.specs.Braced.{IsBraced}
use Rattle.hub_document.proofs.WriteLemmas.{quoted_count, three_parts}

-- ---- the names of members

id_name : (v : List ℕ) → member_text (codes "_id") v ≡ codes "\"_id\":" ++ v
unfolding member_text escape_byte
id_name v = refl

rev_name : (v : List ℕ) → member_text (codes "_rev") v ≡ codes "\"_rev\":" ++ v
unfolding member_text escape_byte
rev_name v = refl

deleted_name : (v : List ℕ) → member_text (codes "_deleted") v ≡ codes "\"_deleted\":" ++ v
unfolding member_text escape_byte
deleted_name v = refl

revisions_name : (v : List ℕ) → member_text (codes "_revisions") v ≡ codes "\"_revisions\":" ++ v
unfolding member_text escape_byte
revisions_name v = refl

-- ---- each part

one_after : (m : List ℕ) → after_commas (m ∷ []) ≡ 44 ∷ m
one_after m = append-nil (44 ∷ m)

pub head_is : (id : List ℕ) → head_text id ≡ codes "{\"_id\":" ++ quoted id
unfolding head_text
head_is id = ap (λ l. 123 ∷ l) (id_name (quoted id))

pub rev_is : (revision : Revision) → after_commas (rev_member (Some revision)) ≡ codes ",\"_rev\":"
    ++ quoted (text_of revision)
rev_is revision =
    one_after (member_text (codes "_rev") (quoted (text_of revision)))
    ∙ ap (λ l. 44 ∷ l) (rev_name (quoted (text_of revision)))

-- the member `_rev` of a revision whose JSON string this is
pub rev_of_text : (o : Option Revision) (text : List ℕ) → option_map (λ r. quoted (text_of r)) o ≡ Some text
    → after_commas (rev_member o) ≡ codes ",\"_rev\":" ++ text
rev_of_text None text is = absurd (cc)
rev_of_text (Some r) text is =
    let same : quoted (text_of r) ≡ text = cc in
    rev_is r ∙ ap (λ l. codes ",\"_rev\":" ++ l) same

-- a text, the brace, an id that needs no escape, and the bytes after it
pub plain_head : (held before id more : List ℕ) → escape id ≡ id
    → ((held ++ (before ++ codes "{\"_id\":\"")) ++ id) ++ (codes "\"," ++ more) ≡ held
    ++ (before ++ (head_text id ++ (44 ∷ more)))
plain_head held before id more plain = rw (head_is id) (simp (append_assoc, plain))

pub deleted_is : after_commas (deleted_member true) ≡ codes ",\"_deleted\":true"
deleted_is =
    one_after (member_text (codes "_deleted") (codes "true")) ∙ ap (λ l. 44 ∷ l) (deleted_name (codes "true"))

history_is : (path : List Revision)
    → after_commas (history_member (Some path)) ≡ codes ",\"_revisions\":" ++ history_text path
history_is path =
    one_after (member_text (codes "_revisions") (history_text path))
    ∙ ap (λ l. 44 ∷ l) (revisions_name (history_text path))

pub count_is : (n : ℕ) → n < 2 ^ 64 → count_text n ≡ codes ",\"_rev\":\"0-" ++ (decimal n ++ codes "\"")
unfolding count_text
count_is n small =
    ap (λ l. 44 ∷ l)
    (rev_name (quoted (codes "0-" ++ decimal n)) ∙ ap (λ l. codes "\"_rev\":" ++ l) (quoted_count n small))

rest_if : (i : List ℕ) → 0 < length i → after_commas (if_some i) ≡ 44 ∷ i
rest_if [] some = absurd (omega arith)
rest_if (b ∷ bs) some = one_after (b ∷ bs)

rest_short : (i : List ℕ) → length i ≡ 0 → after_commas (if_some i) ++ codes "}" ≡ i ++ 125 ∷ []
rest_short [] none = refl
rest_short (b ∷ bs) none = absurd (omega (arith, none))

drop_first : (t : List ℕ) → 1 ≤ length t → drop 1 (t ++ 125 ∷ []) ≡ drop 1 t ++ 125 ∷ []
drop_first [] some = absurd (omega (arith, some))
drop_first (x ∷ xs) some = refl

-- after its first brace an object's text is the text inside, and the last brace
inside_closed : (body : List ℕ) → IsBraced body → drop 1 body ≡ inside body ++ 125 ∷ []
inside_closed body braced =
    let some : 1 ≤ length (take (length body - 1) body) =
    omega (arith, length-take-le (length body - 1) body (omega arith), braced.some) in
    ap (drop 1) (sym braced.closed) ∙ drop_first (take (length body - 1) body) some

inside_size : (body : List ℕ) → IsBraced body → length body ≡ length (inside body) + 2
inside_size body braced =
    let size = ap length (inside_closed body braced) in
    omega (arith, size, length-drop 1 body, length-append (inside body) (125 ∷ []), braced.some)

-- so for an object without members of its own the rest is the last brace
pub rest_none : (body : List ℕ) → IsBraced body → length body ≤ 2 → rest_text body ≡ drop 1 body
unfolding rest_text
rest_none body braced short =
    rest_short (inside body) (omega (arith, inside_size body braced)) ∙ sym (inside_closed body braced)

-- and for an object with members the rest is all after the first brace, with a comma in front
pub rest_some : (body : List ℕ) → IsBraced body → 2 < length body → rest_text body ≡ 44 ∷ drop 1 body
unfolding rest_text
rest_some body braced long =
    ap (λ l. l ++ codes "}") (rest_if (inside body) (omega (arith, inside_size body braced)))
    ∙ ap (λ l. 44 ∷ l) (sym (inside_closed body braced))

-- ---- texts between commas

joined : (p : List ℕ) (ms : List (List ℕ)) → join_with_byte 44 (p ∷ ms) ≡ p ++ after_commas ms
joined p [] = sym (append-nil p)
joined p (m ∷ ms) = ap (λ l. p ++ 44 ∷ l) (joined m ms)

later_hashes : (revisions : List Revision)
    → after_commas (map (λ revision. quoted revision.hash) revisions) ≡ flat_map
    (λ revision. 44 ∷ quoted revision.hash) revisions
later_hashes [] = refl
later_hashes (revision ∷ revisions) = ap (λ l. (44 ∷ quoted revision.hash) ++ l) (later_hashes revisions)

all_hashes : (revision : Revision) (revisions : List Revision)
    → ids_text (revision ∷ revisions) ≡ quoted revision.hash ++ flat_map (λ s. 44 ∷ quoted s.hash) revisions
unfolding ids_text
all_hashes r rs =
    joined (quoted r.hash) (map (λ s. quoted s.hash) rs) ∙ ap (λ l. quoted r.hash ++ l) (later_hashes rs)

pub no_hashes : (held : List ℕ) (revisions : List Revision) → length revisions ≡ 0 → held ≡ held
    ++ ids_text revisions
unfolding ids_text
no_hashes held [] e = sym (append-nil held)
no_hashes held (r ∷ rs) e = absurd (omega (arith, e))

-- all hashes are written: the first one, and then the others
pub hashes_written : (held mid new : List ℕ) (revision : Revision) (revisions all : List Revision) (i : ℕ)
    → all ≡ revision ∷ revisions → mid ≡ held ++ quoted revision.hash
    → new ≡ mid ++ flat_map (λ s. 44 ∷ quoted s.hash) (take i revisions) → length revisions ≤ i → new ≡ held
    ++ ids_text all
hashes_written held mid new revision revisions all i e first later end =
    later
    ∙ ap (λ l. mid ++ flat_map (λ s. 44 ∷ quoted s.hash) l) (take_all i revisions end)
    ∙ ap (λ l. l ++ flat_map (λ s. 44 ∷ quoted s.hash) revisions) first
    ∙ append_assoc held (quoted revision.hash) (flat_map (λ s. 44 ∷ quoted s.hash) revisions)
    ∙ ap (λ l. held ++ l) (sym (ap ids_text e ∙ all_hashes revision revisions))

-- one more of the other hashes is written
pub one_more_hash : (first held mid new : List ℕ) (revision : Revision) (revisions : List Revision) (i : ℕ)
    → i < length revisions → revision ≡ get_or revisions i revision
    → held ≡ first ++ flat_map (λ s. 44 ∷ quoted s.hash) (take i revisions) → mid ≡ held ++ 44 ∷ []
    → new ≡ mid ++ quoted revision.hash
    → new ≡ first ++ flat_map (λ s. 44 ∷ quoted s.hash) (take (i + 1) revisions)
one_more_hash first held mid new r rs i low is h m n =
    let f : Revision → List ℕ = λ s. 44 ∷ quoted s.hash in
    let here : take (i + 1) rs ≡ take i rs ++ r ∷ [] =
    take_more rs i r low ∙ ap (λ x. take i rs ++ x ∷ []) (sym is) in
    let more : flat_map f (take (i + 1) rs) ≡ flat_map f (take i rs) ++ (44 ∷ quoted r.hash) =
    ap (flat_map f) here
    ∙ flat_map-append f (take i rs) (r ∷ [])
    ∙ ap (λ l. flat_map f (take i rs) ++ 44 ∷ l) (append-nil (quoted r.hash)) in
    n ∙ ap (λ l. l ++ quoted r.hash) (m ∙ ap (λ l. l ++ 44 ∷ []) h)
    ∙ three_parts first (flat_map f (take i rs)) (44 ∷ []) (quoted r.hash)
    ∙ ap (λ l. first ++ l) (sym more)

-- the member of a history
pub history_written : (path : List Revision)
    → after_commas (history_member (Some path))
    ≡ codes ",\"_revisions\":{\"start\":"
    ++ (decimal (generation_of (parent_of path)) ++ (codes ",\"ids\":[" ++ (ids_text path ++ codes "]}")))
unfolding history_text ids_text
history_written path = history_is path

-- ---- the whole texts

split_commas : (xs ys : List (List ℕ)) → after_commas (xs ++ ys) ≡ after_commas xs ++ after_commas ys
split_commas [] ys = refl
split_commas (x ∷ xs) ys =
    ap (λ l. (44 ∷ x) ++ l) (split_commas xs ys)
    ∙ sym (append_assoc (44 ∷ x) (after_commas xs) (after_commas ys))

-- an object that begins with an id
object_parts : (id : List ℕ) (ms : List (List ℕ))
    → codes "{" ++ (join_with_byte 44 (member_text (codes "_id") (quoted id) ∷ ms) ++ codes "}")
    ≡ head_text id ++ (after_commas ms ++ codes "}")
unfolding head_text
object_parts id ms =
    ap (λ l. codes "{" ++ (l ++ codes "}")) (joined (member_text (codes "_id") (quoted id)) ms)
    ∙ ap (λ l. codes "{" ++ l)
    (append_assoc (member_text (codes "_id") (quoted id)) (after_commas ms) (codes "}"))

four_commas : (a b c d : List (List ℕ)) (z : List ℕ)
    → after_commas (a ++ (b ++ (c ++ d))) ++ z
    ≡ after_commas a ++ (after_commas b ++ (after_commas c ++ (after_commas d ++ z)))
four_commas a b c d z =
    ap (λ l. l ++ z)
    (split_commas a (b ++ (c ++ d))
    ∙ ap (λ l. after_commas a ++ l)
    (split_commas b (c ++ d) ∙ ap (λ l. after_commas b ++ l) (split_commas c d)))
    ∙ append_assoc (after_commas a) (after_commas b ++ (after_commas c ++ after_commas d)) z
    ∙ ap (λ l. after_commas a ++ l)
    (append_assoc (after_commas b) (after_commas c ++ after_commas d) z
    ∙ ap (λ l. after_commas b ++ l) (append_assoc (after_commas c) (after_commas d) z))

doc_parts : (doc : Doc)
    → doc_text doc ≡ head_text doc.id ++ (after_commas (rev_member doc.rev)
    ++ (after_commas (deleted_member doc.deleted)
    ++ (after_commas (history_member doc.path) ++ rest_text doc.body)))
unfolding doc_text rest_text
doc_parts d =
    object_parts d.id
    (rev_member d.rev ++ (deleted_member d.deleted ++ (history_member d.path ++ if_some (inside d.body))))
    ∙ ap (λ l. head_text d.id ++ l)
    (four_commas (rev_member d.rev) (deleted_member d.deleted) (history_member d.path)
    (if_some (inside d.body)) (codes "}"))

-- a document's text is its front, and then the rest
pub doc_written : (held mid new : List ℕ) (doc : Doc) → mid ≡ held ++ special_text doc
    → new ≡ mid ++ rest_text doc.body → new ≡ held ++ doc_text doc
doc_written held mid new doc front rest =
    let h = head_text doc.id in
    let r = after_commas (rev_member doc.rev) in
    let m = after_commas (deleted_member doc.deleted) in
    let p = after_commas (history_member doc.path) in
    rest ∙ ap (λ l. l ++ rest_text doc.body) front ∙ append_assoc held (special_text doc) (rest_text doc.body)
    ∙ ap (λ l. held ++ l)
    (append_assoc h (r ++ (m ++ p)) (rest_text doc.body)
    ∙ ap (λ l. h ++ l)
    (append_assoc r (m ++ p) (rest_text doc.body) ∙ ap (λ l. r ++ l) (append_assoc m p (rest_text doc.body))))
    ∙ ap (λ l. held ++ l) (sym (doc_parts doc))

pub local_parts : (id : List ℕ) (n : ℕ) (body : List ℕ)
    → local_text id n body ≡ head_text id ++ (count_text n ++ rest_text body)
unfolding local_text count_text rest_text
local_parts id n body =
    object_parts id (member_text (codes "_rev") (quoted (codes "0-" ++ decimal n)) ∷ if_some (inside body))
    ∙ ap (λ l. head_text id ++ l)
    (append_assoc (44 ∷ member_text (codes "_rev") (quoted (codes "0-" ++ decimal n)))
    (after_commas (if_some (inside body))) (codes "}"))
