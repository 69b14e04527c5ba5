-- The text of a document is the compact text of an object.
use Rattle.std.proofs.Common.{◌≡◌, ℕ, suc, ◌-◌, List, [], ◌∷◌, ◌++◌, length, take, drop, map}
use Rattle.std.proofs.Common.{Bool, true, false, Option, Some, None, codes, decimal, refl}
use Rattle.std.proofs.Common.{sym, ap, ◌∙◌, arith, append_assoc, append-nil, length-append}
use Rattle.std.proofs.Math.Seq.{take-append_seam}
use Rattle.std.specs.List.{join_with_byte}
use Rattle.hub_model.specs.Draft.{generation_of, parent_of}
use Rattle.hub_model.specs.Revision.{Revision, text_of}
use Rattle.json.specs.Print.{escape_byte, quoted}
use Rattle.serde_json.specs.Data.{unsigned, Data, boolean, number, string, array, object}
use Rattle.serde_json.specs.Data.{Items, no_items, item, Members, no_members, member}
use Rattle.serde_json.specs.Written.{compact_text, items_text, members_text}
use Rattle.hub_document.specs.DocText.{member_text, rev_member, deleted_member, history_text}
use Rattle.hub_document.specs.DocText.{history_member, inside, if_some, members_of, doc_text}
use Rattle.hub_document.specs.declared.doc.Doc.{Doc}

-- ---- the object

abbrev pub hashes : List Revision → Items
hashes [] = no_items
hashes (revision ∷ path) = item (string revision.hash) (hashes path)

-- a history as it is written
abbrev pub history_written : List Revision → Data
history_written path =
    object (member (codes "start") (number (unsigned (generation_of (parent_of path))))
    (member (codes "ids") (array (hashes path)) no_members))

-- a way to add a member: before the others by `member`, in the order of the keys by `put`
abbrev pub Adding : Type 0
Adding = List ℕ → Data → Members → Members

abbrev pub rev_by : Adding → Option Revision → Members → Members
rev_by add None ms = ms
rev_by add (Some revision) ms = add (codes "_rev") (string (text_of revision)) ms

abbrev pub deleted_by : Adding → Bool → Members → Members
deleted_by add false ms = ms
deleted_by add true ms = add (codes "_deleted") (boolean true) ms

abbrev pub history_by : Adding → (List Revision → Data) → Option (List Revision) → Members → Members
history_by add value None ms = ms
history_by add value (Some path) ms = add (codes "_revisions") (value path) ms

abbrev pub written : List ℕ → Option Revision → Bool → Option (List Revision) → Members → Members
written id rev deleted path ms =
    member (codes "_id") (string id)
    (rev_by member rev (deleted_by member deleted (history_by member history_written path ms)))

-- ---- texts in a row

abbrev later : List (List ℕ) → List ℕ
later [] = []
later (x ∷ xs) = 44 ∷ (x ++ later xs)

join-later : (x : List ℕ) (xs : List (List ℕ)) → join_with_byte 44 (x ∷ xs) ≡ x ++ later xs
join-later x [] = sym (append-nil x)
join-later x (y ∷ xs) = ap (λ s. x ++ 44 ∷ s) (join-later y xs)

later-append : (xs ys : List (List ℕ)) → later (xs ++ ys) ≡ later xs ++ later ys
later-append [] ys = refl
later-append (x ∷ xs) ys =
    ap (λ s. 44 ∷ (x ++ s)) (later-append xs ys)
    ∙ ap (λ s. 44 ∷ s) (sym (append_assoc x (later xs) (later ys)))

abbrev rows : Members → List (List ℕ)
rows no_members = []
rows (member k d ms) = member_text k (compact_text d) ∷ rows ms

one_row : (q c rest end : List ℕ) → q ++ 58 ∷ (c ++ (rest ++ end)) ≡ ((q ++ 58 ∷ c) ++ rest) ++ end
one_row q c rest end =
    ap (λ s. q ++ 58 ∷ s) (sym (append_assoc c rest end))
    ∙ sym (append_assoc q (58 ∷ (c ++ rest)) end)
    ∙ ap (λ s. s ++ end) (sym (append_assoc q (58 ∷ c) rest))

members-later : (ms : Members) → members_text true ms ≡ later (rows ms) ++ 125 ∷ []
unfolding member_text
members-later no_members = refl
members-later (member k d ms) =
    ap (λ s. 44 ∷ (quoted k ++ 58 ∷ (compact_text d ++ s))) (members-later ms)
    ∙ ap (λ s. 44 ∷ s) (one_row (quoted k) (compact_text d) (later (rows ms)) (125 ∷ []))

members-rows : (ms : Members) → members_text false ms ≡ join_with_byte 44 (rows ms) ++ 125 ∷ []
unfolding member_text
members-rows no_members = refl
members-rows (member k d ms) =
    ap (λ s. quoted k ++ 58 ∷ (compact_text d ++ s)) (members-later ms)
    ∙ one_row (quoted k) (compact_text d) (later (rows ms)) (125 ∷ [])
    ∙ ap (λ s. s ++ 125 ∷ []) (sym (join-later (member_text k (compact_text d)) (rows ms)))

-- ---- a body between its braces

inside_braces : (s : List ℕ) → inside (123 ∷ (s ++ 125 ∷ [])) ≡ s
inside_braces s =
    let len : length (123 ∷ (s ++ 125 ∷ [])) - 1 ≡ suc (length s) =
    omega (arith, length-append s (125 ∷ [])) in
    ap (λ n. drop 1 (take n (123 ∷ (s ++ 125 ∷ [])))) len ∙ take-append_seam s (125 ∷ [])

inside_body : (ms : Members) → inside (compact_text (object ms)) ≡ join_with_byte 44 (rows ms)
inside_body ms = ap (λ s. inside (123 ∷ s)) (members-rows ms) ∙ inside_braces (join_with_byte 44 (rows ms))

later_some : (b : ℕ) (s : List ℕ) (rest : List ℕ) → later (if_some ((b ∷ s) ++ rest)) ≡ 44 ∷ ((b ∷ s) ++ rest)
later_some b s rest = ap (λ t. 44 ∷ t) (append-nil (b ∷ (s ++ rest)))

later_rows : (ms : Members) → later (if_some (join_with_byte 44 (rows ms))) ≡ later (rows ms)
unfolding member_text
later_rows no_members = refl
later_rows (member k d ms) =
    ap (λ s. later (if_some s)) (join-later (member_text k (compact_text d)) (rows ms))
    ∙ later_some 34 _ (later (rows ms))

-- ---- a history

items-later : (path : List Revision)
    → items_text true (hashes path) ≡ later (map (λ revision. quoted revision.hash) path) ++ 93 ∷ []
items-later [] = refl
items-later (revision ∷ path) =
    ap (λ s. 44 ∷ (quoted revision.hash ++ s)) (items-later path)
    ∙ ap (λ s. 44 ∷ s) (sym (append_assoc (quoted revision.hash) _ _))

items-joined : (path : List Revision)
    → items_text false (hashes path) ≡ join_with_byte 44 (map (λ revision. quoted revision.hash) path) ++ 93
    ∷ []
items-joined [] = refl
items-joined (revision ∷ path) =
    ap (λ s. quoted revision.hash ++ s) (items-later path)
    ∙ sym (append_assoc (quoted revision.hash) _ _)
    ∙ ap (λ s. s ++ 93 ∷ []) (sym
    (join-later (quoted revision.hash) (map (λ revision. quoted revision.hash) path)))

compact-history : (path : List Revision) → compact_text (history_written path) ≡ history_text path
unfolding history_text escape_byte
compact-history path =
    ap (λ s. codes "{\"start\":"
    ++ (decimal (generation_of (parent_of path)) ++ (codes ",\"ids\":[" ++ (s ++ 125 ∷ []))))
    (items-joined path)
    ∙ ap (λ s. codes "{\"start\":" ++ (decimal (generation_of (parent_of path)) ++ (codes ",\"ids\":[" ++ s)))
    (append_assoc _ (93 ∷ []) (125 ∷ []))

-- ---- the whole

abbrev front : Option Revision → Bool → Option (List Revision) → List (List ℕ)
front rev deleted path = rev_member rev ++ (deleted_member deleted ++ history_member path)

history_rows : (path : Option (List Revision)) (ms : Members)
    → rows (history_by member history_written path ms) ≡ history_member path ++ rows ms
history_rows None ms = refl
history_rows (Some path) ms = ap (λ s. member_text (codes "_revisions") s ∷ rows ms) (compact-history path)

deleted_rows : (deleted : Bool) (ms : Members)
    → rows (deleted_by member deleted ms) ≡ deleted_member deleted ++ rows ms
deleted_rows false ms = refl
deleted_rows true ms = refl

rev_rows : (rev : Option Revision) (ms : Members) → rows (rev_by member rev ms) ≡ rev_member rev ++ rows ms
rev_rows None ms = refl
rev_rows (Some revision) ms = refl

regroup : {A : Type 0} (a b c e : List A) → a ++ (b ++ (c ++ e)) ≡ (a ++ (b ++ c)) ++ e
regroup a b c e = ap (λ s. a ++ s) (sym (append_assoc b c e)) ∙ sym (append_assoc a (b ++ c) e)

rows-written : (id : List ℕ) (rev : Option Revision) (deleted : Bool)
    (path : Option (List Revision)) (ms : Members)
    → rows (written id rev deleted path ms)
    ≡ member_text (codes "_id") (quoted id) ∷ (front rev deleted path ++ rows ms)
rows-written id rev deleted path ms =
    ap (λ s. member_text (codes "_id") (quoted id) ∷ s)
    (rev_rows rev (deleted_by member deleted (history_by member history_written path ms))
    ∙ ap (λ s. rev_member rev ++ s)
    (deleted_rows deleted (history_by member history_written path ms)
    ∙ ap (λ s. deleted_member deleted ++ s) (history_rows path ms))
    ∙ regroup (rev_member rev) (deleted_member deleted) (history_member path) (rows ms))

same_later : (x : List ℕ) (xs ys zs : List (List ℕ)) → later ys ≡ later zs
    → join_with_byte 44 (x ∷ (xs ++ ys)) ≡ join_with_byte 44 (x ∷ (xs ++ zs))
same_later x xs ys zs e =
    join-later x (xs ++ ys)
    ∙ ap (λ s. x ++ s) (later-append xs ys ∙ ap (λ s. later xs ++ s) e ∙ sym (later-append xs zs))
    ∙ sym (join-later x (xs ++ zs))

pub doc_text-written : (doc : Doc) (ms : Members) → doc.body ≡ compact_text (object ms)
    → doc_text doc ≡ compact_text (object (written doc.id doc.rev doc.deleted doc.path ms))
unfolding doc_text
doc_text-written d ms body =
    let first = member_text (codes "_id") (quoted d.id) in
    let fixed = front d.rev d.deleted d.path in
    let own : if_some (inside d.body) ≡ if_some (join_with_byte 44 (rows ms)) =
    ap if_some (ap inside body ∙ inside_body ms) in
    let listed : members_of d ≡ first ∷ (fixed ++ if_some (join_with_byte 44 (rows ms))) =
    ap (λ s. first ∷ s)
    (regroup (rev_member d.rev) (deleted_member d.deleted) (history_member d.path) (if_some (inside d.body))
    ∙ ap (λ s. fixed ++ s) own) in
    let joined : join_with_byte 44 (members_of d)
    ≡ join_with_byte 44 (rows (written d.id d.rev d.deleted d.path ms)) =
    ap (join_with_byte 44) listed
    ∙ same_later first fixed _ (rows ms) (later_rows ms)
    ∙ ap (join_with_byte 44) (sym (rows-written d.id d.rev d.deleted d.path ms)) in
    ap (λ s. 123 ∷ (s ++ 125 ∷ [])) joined
    ∙ ap (λ s. 123 ∷ s) (sym (members-rows (written d.id d.rev d.deleted d.path ms)))
