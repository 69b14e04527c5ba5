-- Texts that are written part by part.
use Rattle.std.proofs.Common.{◌≡◌, ℕ, suc, ◌+◌, ◌%◌, ◌<◌, ◌≤◌, ◌^◌, List, [], ◌∷◌, ◌++◌}
use Rattle.std.proofs.Common.{All, IsTrue, refl, sym, ap, ◌∙◌, arith}
use Rattle.std.proofs.Common.{append_assoc, append-nil, decimal, Result, Ok, Err, OnOk}
use Rattle.std.proofs.lemmas.Bool.Decides.{nat_tests}
use Rattle.std.proofs.lemmas.Fmt.{decimal_by_steps}
use Rattle.json.specs.Token.{Token, string}
use Rattle.json.specs.Print.{escape, escape_byte, quoted, print, print_from}
use Rattle.json.proofs.Printed.Strings.{escape_byte_plain}
use Rattle.hub_model.specs.Revision.{Revision, IsRevision, is_hash_byte, text_of}
use Rattle.hub_document.specs.Appends.{Appends}
use Rattle.hub_document.proofs.AppendLemmas.{appended, front_of}

-- the text that a writer of JSON has written after one string
print_string : (s : List ℕ) → print (string s ∷ []) ≡ quoted s
unfolding print_from
print_string s = append-nil (quoted s)

pub string_written : {E : Type 0} (r : Result (Unit {0}) E) (s held before new : List ℕ)
    (old tokens : List Token)
    → before ≡ held → old ≡ [] → new ≡ before ++ print tokens
    → OnOk r (tokens ≡ old ++ string s ∷ []) → Appends (quoted s) r held new
string_written (Ok u) s held before new old tokens b o n t =
    appended (quoted s) held new
    (n
    ∙ ap (λ l. before ++ print l) (t ∙ ap (λ l. l ++ string s ∷ []) o)
    ∙ ap (λ l. before ++ l) (print_string s)
    ∙ ap (λ l. l ++ quoted s) b)
string_written (Err e) s held before new old tokens b o n t =
    record { ok = tt; front = front_of (print tokens) held new (n ∙ ap (λ l. l ++ print tokens) b) }

-- ---- texts that need no escape

escape-append : (xs ys : List ℕ) → escape (xs ++ ys) ≡ escape xs ++ escape ys
escape-append [] ys = refl
escape-append (x ∷ xs) ys =
    ap (λ l. escape_byte x ++ l) (escape-append xs ys)
    ∙ sym (append_assoc (escape_byte x) (escape xs) (escape ys))

one_plain : (b : ℕ) → 32 ≤ b → (b ≡ 34 → ⊥) → (b ≡ 92 → ⊥) → escape (b ∷ []) ≡ b ∷ []
one_plain b l q s = ap (λ bs. bs ++ []) (escape_byte_plain b q s l)

digit_plain : (d : ℕ) → d < 10 → escape ((48 + d) ∷ []) ≡ (48 + d) ∷ []
digit_plain d small = one_plain (48 + d) (omega arith) (λ e. omega arith) (λ e. omega arith)

-- the digits of a number need no escape
decimal_plain : (n : ℕ) → n < 2 ^ 64 → escape (decimal n) ≡ decimal n
decimal_plain n small =
    decimal_by_steps (λ _ ds. escape ds ≡ ds) digit_plain
    (λ m ds _ ih. escape-append ds ((48 + m % 10) ∷ [])
    ∙ ap (λ l. l ++ escape ((48 + m % 10) ∷ [])) ih
    ∙ ap (λ l. ds ++ l) (digit_plain (m % 10) (omega arith)))
    n small

record IsPlainByte (b : ℕ) : Type 0 where
  low : 48 ≤ b
  other : b ≡ 92 → ⊥

plain_byte : (b : ℕ) → IsTrue (is_hash_byte b) → IsPlainByte b
plain_byte b h = record { low = grind (arith, nat_tests); other = λ e. grind (arith, nat_tests) }

-- the letters of a hash need no escape
letters_plain : (bs : List ℕ) → All (λ b. IsTrue (is_hash_byte b)) bs → escape bs ≡ bs
letters_plain [] h = refl
letters_plain (b ∷ bs) h =
    let p = plain_byte b (h 0 b (omega arith)) in
    ap (λ l. l ++ escape bs) (escape_byte_plain b (λ e. omega (arith, p.low)) p.other (omega (arith, p.low)))
    ∙ ap (λ l. b ∷ l) (letters_plain bs (λ k d within. h (suc k) d (omega arith)))

-- a text that needs no escape stands between its quotes as it is
pub quoted_plain : (s : List ℕ) → escape s ≡ s → quoted s ≡ 34 ∷ (s ++ 34 ∷ [])
quoted_plain s plain = ap (λ l. 34 ∷ (l ++ 34 ∷ [])) plain

-- a dash in front of a text that needs no escape needs no escape
dashed_plain : (bs : List ℕ) → escape bs ≡ bs → escape (45 ∷ bs) ≡ 45 ∷ bs
dashed_plain bs plain =
    ap (λ l. l ++ escape bs) (escape_byte_plain 45 (λ e. omega arith) (λ e. omega arith) (omega arith))
    ∙ ap (λ l. 45 ∷ l) plain

-- so a hash stands between its quotes as it is
pub quoted_hash : (revision : Revision) → IsRevision revision → quoted revision.hash ≡ 34
    ∷ (revision.hash ++ 34 ∷ [])
quoted_hash revision good = ap (λ l. 34 ∷ (l ++ 34 ∷ [])) (letters_plain revision.hash good.letters)

-- and so does the text of a revision
pub quoted_text : (revision : Revision) → IsRevision revision → quoted (text_of revision) ≡ 34
    ∷ (text_of revision ++ 34 ∷ [])
quoted_text revision good =
    let dash : escape (45 ∷ revision.hash) ≡ 45
    ∷ revision.hash = dashed_plain revision.hash (letters_plain revision.hash good.letters) in
    let whole : escape (text_of revision) ≡ text_of revision =
    escape-append (decimal revision.generation) (45 ∷ revision.hash)
    ∙ ap (λ l. l ++ escape (45 ∷ revision.hash))
    (decimal_plain revision.generation (omega (arith, good.below)))
    ∙ ap (λ l. decimal revision.generation ++ l) dash in
    ap (λ l. 34 ∷ (l ++ 34 ∷ [])) whole

-- so the JSON string of a revision, with a comma and a quote after it, is made of these parts
quoted_revision : (revision : Revision) → IsRevision revision → quoted (text_of revision) ++ 44 ∷ 34 ∷ []
    ≡ 34 ∷ (decimal revision.generation ++ 45 ∷ (revision.hash ++ 34 ∷ 44 ∷ 34 ∷ []))
quoted_revision revision good =
    ap (λ l. l ++ 44 ∷ 34 ∷ []) (quoted_text revision good)
    ∙ ap (λ l. 34 ∷ l)
    (append_assoc (text_of revision) (34 ∷ []) (44 ∷ 34 ∷ [])
    ∙ append_assoc (decimal revision.generation) (45 ∷ revision.hash) (34 ∷ 44 ∷ 34 ∷ []))

-- and so is the text in front of an id, with the mark whether the edit deletes
pub front_revision : (mark : List ℕ) (revision : Revision) → IsRevision revision
    → (91 ∷ (mark ++ 44 ∷ 34 ∷ []))
    ++ (decimal revision.generation ++ (45 ∷ [] ++ (revision.hash ++ 34 ∷ 44 ∷ 34 ∷ [])))
    ≡ 91 ∷ (mark ++ 44 ∷ (quoted (text_of revision) ++ 44 ∷ 34 ∷ []))
front_revision mark revision good =
    ap (λ l. 91 ∷ l)
    (append_assoc mark (44 ∷ 34 ∷ [])
    (decimal revision.generation ++ (45 ∷ [] ++ (revision.hash ++ 34 ∷ 44 ∷ 34 ∷ [])))
    ∙ ap (λ l. mark ++ 44 ∷ l) (sym (quoted_revision revision good)))

-- the revision of a local document stands between its quotes as it is
pub quoted_count : (n : ℕ) → n < 2 ^ 64 → quoted (48 ∷ 45 ∷ decimal n) ≡ 34 ∷ 48 ∷ 45 ∷ (decimal n ++ 34 ∷ [])
quoted_count n small =
    let whole : escape (48 ∷ 45 ∷ decimal n) ≡ 48 ∷ 45 ∷ decimal n =
    ap (λ l. l ++ escape (45 ∷ decimal n))
    (escape_byte_plain 48 (λ e. omega arith) (λ e. omega arith) (omega arith))
    ∙ ap (λ l. 48 ∷ l) (dashed_plain (decimal n) (decimal_plain n small)) in
    ap (λ l. 34 ∷ (l ++ 34 ∷ [])) whole

-- ---- bytes that grow part by part

pub three_parts : (o a b c : List ℕ) → ((o ++ a) ++ b) ++ c ≡ o ++ (a ++ (b ++ c))
three_parts o a b c = append_assoc (o ++ a) b c ∙ append_assoc o a (b ++ c)

pub four_parts : (o a b c d : List ℕ) → (((o ++ a) ++ b) ++ c) ++ d ≡ o ++ (a ++ (b ++ (c ++ d)))
four_parts o a b c d = append_assoc ((o ++ a) ++ b) c d ∙ three_parts o a b (c ++ d)

pub five_parts : (o a b c d e : List ℕ)
    → ((((o ++ a) ++ b) ++ c) ++ d) ++ e ≡ o ++ (a ++ (b ++ (c ++ (d ++ e))))
five_parts o a b c d e = append_assoc (((o ++ a) ++ b) ++ c) d e ∙ four_parts o a b c (d ++ e)
