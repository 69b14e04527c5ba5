-- The text of a sequence reads as its number and its life.
use Rattle.std.proofs.Common.{◌≡◌, ◌≢◌, ◌∙◌, ◌<◌, ◌^◌, ◌≤◌, ℕ, List, [], ◌∷◌, ◌++◌}
use Rattle.std.proofs.Common.{length, take, true, false, nat_lt, Some, decimal, refl}
use Rattle.std.proofs.Common.{ap, sym, arith, rules, append_assoc, append-nil, subst}
use Rattle.std.specs.Prelude.{⊤, IsUtf8}
use Rattle.json.proofs.Printed.Utf8.{are_ascii, IsUtf8-are_ascii}
use Rattle.std.specs.List.{list_all, position_or_len, before_first, after_first}
use Rattle.std.specs.Str.Parse.{digits_value}
use Rattle.std.proofs.Math.Seq.{drop-append-add}
use Rattle.std.proofs.lemmas.Bool.{and_parts, lt-ltb, ne_eqb}
use Rattle.std.proofs.lemmas.Bool.Decides.{nat_tests}
use Rattle.std.proofs.lemmas.Fmt.{decimal_is_IsNumeral, digits_decimal, digits_value-decimal}
use Rattle.std.proofs.lemmas.Str.Parse.{IsNumeralModel, numerals_by_value}
use Rattle.json.specs.Print.{escape, quoted}
use Rattle.json.proofs.Printed.Strings.{escape_byte_plain}
use Rattle.hub_document.specs.SequenceText.{sequence_text}
use Rattle.hub_document.proofs.WriteLemmas.{quoted_plain}
use Rattle.hub_params.specs.FeedValues.{is_digit, is_hyphen, number_in, tagged_in}

own : IsNumeralModel (λ ds. list_all is_digit ds ≡ true) (digits_value 10)
own = numerals_by_value _ (search rules)

-- the decimal text of a number has digits alone
digits_of : (n : ℕ) → n < 2 ^ 64 → list_all is_digit (decimal n) ≡ true
digits_of n h = digits_decimal own n h

number_back : (n : ℕ) → n < 2 ^ 64 → number_in (decimal n) ≡ Some n
number_back n h =
    let some : nat_lt 0 (length (decimal n)) ≡ true =
    lt-ltb 0 (length (decimal n)) (decimal_is_IsNumeral n h).0.0 in
    let value : digits_value 10 (decimal n) ≡ n = digits_value-decimal own n h in
    rw (some, digits_of n h, value, lt-ltb n (2 ^ 64) h) refl

-- a digit is no hyphen, so the hyphen is the first one
digit_no_hyphen : (b : ℕ) → is_digit b ≡ true → is_hyphen b ≡ false
digit_no_hyphen b h = ne_eqb b 45 (λ e. let at : false ≡ true = ap is_digit (sym e) ∙ h in absurd (cc))

hyphen_behind : (xs ys : List ℕ) → list_all is_digit xs ≡ true
    → position_or_len is_hyphen (xs ++ 45 ∷ ys) ≡ length xs
hyphen_behind [] ys h = refl
hyphen_behind (x ∷ xs) ys h =
    let p = and_parts (is_digit x) (list_all is_digit xs) h in
    rw (digit_no_hyphen x p.0, hyphen_behind xs ys p.1) (omega arith)

front_taken : (xs ys : List ℕ) → take (length xs) (xs ++ ys) ≡ xs
front_taken [] ys = refl
front_taken (x ∷ xs) ys = ap (λ l. x ∷ l) (front_taken xs ys)

before_hyphen : (xs ys : List ℕ) → list_all is_digit xs ≡ true → before_first is_hyphen (xs ++ 45 ∷ ys) ≡ xs
before_hyphen xs ys h = rw (hyphen_behind xs ys h) (front_taken xs (45 ∷ ys))

after_hyphen : (xs ys : List ℕ) → list_all is_digit xs ≡ true → after_first is_hyphen (xs ++ 45 ∷ ys) ≡ ys
after_hyphen xs ys h = rw (hyphen_behind xs ys h) (drop-append-add xs (45 ∷ ys) 1)

pub tagged_back : (n life : ℕ) → n < 2 ^ 64 → life < 2 ^ 64
    → tagged_in (decimal n ++ 45 ∷ decimal life) ≡ Some (n, life)
tagged_back n life h k =
    rw (
      before_hyphen (decimal n) (decimal life) (digits_of n h),
      after_hyphen (decimal n) (decimal life) (digits_of n h),
      number_back n h,
      number_back life k,
    ) refl

-- ---- its JSON string

-- no byte of the text is escaped in its JSON string
abbrev IsPlainText : List ℕ → Type 0
IsPlainText [] = ⊤
IsPlainText (b ∷ text) = (b ≢ 34) × (b ≢ 92) × (32 ≤ b) × IsPlainText text

plain_digits : (xs ys : List ℕ) → list_all is_digit xs ≡ true → IsPlainText ys → IsPlainText (xs ++ ys)
plain_digits [] ys h p = p
plain_digits (x ∷ xs) ys h p =
    let d = and_parts (is_digit x) (list_all is_digit xs) h in
    let low : 48 ≤ x = grind (arith, nat_tests, d) in
    let high : x ≤ 57 = grind (arith, nat_tests, d) in
    ((λ e. absurd (omega arith)), (λ e. absurd (omega arith)), omega arith, plain_digits xs ys d.1 p)

plain_escape : (text : List ℕ) → IsPlainText text → escape text ≡ text
plain_escape [] p = refl
plain_escape (b ∷ text) p =
    ap (λ s. s ++ escape text) (escape_byte_plain b p.0 p.1 p.2) ∙ ap (λ s. b ∷ s) (plain_escape text p.3)

pub tagged_quoted : (n life : ℕ) → n < 2 ^ 64 → life < 2 ^ 64
    → quoted (decimal n ++ 45 ∷ decimal life) ≡ sequence_text n life
unfolding sequence_text
tagged_quoted n life h k =
    let digits : IsPlainText (decimal life ++ []) = plain_digits (decimal life) [] (digits_of life k) tt in
    let text = decimal n ++ 45 ∷ (decimal life ++ []) in
    let plain : escape text ≡ text =
    plain_escape text
    (plain_digits (decimal n) (45 ∷ (decimal life ++ [])) (digits_of n h)
    ((λ e. absurd (omega arith)), (λ e. absurd (omega arith)), omega arith, digits)) in
    let all = append-nil (decimal life) in
    quoted_plain (decimal n ++ 45 ∷ decimal life)
    (subst (λ l. escape (decimal n ++ 45 ∷ l) ≡ decimal n ++ 45 ∷ l) all plain)
    ∙ ap (λ s. 34 ∷ s) (append_assoc (decimal n) (45 ∷ decimal life) (34 ∷ []))

-- digits in front of an ASCII text are ASCII too
ascii_digits : (xs ys : List ℕ) → list_all is_digit xs ≡ true → are_ascii ys ≡ true
    → are_ascii (xs ++ ys) ≡ true
ascii_digits [] ys h a = a
ascii_digits (x ∷ xs) ys h a =
    let d = and_parts (is_digit x) (list_all is_digit xs) h in
    let low : x < 128 = grind (arith, nat_tests, d) in
    rw (lt-ltb x 128 low, ascii_digits xs ys d.1 a) refl

pub tagged_utf8 : (n life : ℕ) → n < 2 ^ 64 → life < 2 ^ 64 → IsUtf8 (decimal n ++ 45 ∷ decimal life)
tagged_utf8 n life h k =
    let digits : are_ascii (decimal life) ≡ true =
    subst (λ l. are_ascii l ≡ true) (append-nil (decimal life))
    (ascii_digits (decimal life) [] (digits_of life k) refl) in
    IsUtf8-are_ascii _ (ascii_digits (decimal n) (45 ∷ decimal life) (digits_of n h) digits)
