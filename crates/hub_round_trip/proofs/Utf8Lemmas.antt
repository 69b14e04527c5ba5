-- The texts that stand in a JSON text of UTF-8 are UTF-8.
use Rattle.std.proofs.Common.{◌≡◌, ℕ, zero, suc, ◌<◌, ◌≤◌, List, [], ◌∷◌, ◌++◌, length, get_or}
use Rattle.std.proofs.Common.{Bool, true, false, cond, Option, Some, None, option_and_then}
use Rattle.std.proofs.Common.{IsUtf8, inl, inr, ◌⊎◌, refl, sym, subst, arith, append_assoc}
use Rattle.std.proofs.Common.{append-nil, length-append, ◌==◌, eqb, ne_eqb, eq-eqb, le-ltb}
use Rattle.std.proofs.Math.Seq.{take-append_seam, drop-append_seam}
use Rattle.std.proofs.lemmas.Bool.{cases_Bool, cases_eq, cases_lt, and_parts}
use Rattle.std.proofs.lemmas.Bool.Decides.{nat_tests}
use Rattle.std.proofs.lemmas.Option.{option_and_then_some, cond_some}
use Rattle.std.proofs.lemmas.Str.{IsUtf8-append, IsUtf8-encode, IsUtf8-take, IsUtf8-drop}
use Rattle.std.proofs.lemmas.Str.{IsCharBoundary-before_ascii, IsCharBoundary-after_ascii}
use Rattle.std.specs.Char.{encode_utf8, digit_value, is_digit}
use Rattle.std.specs.Prelude.{⊤, ◌&&◌, nat_lt}
use Rattle.json.specs.Ascii.{true_text, false_text, null_text}
use Rattle.json.specs.Json as json
use Rattle.json.specs.Lex.{Lexeme, token, comma, colon, Class, quote, backslash, operator, space, other}
use Rattle.json.specs.Lex.{class, operator_lexeme, string_token, Mode, between, in_word, in_string}
use Rattle.json.specs.Lex.{in_escape, lex_byte, lex, begins_colon, Place, fresh, after_value, after_comma}
use Rattle.json.specs.Lex.{after_key, may_begin, may_close, if_allowed, place_token, punctuate, tokens}
use Rattle.json.specs.Text.{code_unit, short_escape, is_high_surrogate, is_low_surrogate, surrogate_pair}
use Rattle.json.specs.Text.{Within, plain, after_backslash, after_u, after_high, prepend, content}
use Rattle.json.specs.Token as spelled
use Rattle.json.specs.Token.{Token}
use Rattle.json.specs.Tree.{json_tokens, items_tokens, members_tokens}
use Rattle.json.specs.Word.{head, word, literal, number_before, after_number, ends_word}
use Rattle.json.proofs.Printed.Utf8.{IsUtf8-are_ascii}

-- ---- a text is cut at an ASCII byte

at_seam : (p : List ℕ) (x : ℕ) (xs : List ℕ) → get_or (p ++ x ∷ xs) (length p) 0 ≡ x
at_seam [] x xs = refl
at_seam (y ∷ p) x xs = at_seam p x xs

after_ascii : (x : ℕ) (xs : List ℕ) → x < 128 → IsUtf8 (x ∷ xs) → IsUtf8 xs
after_ascii x xs small u =
    IsUtf8-drop (x ∷ xs) 1 u (IsCharBoundary-after_ascii (x ∷ xs) 0 u (omega arith) small)

cut : (p : List ℕ) (x : ℕ) (xs : List ℕ) → x < 128 → IsUtf8 (p ++ x ∷ xs) → IsUtf8 p × IsUtf8 xs
cut p x xs small u =
    let all = p ++ x ∷ xs in
    let here : get_or all (length p) 0 < 128 = rw (at_seam p x xs) small in
    let boundary =
    IsCharBoundary-before_ascii all (length p) (omega (arith, length-append p (x ∷ xs))) here in (
      subst IsUtf8 (take-append_seam p (x ∷ xs)) (IsUtf8-take all (length p) u boundary),
      after_ascii x xs small
          (subst IsUtf8 (drop-append_seam p (x ∷ xs)) (IsUtf8-drop all (length p) u boundary)),
    )

-- ---- the content of a string

abbrev Plain : List ℕ → Type 0
Plain xs = (p s : List ℕ) → IsUtf8 (p ++ xs) → content plain xs ≡ Some s → IsUtf8 (p ++ s)

abbrev Inside : Within → List ℕ → Type 0
Inside within xs = (s : List ℕ) → IsUtf8 xs → content within xs ≡ Some s → IsUtf8 s

record Modes (xs : List ℕ) : Type 0 where
  in_plain : Plain xs
  in_backslash : Inside after_backslash xs
  in_u : Inside after_u xs
  in_high : (h : ℕ) → 0xd800 ≤ h → h < 0xdc00 → Inside (after_high h) xs

prepended : {P : Type 0} (bytes : List ℕ) (o : Option (List ℕ)) (s : List ℕ) → prepend bytes o ≡ Some s
    → ((t : List ℕ) → o ≡ Some t → bytes ++ t ≡ s → P) → P
prepended bytes None s e next = absurd (cc)
prepended bytes (Some t) s e next = next t refl (cc)

after_plain : (xs bytes s : List ℕ) → Plain xs → IsUtf8 xs → IsUtf8 bytes
    → prepend bytes (content plain xs) ≡ Some s → IsUtf8 s
after_plain xs bytes s more u valid e =
    prepended {P = IsUtf8 s} bytes (content plain xs) s e
    (λ t read is. subst IsUtf8 is (IsUtf8-append bytes t valid (more [] t u read)))

plain_byte : (x : ℕ) (xs : List ℕ) → Plain xs → Inside after_backslash xs → Plain (x ∷ xs)
unfolding content
plain_byte x xs more escaped p s u e =
    elim (cases_eq x 34) [
      | inl q ↦
          let none : Some [] ≡ Some s = rw (eq-eqb x 34 q) at e in
          let is : [] ≡ s = cc in
          subst (λ t. IsUtf8 (p ++ t)) is (subst IsUtf8 (sym (append-nil p)) (cut p x xs (omega arith) u).0)
      | inr q ↦ elim (cases_eq x 92) [
        | inl b ↦
            let rest : content after_backslash xs ≡ Some s = rw (ne_eqb x 34 q, eq-eqb x 92 b) at e in
            let parts = cut p x xs (omega arith) u in
            IsUtf8-append p s parts.0 (escaped s parts.1 rest)
        | inr b ↦ elim (cases_lt x 32) [
          | inl low ↦
              let control : nat_lt x 32 ≡ true = grind (arith, nat_tests) in
              let none : None ≡ Some s = rw (ne_eqb x 34 q, ne_eqb x 92 b, control) at e in
              absurd (cc)
          | inr high ↦
              let rest : prepend (x ∷ []) (content plain xs) ≡ Some s =
              rw (ne_eqb x 34 q, ne_eqb x 92 b, le-ltb x 32 high) at e in
              prepended {P = IsUtf8 (p ++ s)} (x ∷ []) (content plain xs) s rest (λ t read is.
              subst (λ r. IsUtf8 (p ++ r)) is
              (subst IsUtf8 (append_assoc p (x ∷ []) t)
              (more (p ++ x ∷ []) t (subst IsUtf8 (sym (append_assoc p (x ∷ []) xs)) u) read)))
        ]
      ]
    ]

ascii_one : (c : ℕ) → c < 128 → IsUtf8 (c ∷ [])
ascii_one c small =
    IsUtf8-are_ascii (c ∷ []) (let e : nat_lt c 128 ≡ true = grind (arith, nat_tests) in rw e refl)

short_is_ascii : (x c : ℕ) → short_escape x ≡ Some c → (x < 128) × (c < 128)
unfolding short_escape
short_is_ascii x c e = (grind (arith, nat_tests), grind (arith, nat_tests))

backslash_byte : (x : ℕ) (xs : List ℕ) → Plain xs → Inside after_u xs → Inside after_backslash (x ∷ xs)
unfolding content
backslash_byte x xs more unicode s u e =
    elim (cases_eq x 117) [
      | inl is ↦
          let rest : content after_u xs ≡ Some s = rw (eq-eqb x 117 is) at e in
          unicode s (after_ascii x xs (omega arith) u) rest
      | inr not ↦
          let rest : option_and_then (λ c. prepend (c ∷ []) (content plain xs)) (short_escape x) ≡ Some s =
          rw (ne_eqb x 117 not) at e in
          option_and_then_some {P = IsUtf8 s} (λ c. prepend (c ∷ []) (content plain xs))
          (short_escape x) s rest (λ c short read.
          let small = short_is_ascii x c short in
          after_plain xs (c ∷ []) s more (after_ascii x xs small.0 u) (ascii_one c small.1) read)
    ]

hex_is_ascii : (c : ℕ) → is_digit c 16 ≡ true → (c < 128) × (digit_value c < 16)
hex_is_ascii c h = (grind (arith, nat_tests), grind (arith, nat_tests))

-- four hexadecimal digits, and the number that they spell
record Unit4 (a b c d v : ℕ) : Type 0 where
  one : a < 128
  two : b < 128
  three : c < 128
  four : d < 128
  fits : v < 65536

code_unit_is : (a b c d v : ℕ) → code_unit a b c d ≡ Some v → Unit4 a b c d v
unfolding code_unit
code_unit_is a b c d v e =
    let test = cond_some (is_digit a 16 && is_digit b 16 && is_digit c 16 && is_digit d 16) _ v e in
    let abc = and_parts _ _ test.0 in
    let ab = and_parts _ _ abc.0 in
    let one = and_parts _ _ ab.0 in
    let x = hex_is_ascii a one.0 in
    let y = hex_is_ascii b one.1 in
    let z = hex_is_ascii c ab.1 in
    let w = hex_is_ascii d abc.1 in
    record { one = x.0; two = y.0; three = z.0; four = w.0; fits = omega (arith, test.1, x.1, y.1, z.1, w.1) }

after_four : (a b c d v : ℕ) (xs : List ℕ) → Unit4 a b c d v → IsUtf8 (a ∷ b ∷ c ∷ d ∷ xs) → IsUtf8 xs
after_four a b c d v xs h u =
    after_ascii d xs h.four (after_ascii c _ h.three (after_ascii b _ h.two (after_ascii a _ h.one u)))

utf8_scalar : (c : ℕ) → (c < 55296) ⊎ ((57344 ≤ c) × (c < 1114112)) → IsUtf8 (encode_utf8 c)
utf8_scalar c (inl low) = IsUtf8-encode c (grind (arith, nat_tests))
utf8_scalar c (inr high) = let a = high.0 in let b = high.1 in IsUtf8-encode c (grind (arith, nat_tests))

-- a unit that is no surrogate, or the first of a pair
unit_read : (v : ℕ) (xs s : List ℕ) → v < 65536 → Plain xs
    → ((h : ℕ) → 0xd800 ≤ h → h < 0xdc00 → Inside (after_high h) xs) → IsUtf8 xs
    → cond (is_high_surrogate v) (content (after_high v) xs)
    (cond (is_low_surrogate v) None (prepend (encode_utf8 v) (content plain xs)))
    ≡ Some s
    → IsUtf8 s
unit_read v xs s fits more high u e =
    elim (cases_Bool (is_high_surrogate v)) [
      | inl is ↦
          let rest : content (after_high v) xs ≡ Some s = rw is at e in
          high v (grind (arith, nat_tests)) (grind (arith, nat_tests)) s u rest
      | inr not ↦ elim (cases_Bool (is_low_surrogate v)) [
        | inl is ↦ let none : None ≡ Some s = rw (not, is) at e in absurd (cc)
        | inr single ↦
            let rest : prepend (encode_utf8 v) (content plain xs) ≡ Some s = rw (not, single) at e in
            let range : (v < 55296) ⊎ ((57344 ≤ v) × (v < 1114112)) =
            elim (cases_lt v 55296) [
              | inl low ↦ inl low
              | inr l ↦ inr (grind (arith, nat_tests), omega arith)
            ] in
            after_plain xs (encode_utf8 v) s more u (utf8_scalar v range) rest
      ]
    ]

u_bytes : (a b c d : ℕ) (xs : List ℕ) → Plain xs
    → ((h : ℕ) → 0xd800 ≤ h → h < 0xdc00 → Inside (after_high h) xs) → Inside after_u (a ∷ b ∷ c ∷ d ∷ xs)
unfolding content
u_bytes a b c d xs more high s u e =
    option_and_then_some {P = IsUtf8 s}
    (λ v. cond (is_high_surrogate v) (content (after_high v) xs)
    (cond (is_low_surrogate v) None (prepend (encode_utf8 v) (content plain xs))))
    (code_unit a b c d) s e (λ v unit read.
    let is = code_unit_is a b c d v unit in
    unit_read v xs s is.fits more high (after_four a b c d v xs is u) read)

low_read : (h v : ℕ) (xs s : List ℕ) → 0xd800 ≤ h → h < 0xdc00 → Plain xs → IsUtf8 xs
    → cond (is_low_surrogate v) (prepend (encode_utf8 (surrogate_pair h v)) (content plain xs)) None ≡ Some s
    → IsUtf8 s
low_read h v xs s low high more u e =
    elim (cases_Bool (is_low_surrogate v)) [
      | inl is ↦
          let rest : prepend (encode_utf8 (surrogate_pair h v)) (content plain xs) ≡ Some s = rw is at e in
          let from : 0xdc00 ≤ v = grind (arith, nat_tests) in
          let below : v < 0xe000 = grind (arith, nat_tests) in
          after_plain xs (encode_utf8 (surrogate_pair h v)) s more u
          (utf8_scalar (surrogate_pair h v) (inr (omega arith, omega arith))) rest
      | inr not ↦ let none : None ≡ Some s = rw not at e in absurd (cc)
    ]

high_bytes : (h x y a b c d : ℕ) (xs : List ℕ) → 0xd800 ≤ h → h < 0xdc00 → Plain xs
    → Inside (after_high h) (x ∷ y ∷ a ∷ b ∷ c ∷ d ∷ xs)
unfolding content
high_bytes h x y a b c d xs low high more s u e =
    elim (cases_Bool (eqb x 92 && eqb y 117)) [
      | inl is ↦
          let both = and_parts (eqb x 92) (eqb y 117) is in
          let first : x < 128 = grind (arith, nat_tests) in
          let second : y < 128 = grind (arith, nat_tests) in
          let rest : option_and_then
          (λ l.
          cond (is_low_surrogate l) (prepend (encode_utf8 (surrogate_pair h l)) (content plain xs)) None)
          (code_unit a b c d)
          ≡ Some s =
          rw is at e in
          option_and_then_some {P = IsUtf8 s}
          (λ l.
          cond (is_low_surrogate l) (prepend (encode_utf8 (surrogate_pair h l)) (content plain xs)) None)
          (code_unit a b c d) s rest (λ v unit read.
          let four = code_unit_is a b c d v unit in
          low_read h v xs s low high more
          (after_four a b c d v xs four (after_ascii y _ second (after_ascii x _ first u))) read)
      | inr not ↦ let none : None ≡ Some s = rw not at e in absurd (cc)
    ]

in_u_step : (xs : List ℕ) → ((ys : List ℕ) → length ys < length xs → Modes ys) → Inside after_u xs
unfolding content
in_u_step [] modes s u e = absurd (cc)
in_u_step (a ∷ []) modes s u e = absurd (cc)
in_u_step (a ∷ b ∷ []) modes s u e = absurd (cc)
in_u_step (a ∷ b ∷ c ∷ []) modes s u e = absurd (cc)
in_u_step (a ∷ b ∷ c ∷ d ∷ xs) modes s u e =
    let m = modes xs (omega arith) in u_bytes a b c d xs m.in_plain m.in_high s u e

in_high_step : (xs : List ℕ) → ((ys : List ℕ) → length ys < length xs → Modes ys) → (h : ℕ) → 0xd800 ≤ h
    → h < 0xdc00 → Inside (after_high h) xs
unfolding content
in_high_step [] modes h low high s u e = absurd (cc)
in_high_step (x ∷ []) modes h low high s u e = absurd (cc)
in_high_step (x ∷ y ∷ []) modes h low high s u e = absurd (cc)
in_high_step (x ∷ y ∷ a ∷ []) modes h low high s u e = absurd (cc)
in_high_step (x ∷ y ∷ a ∷ b ∷ []) modes h low high s u e = absurd (cc)
in_high_step (x ∷ y ∷ a ∷ b ∷ c ∷ []) modes h low high s u e = absurd (cc)
in_high_step (x ∷ y ∷ a ∷ b ∷ c ∷ d ∷ xs) modes h low high s u e =
    high_bytes h x y a b c d xs low high (modes xs (omega arith)).in_plain s u e

in_backslash_step : (xs : List ℕ) → ((ys : List ℕ) → length ys < length xs → Modes ys)
    → Inside after_backslash xs
unfolding content
in_backslash_step [] modes s u e = absurd (cc)
in_backslash_step (x ∷ xs) modes s u e =
    let m = modes xs (omega arith) in backslash_byte x xs m.in_plain m.in_u s u e

in_plain_step : (xs : List ℕ) → ((ys : List ℕ) → length ys < length xs → Modes ys) → Plain xs
unfolding content
in_plain_step [] modes p s u e = absurd (cc)
in_plain_step (x ∷ xs) modes p s u e =
    let m = modes xs (omega arith) in plain_byte x xs m.in_plain m.in_backslash p s u e

modes_of : (n : ℕ) (xs : List ℕ) → length xs ≤ n → Modes xs
modes_of zero xs h =
    let shorter : (ys : List ℕ) → length ys < length xs → Modes ys = λ ys l. absurd (omega arith) in
    record {
      in_plain = in_plain_step xs shorter;
      in_backslash = in_backslash_step xs shorter;
      in_u = in_u_step xs shorter;
      in_high = in_high_step xs shorter;
    }
modes_of (suc n) xs h =
    let shorter : (ys : List ℕ) → length ys < length xs → Modes ys = λ ys l. modes_of n ys (omega arith) in
    record {
      in_plain = in_plain_step xs shorter;
      in_backslash = in_backslash_step xs shorter;
      in_u = in_u_step xs shorter;
      in_high = in_high_step xs shorter;
    }

utf8-content : (xs s : List ℕ) → IsUtf8 xs → content plain xs ≡ Some s → IsUtf8 s
utf8-content xs s u e = (modes_of (length xs) xs (omega arith)).in_plain [] s u e

-- ---- tokens

abbrev pub HasUtf8 : Token → Type 0
HasUtf8 spelled.begin_object = ⊤
HasUtf8 spelled.end_object = ⊤
HasUtf8 spelled.begin_array = ⊤
HasUtf8 spelled.end_array = ⊤
HasUtf8 (spelled.key s) = IsUtf8 s
HasUtf8 (spelled.string s) = IsUtf8 s
HasUtf8 (spelled.number s) = ⊤
HasUtf8 (spelled.boolean b) = ⊤
HasUtf8 spelled.null = ⊤
HasUtf8 spelled.bad = ⊤

abbrev pub HaveUtf8 : List Token → Type 0
HaveUtf8 [] = ⊤
HaveUtf8 (t ∷ ts) = HasUtf8 t × HaveUtf8 ts

abbrev LexemeHasUtf8 : Lexeme → Type 0
LexemeHasUtf8 (token t) = HasUtf8 t
LexemeHasUtf8 comma = ⊤
LexemeHasUtf8 colon = ⊤

abbrev LexemesHaveUtf8 : List Lexeme → Type 0
LexemesHaveUtf8 [] = ⊤
LexemesHaveUtf8 (l ∷ ls) = LexemeHasUtf8 l × LexemesHaveUtf8 ls

-- a fact of both values is a fact of the chosen one
pub either : {A : Type 0} (P : A → Type 0) (b : Bool) (x y : A) → P x → P y → P (cond b x y)
either P true x y h k = h
either P false x y h k = k

literal_has : (name : List ℕ) (t : Token) (text : List ℕ) → HasUtf8 t → HasUtf8 (literal name t text)
literal_has name t text h = either HasUtf8 _ t spelled.bad h tt

number_has : (text : List ℕ) (o : Option (List ℕ)) → HasUtf8 (number_before text o)
number_has text None = tt
number_has text (Some rest) = either HasUtf8 (ends_word rest) (spelled.number _) spelled.bad tt tt

one_of : (a b c : Bool) (x y z w : Token) → HasUtf8 x → HasUtf8 y → HasUtf8 z → HasUtf8 w
    → HasUtf8 (cond a x (cond b y (cond c z w)))
one_of true b c x y z w h i j k = h
one_of false true c x y z w h i j k = i
one_of false false true x y z w h i j k = j
one_of false false false x y z w h i j k = k

word_has : (text : List ℕ) → HasUtf8 (word text)
unfolding word
word_has text =
    let yes = spelled.boolean true in
    let no = spelled.boolean false in
    one_of (head text == 116) (head text == 102) (head text == 110)
    (literal true_text yes text) (literal false_text no text) (literal null_text spelled.null text)
    (number_before text (after_number text))
    (literal_has true_text yes text tt) (literal_has false_text no text tt)
    (literal_has null_text spelled.null text tt) (number_has text (after_number text))

punctuation_has : (a b c d e : Bool)
    → LexemeHasUtf8 (cond a (token spelled.begin_object)
    (cond b (token spelled.end_object)
    (cond c (token spelled.begin_array) (cond d (token spelled.end_array) (cond e comma colon)))))
punctuation_has true b c d e = tt
punctuation_has false true c d e = tt
punctuation_has false false true d e = tt
punctuation_has false false false true e = tt
punctuation_has false false false false true = tt
punctuation_has false false false false false = tt

operator_has : (x : ℕ) → LexemeHasUtf8 (operator_lexeme x)
operator_has x = punctuation_has (x == 123) (x == 125) (x == 91) (x == 93) (x == 44)

string_has : (o : Option (List ℕ)) → ((s : List ℕ) → o ≡ Some s → IsUtf8 s) → HasUtf8 (string_token o)
string_has None h = tt
string_has (Some s) h = h s refl

quote_is : (x : ℕ) → class x ≡ quote → x ≡ 34
quote_is x e =
    elim (cases_eq x 34) [
      | inl is ↦ is
      | inr not ↦ absurd (other_class (eqb x 92) _ _ (rw (ne_eqb x 34 not) at e))
    ]
  where
    other_class : (b o s : Bool) → cond b backslash (cond o operator (cond s space other)) ≡ quote → ⊥
    other_class true o s e = cc
    other_class false true s e = cc
    other_class false false true e = cc
    other_class false false false e = cc

byte_has : (mode : Mode) (c : Class) (x : ℕ) (xs p : List ℕ) (k : Mode → List Lexeme)
    → class x ≡ c → IsUtf8 (p ++ x ∷ xs) → ((next : Mode) → LexemesHaveUtf8 (k next))
    → LexemesHaveUtf8 (lex_byte mode c x xs k)
byte_has between quote x xs p k is u more =
    let rest = (cut p x xs (omega (arith, quote_is x is)) u).1 in
    (string_has (content plain xs) (λ s e. utf8-content xs s rest e), more in_string)
byte_has between backslash x xs p k is u more = (tt, more in_word)
byte_has between operator x xs p k is u more = (operator_has x, more between)
byte_has between space x xs p k is u more = more between
byte_has between other x xs p k is u more = (word_has (x ∷ xs), more in_word)
byte_has in_word quote x xs p k is u more = more in_word
byte_has in_word backslash x xs p k is u more = more in_word
byte_has in_word operator x xs p k is u more = (operator_has x, more between)
byte_has in_word space x xs p k is u more = more between
byte_has in_word other x xs p k is u more = more in_word
byte_has in_string quote x xs p k is u more = more between
byte_has in_string backslash x xs p k is u more = more in_escape
byte_has in_string operator x xs p k is u more = more in_string
byte_has in_string space x xs p k is u more = more in_string
byte_has in_string other x xs p k is u more = more in_string
byte_has in_escape c x xs p k is u more = more in_string

lex_has : (xs p : List ℕ) → IsUtf8 (p ++ xs) → (mode : Mode) → LexemesHaveUtf8 (lex mode xs)
unfolding lex
lex_has [] p u m = tt
lex_has (x ∷ xs) p u m =
    byte_has m (class x) x xs p (λ next. lex next xs) refl u
    (lex_has xs (p ++ x ∷ []) (subst IsUtf8 (sym (append_assoc p (x ∷ []) xs)) u))

allowed_has : (b : Bool) (t : Token) (k : Place → List Token) (next : Place) → HasUtf8 t
    → ((place : Place) → HaveUtf8 (k place)) → HaveUtf8 (if_allowed b t k next)
allowed_has true t k next h more = (h, more next)
allowed_has false t k next h more = (tt, tt)

placed_has : (place : Place) (t : Token) (b : Bool) (k : Place → List Token) → HasUtf8 t
    → ((next : Place) → HaveUtf8 (k next)) → HaveUtf8 (place_token place t b k)
placed_has place spelled.begin_object b k h more =
    allowed_has (may_begin place) spelled.begin_object k fresh tt more
placed_has place spelled.end_object b k h more =
    allowed_has (may_close place) spelled.end_object k after_value tt more
placed_has place spelled.begin_array b k h more =
    allowed_has (may_begin place) spelled.begin_array k fresh tt more
placed_has place spelled.end_array b k h more =
    allowed_has (may_close place) spelled.end_array k after_value tt more
placed_has place (spelled.key s) b k h more = (tt, tt)
placed_has place (spelled.string s) true k h more =
    allowed_has (may_begin place) (spelled.key s) k after_key h more
placed_has place (spelled.string s) false k h more =
    allowed_has (may_begin place) (spelled.string s) k after_value h more
placed_has place (spelled.number s) b k h more =
    allowed_has (may_begin place) (spelled.number s) k after_value tt more
placed_has place (spelled.boolean c) b k h more =
    allowed_has (may_begin place) (spelled.boolean c) k after_value tt more
placed_has place spelled.null b k h more = allowed_has (may_begin place) spelled.null k after_value tt more
placed_has place spelled.bad b k h more = (tt, tt)

punctuate_has : (ls : List Lexeme) → LexemesHaveUtf8 ls → (place : Place) → HaveUtf8 (punctuate place ls)
unfolding punctuate
punctuate_has [] h fresh = tt
punctuate_has [] h after_value = tt
punctuate_has [] h after_comma = (tt, tt)
punctuate_has [] h after_key = (tt, tt)
punctuate_has (token t ∷ ls) h fresh = placed_has fresh t (begins_colon ls) _ h.0 (punctuate_has ls h.1)
punctuate_has (token t ∷ ls) h after_value =
    placed_has after_value t (begins_colon ls) _ h.0 (punctuate_has ls h.1)
punctuate_has (token t ∷ ls) h after_comma =
    placed_has after_comma t (begins_colon ls) _ h.0 (punctuate_has ls h.1)
punctuate_has (token t ∷ ls) h after_key =
    placed_has after_key t (begins_colon ls) _ h.0 (punctuate_has ls h.1)
punctuate_has (comma ∷ ls) h fresh = (tt, tt)
punctuate_has (comma ∷ ls) h after_value = punctuate_has ls h.1 after_comma
punctuate_has (comma ∷ ls) h after_comma = (tt, tt)
punctuate_has (comma ∷ ls) h after_key = (tt, tt)
punctuate_has (colon ∷ ls) h fresh = (tt, tt)
punctuate_has (colon ∷ ls) h after_value = (tt, tt)
punctuate_has (colon ∷ ls) h after_comma = (tt, tt)
punctuate_has (colon ∷ ls) h after_key = punctuate_has ls h.1 fresh

pub tokens_have_utf8 : (text : List ℕ) → IsUtf8 text → HaveUtf8 (tokens text)
tokens_have_utf8 text u = punctuate_has (lex between text) (lex_has text [] u between) fresh

-- ---- values

abbrev mutual
  pub IsJsonUtf8 : json.Json → Type 0
  IsJsonUtf8 json.null = ⊤
  IsJsonUtf8 (json.boolean b) = ⊤
  IsJsonUtf8 (json.number s) = ⊤
  IsJsonUtf8 (json.string s) = IsUtf8 s
  IsJsonUtf8 (json.array js) = AreItemsUtf8 js
  IsJsonUtf8 (json.object ms) = AreMembersUtf8 ms

  pub AreItemsUtf8 : json.Items → Type 0
  AreItemsUtf8 json.no_items = ⊤
  AreItemsUtf8 (json.item j js) = IsJsonUtf8 j × AreItemsUtf8 js

  pub AreMembersUtf8 : json.Members → Type 0
  AreMembersUtf8 json.no_members = ⊤
  AreMembersUtf8 (json.member k j ms) = IsUtf8 k × IsJsonUtf8 j × AreMembersUtf8 ms

mutual
  pub json_has : (j : json.Json) (rest : List Token) → HaveUtf8 (json_tokens j ++ rest)
      → IsJsonUtf8 j × HaveUtf8 rest
  json_has json.null rest h = (tt, h.1)
  json_has (json.boolean b) rest h = (tt, h.1)
  json_has (json.number s) rest h = (tt, h.1)
  json_has (json.string s) rest h = h
  json_has (json.array js) rest h = items_has js rest h.1
  json_has (json.object ms) rest h = members_has ms rest h.1

  items_has : (js : json.Items) (rest : List Token) → HaveUtf8 (items_tokens js ++ rest)
      → AreItemsUtf8 js × HaveUtf8 rest
  items_has json.no_items rest h = (tt, h.1)
  items_has (json.item j js) rest h =
      let first = json_has j _ (subst HaveUtf8 (append_assoc (json_tokens j) (items_tokens js) rest) h) in
      let others = items_has js rest first.1 in
      ((first.0, others.0), others.1)

  members_has : (ms : json.Members) (rest : List Token) → HaveUtf8 (members_tokens ms ++ rest)
      → AreMembersUtf8 ms × HaveUtf8 rest
  members_has json.no_members rest h = (tt, h.1)
  members_has (json.member k j ms) rest h =
      let first = json_has j _ (subst HaveUtf8 (append_assoc (json_tokens j) (members_tokens ms) rest) h.1) in
      let others = members_has ms rest first.1 in
      ((h.0, first.0, others.0), others.1)
