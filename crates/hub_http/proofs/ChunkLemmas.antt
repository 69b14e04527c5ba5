-- The head of a chunk, written from its end.
use Rattle.std.proofs.Common.{◌≡◌, ℕ, zero, suc, ◌+◌, ◌-◌, ◌*◌, ◌/◌, ◌%◌, ◌^◌, ◌<◌}
use Rattle.std.proofs.Common.{◌≤◌, ◌==◌, Bool, true, false, cond, List, [], ◌∷◌, ◌++◌}
use Rattle.std.proofs.Common.{length, take, drop, refl, sym, ap, subst, ◌∙◌, arith}
use Rattle.std.proofs.lemmas.Bool.Decides.{nat_tests}
use Rattle.std.proofs.Common.{append_assoc, length-append, Result, OnOk}
use Rattle.std.specs.List.{copy_within}
use Rattle.std.proofs.lemmas.List.{drop-set, drop-set-lt, take-set, take_more_set, take-append-drop}
use Rattle.std.proofs.lemmas.List.{take-append-le, take-take, drop-append-le}
use Rattle.std.proofs.lemmas.List.{length-drop, length-set, length-take-le}
use Rattle.std.proofs.lemmas.List.Edits.{take-paste}
use Rattle.std.proofs.lemmas.Result.{on_ok_weaker}
use Rattle.std.proofs.Math.ListN.{set}
use Rattle.std.proofs.Math.Nat.{pow-succ'}
use lib.Seq.{take-append_seam, drop-append_seam, drop-append-add}
use Rattle.std.specs.Fmt.{digit_glyph, digits, digits_onto}
use Rattle.hub_document.specs.Appends.{Appends}
use Rattle.hub_document.proofs.AppendLemmas.{lent_back}
use Rattle.hub_document.proofs.WriteLemmas.{three_parts}
use Rattle.hub_http.specs.Texts.{chunk_text}
use Rattle.hub_http.specs.Chunks.{text_chunks}

-- digits onto a text with more bytes behind it are the digits onto the text, and then these bytes
onto_more : (k n : ℕ) (acc more : List ℕ)
    → digits_onto k 16 false n (acc ++ more) ≡ digits_onto k 16 false n acc ++ more
onto_more zero n acc more = refl
onto_more (suc k) n acc more =
    by_test (n / 16 == 0) _ _ _ more (onto_more k (n / 16) (digit_glyph false (n % 16) ∷ acc) more)
  where
    by_test : (b : Bool) (x y z more : List ℕ) → y ≡ z ++ more → cond b (x ++ more) y ≡ cond b x z ++ more
    by_test true x y z more e = refl
    by_test false x y z more e = e

-- digits onto a rest are the digits, and then the rest
none_written : (n : ℕ) (rest : List ℕ) → digits_onto 64 16 false n rest ≡ digits 16 false n ++ rest
unfolding digits
none_written n rest = onto_more 64 n [] rest

one_more : (k n : ℕ) (acc : List ℕ) → 16 ≤ n
    → digits_onto (suc k) 16 false n acc ≡ digits_onto k 16 false (n / 16) (digit_glyph false (n % 16) ∷ acc)
one_more k n acc big =
    let e : (n / 16 == 0) ≡ false = grind (arith, nat_tests) in
    ap (λ b. cond b (digit_glyph false (n % 16) ∷ acc)
    (digits_onto k 16 false (n / 16) (digit_glyph false (n % 16) ∷ acc))) e

last_one : (k n : ℕ) (acc : List ℕ) → n < 16 → digits_onto (suc k) 16 false n acc ≡ digit_glyph false n ∷ acc
last_one k n acc small =
    let e : (n / 16 == 0) ≡ true = grind (arith, nat_tests) in
    let m : n % 16 ≡ n = omega arith in
    ap (λ b. cond b (digit_glyph false (n % 16) ∷ acc)
    (digits_onto k 16 false (n / 16) (digit_glyph false (n % 16) ∷ acc))) e
    ∙ ap (λ d. digit_glyph false d ∷ acc) m

-- the digits of the number that is left, and then those that are written behind `at`, are the whole
pub record SizeLeft (at left : ℕ) (bytes whole : List ℕ) : Type 0 where
  pub place : at < 16
  pub room : 16 ≤ length bytes
  pub fits : left < 16 ^ (at + 1)
  pub written : digits_onto (49 + at) 16 false left (drop (at + 1) bytes) ≡ whole

above_zero : (at left : ℕ) → 16 ≤ left → left < 16 ^ (at + 1) → (k : ℕ) × (at ≡ suc k)
above_zero zero left big fits = absurd (omega arith)
above_zero (suc k) left big fits = (k, refl)

fewer : (k left : ℕ) → left < 16 ^ (suc k + 1) → left / 16 < 16 ^ (k + 1)
fewer k left fits =
    let e : suc k + 1 ≡ suc (k + 1) = omega arith in
    let p : 16 ^ (suc k + 1) ≡ 16 * 16 ^ (k + 1) = ap (λ j. 16 ^ j) e ∙ pow-succ' 16 (k + 1) in
    omega arith

next_digit : (k left : ℕ) (bytes whole : List ℕ) → 16 ≤ left → SizeLeft (suc k) left bytes whole
    → SizeLeft k (left / 16) (set bytes (suc k) (digit_glyph false (left % 16))) whole
next_digit k left bytes whole big h = record {
  place = omega (arith, h.place);
  room = omega (arith, h.room, length-set bytes (suc k) (digit_glyph false (left % 16)));
  fits = fewer k left h.fits;
  written =
      let e : k + 1 ≡ suc k = omega arith in
      let f : suc k + 1 ≡ suc (suc k) = omega arith in
      let d : 49 + suc k ≡ suc (49 + k) = omega arith in
      let room : suc k < length bytes = omega (arith, h.place, h.room) in
      ap (λ j.
      digits_onto (49 + k) 16 false (left / 16) (drop j (set bytes (suc k) (digit_glyph false (left % 16)))))
      e
      ∙ ap (digits_onto (49 + k) 16 false (left / 16))
      (drop-set bytes (suc k) (digit_glyph false (left % 16)) room)
      ∙ sym (one_more (49 + k) left (drop (suc k + 1) bytes) big)
      ∙ ap (λ j. digits_onto j 16 false left (drop (suc k + 1) bytes)) (sym d)
      ∙ h.written;
}

pub one_digit : (at left : ℕ) (bytes whole : List ℕ) → 16 ≤ left → SizeLeft at left bytes whole
    → SizeLeft (at - 1) (left / 16) (set bytes at (digit_glyph false (left % 16))) whole
one_digit zero left bytes whole big h = absurd (omega (arith, (above_zero zero left big h.fits).1))
one_digit (suc k) left bytes whole big h =
    let e : suc k - 1 ≡ k = omega arith in
    subst (λ j. SizeLeft j (left / 16) (set bytes (suc k) (digit_glyph false (left % 16))) whole) (sym e)
    (next_digit k left bytes whole big h)

pub last_digit : (at left : ℕ) (bytes whole : List ℕ) → left < 16 → SizeLeft at left bytes whole
    → drop at (set bytes at (digit_glyph false left)) ≡ whole
last_digit at left bytes whole small h =
    let e : 49 + at ≡ suc (48 + at) = omega arith in
    drop-set bytes at (digit_glyph false left) (omega (arith, h.place, h.room))
    ∙ sym (last_one (48 + at) left (drop (at + 1) bytes) small)
    ∙ ap (λ k. digits_onto k 16 false left (drop (at + 1) bytes)) (sym e)
    ∙ h.written

-- CR and LF, and then the bytes behind the room
two_set : (bytes : List ℕ) → 18 ≤ length bytes
    → drop 16 (set (set bytes 17 10) 16 13) ≡ 13 ∷ 10 ∷ drop 18 bytes
two_set bytes room =
    drop-set (set bytes 17 10) 16 13 (omega (arith, length-set bytes 17 10))
    ∙ ap (λ l. 13 ∷ l) (drop-set bytes 17 10 (omega arith))

-- only CR and LF are written yet
pub no_digit : (n : ℕ) (bytes : List ℕ) → n < 16 ^ 16 → 18 ≤ length bytes
    → SizeLeft 15 n (set (set bytes 17 10) 16 13) (digits 16 false n ++ (13 ∷ 10 ∷ drop 18 bytes))
no_digit n bytes fits room = record {
  place = omega arith;
  room = omega (arith, length-set (set bytes 17 10) 16 13, length-set bytes 17 10);
  fits = fits;
  written = none_written n _ ∙ ap (λ l. digits 16 false n ++ l) (two_set bytes room);
}

some_text : (text : List ℕ) → 0 < length text → text_chunks text ≡ chunk_text text
some_text [] h = absurd (omega arith)
some_text (b ∷ bs) h = refl

ended : (text : List ℕ) (size : ℕ) → length text ≡ size
    → digits 16 false size ++ (13 ∷ 10 ∷ (text ++ 13 ∷ 10 ∷ [])) ≡ chunk_text text
unfolding chunk_text
ended text size e =
    ap (λ n. digits 16 false n ++ (13 ∷ 10 ∷ (text ++ 13 ∷ 10 ∷ []))) (sym e)
    ∙ sym (three_parts (digits 16 false (length text)) (13 ∷ 10 ∷ []) text (13 ∷ 10 ∷ []))

-- the bytes in front of a place, where other bytes follow them
front_kept : (at : ℕ) (bytes more : List ℕ) → at ≤ length bytes
    → take at (take at bytes ++ more) ≡ take at bytes
front_kept at bytes more room = lent_back at (take at bytes) more (length-take-le at bytes room)

-- the bytes behind four are moved to a place `count` bytes behind `at`, and what is behind them then is cut
moved_behind : (bytes text ext cut : List ℕ) (at len : ℕ) → at + 4 ≤ len → len ≡ length bytes
    → ext ≡ bytes ++ text
    → cut ≡ take (len - 4 + length text) (copy_within ext (at + 4) len (at + length text))
    → cut ≡ take (at + length text) ext ++ drop (at + 4) bytes
moved_behind bytes text ext cut at len room long is after =
    let rest : List ℕ = drop (at + 4) bytes in
    let n : length rest ≡ len - (at + 4) = length-drop (at + 4) bytes ∙ ap (λ k. k - (at + 4)) (sym long) in
    let from : drop (at + 4) ext ≡ rest ++ text =
    ap (drop (at + 4)) is ∙ drop-append-le (at + 4) bytes text (omega arith) in
    let size : length ext ≡ length bytes + length text = ap length is ∙ length-append bytes text in
    let behind : length (drop (at + 4) ext) ≡ length rest + length text =
    ap length from ∙ length-append rest text in
    let e : len - 4 + length text ≡ at + length text + (len - (at + 4)) = omega arith in
    after
    ∙ ap (λ k. take k (copy_within ext (at + 4) len (at + length text))) e
    ∙ take-paste ext (at + length text) (drop (at + 4) ext) (len - (at + 4)) (omega arith) (omega arith)
    ∙ ap (λ l. take (at + length text) ext ++ l)
    (ap (take (len - (at + 4))) from ∙ lent_back (len - (at + 4)) rest text n)

-- a text in place of the four bytes from `at` on
pub four_replaced : (bytes text ext cut new : List ℕ) (at len : ℕ) → at + 4 ≤ len → len ≡ length bytes
    → ext ≡ bytes ++ text
    → cut ≡ take (len - 4 + length text) (copy_within ext (at + 4) len (at + length text))
    → new ≡ take at cut ++ (text ++ drop (at + length text) cut)
    → new ≡ take at bytes ++ (text ++ drop (at + 4) bytes)
four_replaced bytes text ext cut new at len room long is after now =
    let front : List ℕ = take (at + length text) ext in
    let rest : List ℕ = drop (at + 4) bytes in
    let moved = moved_behind bytes text ext cut at len room long is after in
    let size : length ext ≡ length bytes + length text = ap length is ∙ length-append bytes text in
    let n : length front ≡ at + length text = length-take-le (at + length text) ext (omega arith) in
    let before : take at cut ≡ take at bytes =
    ap (take at) moved
    ∙ take-append-le at front rest (omega arith)
    ∙ take-take at (at + length text) ext (omega arith)
    ∙ ap (take at) is
    ∙ take-append-le at bytes text (omega arith) in
    let behind : drop (at + length text) cut ≡ rest =
    ap (drop (at + length text)) moved
    ∙ ap (λ k. drop k (front ++ rest)) (sym n)
    ∙ drop-append_seam front rest in
    now
    ∙ ap (λ l. l ++ (text ++ drop (at + length text) cut)) before
    ∙ ap (λ l. take at bytes ++ (text ++ l)) behind

-- and the bytes in front of it stay
pub four_front : (bytes more new : List ℕ) (at len : ℕ) → at + 4 ≤ len → len ≡ length bytes
    → new ≡ take at bytes ++ more → take at new ≡ take at bytes
four_front bytes more new at len room long now = ap (take at) now ∙ front_kept at bytes more (omega arith)

-- a number below 256 that has two digits
two_digits : (n : ℕ) → 16 ≤ n → n < 256
    → digits 16 false n ≡ digit_glyph false (n / 16) ∷ digit_glyph false (n % 16) ∷ []
unfolding digits
two_digits n big small =
    one_more 63 n [] big ∙ last_one 62 (n / 16) (digit_glyph false (n % 16) ∷ []) (omega arith)

-- two bytes that are written one behind the other
two_written : (bytes : List ℕ) (at a b : ℕ) → at + 4 ≤ length bytes
    → set (set bytes at a) (at + 1) b ≡ take at bytes ++ (a ∷ b ∷ drop (at + 2) bytes)
two_written bytes at a b room =
    let first : List ℕ = set bytes at a in
    let long : at + 1 < length first = omega (arith, length-set bytes at a) in
    let e : at + 1 + 1 ≡ at + 2 = omega arith in
    sym (take-append-drop (at + 1) (set first (at + 1) b))
    ∙ ap (λ l. l ++ drop (at + 1) (set first (at + 1) b))
    (take-set first (at + 1) b ∙ take_more_set bytes at a (omega arith))
    ∙ ap (λ l. (take at bytes ++ a ∷ []) ++ l)
    (drop-set first (at + 1) b long
    ∙ ap (λ l. b ∷ l) (ap (λ n. drop n first) e ∙ drop-set-lt (at + 2) bytes at a (omega arith)))
    ∙ append_assoc (take at bytes) (a ∷ []) (b ∷ drop (at + 2) bytes)

-- a size of two digits, where CR and LF stand behind its place
pub head_set : (bytes : List ℕ) (at size a b : ℕ) → at + 4 ≤ length bytes
    → drop (at + 2) bytes ≡ 13 ∷ 10 ∷ drop (at + 4) bytes → 16 ≤ size → size < 256
    → a ≡ digit_glyph false (size / 16) → b ≡ digit_glyph false (size % 16)
    → set (set bytes at a) (at + 1) b
    ≡ take at bytes ++ (digits 16 false size ++ (13 ∷ 10 ∷ drop (at + 4) bytes))
head_set bytes at size a b room behind big small high low =
    two_written bytes at a b room
    ∙ ap (λ l. take at bytes ++ (a ∷ b ∷ l)) behind
    ∙ ap (λ x. take at bytes ++ (x ∷ b ∷ 13 ∷ 10 ∷ drop (at + 4) bytes)) high
    ∙ ap (λ x. take at bytes ++ (digit_glyph false (size / 16) ∷ x ∷ 13 ∷ 10 ∷ drop (at + 4) bytes)) low
    ∙ ap (λ l. take at bytes ++ (l ++ (13 ∷ 10 ∷ drop (at + 4) bytes))) (sym (two_digits size big small))

-- old bytes, four bytes, a text, and CR and LF
laid : (old text held whole : List ℕ) → held ≡ (old ++ 48 ∷ 48 ∷ 13 ∷ 10 ∷ []) ++ text
    → whole ≡ held ++ 13 ∷ 10 ∷ [] → whole ≡ old ++ (48 ∷ 48 ∷ 13 ∷ 10 ∷ (text ++ 13 ∷ 10 ∷ []))
laid old text held whole is end =
    end
    ∙ ap (λ l. l ++ 13 ∷ 10 ∷ []) is
    ∙ three_parts old (48 ∷ 48 ∷ 13 ∷ 10 ∷ []) text (13 ∷ 10 ∷ [])

laid_behind : (old text held whole : List ℕ) (start k : ℕ) → start ≡ length old
    → held ≡ (old ++ 48 ∷ 48 ∷ 13 ∷ 10 ∷ []) ++ text → whole ≡ held ++ 13 ∷ 10 ∷ []
    → drop (start + k) whole ≡ drop k (48 ∷ 48 ∷ 13 ∷ 10 ∷ (text ++ 13 ∷ 10 ∷ []))
laid_behind old text held whole start k place is end =
    ap (λ n. drop (n + k) whole) place
    ∙ ap (drop (length old + k)) (laid old text held whole is end)
    ∙ drop-append-add old (48 ∷ 48 ∷ 13 ∷ 10 ∷ (text ++ 13 ∷ 10 ∷ [])) k

-- CR and LF stand in front of the text
pub ends_stand : (old text held whole : List ℕ) (start : ℕ) → start ≡ length old
    → held ≡ (old ++ 48 ∷ 48 ∷ 13 ∷ 10 ∷ []) ++ text → whole ≡ held ++ 13 ∷ 10 ∷ []
    → drop (start + 2) whole ≡ 13 ∷ 10 ∷ drop (start + 4) whole
ends_stand old text held whole start place is end =
    laid_behind old text held whole start 2 place is end
    ∙ ap (λ l. 13 ∷ 10 ∷ l) (sym (laid_behind old text held whole start 4 place is end))

-- The head in place of the first four bytes behind the old bytes makes a chunk of the text behind them. The
-- four bytes are `00`, CR and LF.
pub chunk_made : {E : Type 0} (r : Result (Unit {0}) E) (old text held whole new : List ℕ)
    (start size : ℕ) → start ≡ length old → length held ≡ start + 4 + size → 0 < size
    → held ≡ (old ++ 48 ∷ 48 ∷ 13 ∷ 10 ∷ []) ++ text → whole ≡ held ++ 13 ∷ 10 ∷ []
    → OnOk r (new ≡ take start whole ++ (digits 16 false size ++ (13 ∷ 10 ∷ drop (start + 4) whole)))
    → take start new ≡ take start whole → Appends (text_chunks text) r old new
chunk_made r old text held whole new start size place long some is end ok front =
    let before : take start whole ≡ old =
    ap (λ n. take n whole) place
    ∙ ap (take (length old)) (laid old text held whole is end)
    ∙ take-append_seam old (48 ∷ 48 ∷ 13 ∷ 10 ∷ (text ++ 13 ∷ 10 ∷ [])) in
    let behind : drop (start + 4) whole ≡ text ++ 13 ∷ 10 ∷ [] =
    laid_behind old text held whole start 4 place is end in
    let n : length text ≡ size = omega (
      arith,
      long,
      place,
      ap length is,
      length-append (old ++ 48 ∷ 48 ∷ 13 ∷ 10 ∷ []) text,
      length-append old (48 ∷ 48 ∷ 13 ∷ 10 ∷ []),
    ) in
    record {
      ok = on_ok_weaker r (λ e. e
          ∙ ap (λ l. l ++ (digits 16 false size ++ (13 ∷ 10 ∷ drop (start + 4) whole))) before
          ∙ ap (λ l. old ++ (digits 16 false size ++ (13 ∷ 10 ∷ l))) behind
          ∙ ap (λ l. old ++ l) (ended text size n ∙ sym (some_text text (omega (arith, n, some))))) ok;
      front = ap (λ k. take k new) (sym place) ∙ front ∙ before;
    }
