-- The hash of a revision that is made here.
use Rattle.std.proofs.Common.{◌≡◌, ℕ, zero, suc, ◌*◌, ◌/◌, ◌%◌, ◌<◌, Bool, true, List, []}
use Rattle.std.proofs.Common.{◌∷◌, length, slice_index, inl, inr, refl, ap, ◌∙◌, arith}
use Rattle.std.specs.Prelude.{◌&&◌}
use Rattle.std.specs.List.{list_all}
use Rattle.std.proofs.lemmas.Bool.{and_parts, cases_lt}
use Rattle.hex.specs.Hex.{encode_lower, encode_with, lower_digits}
use Rattle.hex.proofs.HexLemmas.{length-encode_with}
use Rattle.hub_model.specs.Revision.{is_hash_byte}
use Rattle.hub_document.specs.RevisionText.{is_hash}

-- whether the first n of the sixteen digits are letters of a hash: a test that computes
abbrev are_letters_below : ℕ → Bool
are_letters_below zero = true
are_letters_below (suc n) = is_hash_byte (slice_index lower_digits n) && are_letters_below n

letter_below : (n k : ℕ) → are_letters_below n ≡ true → k < n
    → is_hash_byte (slice_index lower_digits k) ≡ true
letter_below zero k h lt = absurd (omega arith)
letter_below (suc n) k h lt =
    let parts = and_parts (is_hash_byte (slice_index lower_digits n)) (are_letters_below n) h in
    elim (cases_lt k n) [
      | inl below ↦ letter_below n k parts.1 below
      | inr top ↦ let e : k ≡ n = omega arith in rw e parts.0
    ]

-- the hexadecimal text of bytes has letters of a hash alone
letters_of : (bs : List ℕ) → ((i : ℕ) → slice_index bs i < 256)
    → list_all is_hash_byte (encode_lower bs) ≡ true
unfolding encode_with
letters_of [] fits = refl
letters_of (b ∷ bs) fits =
    let small : b < 256 = fits 0 in
    let high : is_hash_byte (slice_index lower_digits (b / 16)) ≡ true =
    letter_below 16 (b / 16) refl (omega arith) in
    let low : is_hash_byte (slice_index lower_digits (b % 16)) ≡ true =
    letter_below 16 (b % 16) refl (omega arith) in
    rw (high, low) (letters_of bs (λ i. fits (suc i)))

-- so a digest's text is a hash
pub is_hash_of : (bs : List ℕ) → ((i : ℕ) → slice_index bs i < 256) → length bs ≡ 16
    → is_hash (encode_lower bs) ≡ true
is_hash_of bs fits sized =
    let len : length (encode_lower bs) ≡ 32 = length-encode_with lower_digits bs ∙ ap (λ n. 2 * n) sized in
    rw len (letters_of bs fits)
