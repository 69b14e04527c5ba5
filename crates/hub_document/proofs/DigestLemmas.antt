-- A digest and its text.
use Rattle.std.proofs.Common.{◌≡◌, ◌⊎◌, ℕ, ◌+◌, ◌-◌, ◌*◌, ◌<◌, ◌≤◌, ◌^◌, Bool, false, List, [], ◌∷◌, ◌++◌, length}
use Rattle.std.proofs.Common.{take, replicate, sym, ap, ◌∙◌, subst, append_assoc, decimal, slice_index, slice_set}
use Rattle.std.proofs.Common.{inl, inr, arith}
use Rattle.std.proofs.lemmas.Bool.{cases_lt}
use Rattle.std.proofs.lemmas.List.{get_or-set_same, get_or-set_other}
use Rattle.std.specs.Prelude.{Option, Some, None, Result}
use Rattle.std.specs.Str.{bytes_eq}
use Rattle.std.proofs.lemmas.Bool.{both_ways}
use Rattle.std.proofs.lemmas.Option.{same_Some}
use Rattle.std.specs.Result.{result_ok}
use Rattle.hex.specs.declared.error.FromHexError.{FromHexError}
use Rattle.std.proofs.lemmas.Slice.Eq.{bytes_eq-Decides}
use Rattle.std.proofs.Math.Seq.{take-append_seam}
use Rattle.hex.specs.Hex.{IsBytes, decode_sized, encode_lower, lower_digits}
use Rattle.hex.proofs.HexLemmas.{length-encode_with, decode_sized-encode_lower}
use Rattle.hub_document.specs.Fields.{IsLaidOut}
use Rattle.hub_document.proofs.MadeLemmas.{is_hash_of}
use Rattle.hub_model.specs.Revision.{text_of}
use Rattle.json.specs.Print.{quoted}
use Rattle.hub_document.proofs.RevisionLemmas.{hash_revision, laid_out}
use Rattle.hub_document.proofs.WriteLemmas.{quoted_text}

-- the text of a digest has 32 letters
pub text_length : (d : List ℕ) → length d ≡ 16 → length (encode_lower d) ≡ 32
text_length d sized = length-encode_with lower_digits d ∙ ap (λ n. 2 * n) sized

-- a digest's text with zeros after it is laid out well
pub text_laid_out : (n : ℕ) (d out : List ℕ) → 1 ≤ n → n < 2 ^ 16 → IsBytes d → length d ≡ 16
    → out ≡ encode_lower d → IsLaidOut n 32 (out ++ replicate 32 0)
text_laid_out n d out low high fits sized written =
    rw written
    (subst (λ k. IsLaidOut n k (encode_lower d ++ replicate (64 - k) 0)) (text_length d sized)
    (laid_out n (encode_lower d) low high (is_hash_of d fits sized)))

-- the JSON string of a revision whose hash is a digest's text is made of these parts
pub quoted_parts : (d : List ℕ) (n : ℕ) → 1 ≤ n → n < 2 ^ 16 → IsBytes d → length d ≡ 16
    → quoted (text_of (record { generation = n; hash = encode_lower d }))
    ≡ 34 ∷ (decimal n ++ 45 ∷ (encode_lower d ++ 34 ∷ []))
quoted_parts d n low high fits sized =
    quoted_text (record { generation = n; hash = encode_lower d })
    (hash_revision n (encode_lower d) low high (is_hash_of d fits sized))
    ∙ ap (λ l. 34 ∷ l) (append_assoc (decimal n) (45 ∷ encode_lower d) (34 ∷ []))

-- the first 32 bytes are a digest's text, whatever follows
pub text_kept : (d out zeros : List ℕ) → length d ≡ 16 → out ≡ encode_lower d
    → take 32 (out ++ zeros) ≡ encode_lower d
text_kept d out zeros sized written =
    rw written
    (subst (λ k. take k (encode_lower d ++ zeros) ≡ encode_lower d) (text_length d sized)
    (take-append_seam (encode_lower d) zeros))

-- a reading of hexadecimal digits reads a digest's text as the digest
module _ (hash : List ℕ) (read : Result (List ℕ) FromHexError) (is : read ≡ decode_sized hash 16) (d : List ℕ)
    (sized : length d ≡ 16) (fits : IsBytes d) (same : hash ≡ encode_lower d) where
  text_read : result_ok read ≡ Some d
  text_read = ap result_ok (is ∙ ap (λ h. decode_sized h 16) same ∙ decode_sized-encode_lower d 16 sized fits)

  pub not_read : None ≡ result_ok read → ⊥
  not_read none = absurd (let e : ◌≡◌ {A = Option (List ℕ)} None (Some d) = none ∙ text_read in cc)

  pub other_read : (found : List ℕ) (b : Bool) → Some found ≡ result_ok read
      → b ≡ bytes_eq hash (encode_lower found) → b ≡ false → ⊥
  other_read found b got says other =
      let one : found ≡ d = same_Some found d (got ∙ text_read) in
      both_ways _ (sym says ∙ other)
      ((bytes_eq-Decides hash (encode_lower found)).1 (same ∙ ap encode_lower (sym one)))

-- A list has the number of f at each place below n. Where the number at n is set, it has the number of f at each
-- place below n + 1.
pub set_next : (f : ℕ → ℕ) (xs : List ℕ) (n x : ℕ) → n < length xs → x ≡ f n
    → ((i : ℕ) → i < n → slice_index xs i ≡ f i)
    → (i : ℕ) → i < n + 1 → slice_index (slice_set xs n x) i ≡ f i
set_next f xs n x room is before i within = from (cases_lt i n)
  where
    from : (i < n) ⊎ (n ≤ i) → slice_index (slice_set xs n x) i ≡ f i
    from (inl low) = get_or-set_other xs n i x 0 (λ same. absurd (omega (arith, same, low))) ∙ before i low
    from (inr past) =
        let same : i ≡ n = omega (arith, within, past) in
        subst (λ j. slice_index (slice_set xs n x) j ≡ f j) (sym same) (get_or-set_same xs n x 0 room ∙ is)
