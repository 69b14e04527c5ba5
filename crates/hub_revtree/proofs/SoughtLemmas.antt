-- A digest that is made of a hash is compared in place of the text, as a number.
use Rattle.std.proofs.Common.{◌≡◌, ℕ, zero, suc, ◌+◌, ◌*◌, ◌/◌, ◌<◌, ◌≤◌, ◌^◌}
use Rattle.std.proofs.Common.{List, length, inl, inr, sym, ap, ◌∙◌, arith}
use Rattle.std.specs.Prelude.{Result, Ok, nat_eq}
use Rattle.std.specs.Int.{w128, byte_worth, from_le_bytes, sum_through}
use Rattle.std.specs.List.{slice_index}
use Rattle.std.specs.Str.{bytes_eq}
use Rattle.std.proofs.Math.Nat.{eq-or-lt_of_le, mul-le-mul_right, pow-suc}
use Rattle.std.proofs.lemmas.Bool.{eq-eqb, eqb-true}
use Rattle.std.proofs.lemmas.Grind.{same_number_lists}
use Rattle.std.proofs.lemmas.Nat.{div-mul-add}
use Rattle.std.proofs.lemmas.Slice.Eq.{bytes_eq-Decides}
use Rattle.hex.specs.Hex.{IsBytes, decode_sized, encode_lower}
use Rattle.hex.specs.declared.error.FromHexError.{FromHexError}
use Rattle.hex.proofs.HexLemmas.{decode_sized-encode_lower}
use Rattle.hub_revtree.proofs.StemLemmas.{same_truth}

-- the number of the bytes up to a place is below the worth of 1 at the next place
abbrev worth : (ℕ → ℕ) → ℕ → ℕ
worth f k = sum_through (λ i. byte_worth i (f i)) k

below_next : (f : ℕ → ℕ) → ((i : ℕ) → f i < 256) → (k : ℕ) → worth f k < 256 ^ suc k
below_next f small zero = omega (arith, small 0)
below_next f small (suc k) =
    let own : f (suc k) * 256 ^ suc k ≤ 255 * 256 ^ suc k =
    mul-le-mul_right (256 ^ suc k) (omega (arith, small (suc k))) in
    omega (arith, below_next f small k, own, pow-suc 256 (suc k))

-- so the number gives each of the bytes
same_times : (a b w s t : ℕ) → s < w → t < w → a * w + s ≡ b * w + t → a ≡ b
same_times a b w s t low low' both =
    sym (div-mul-add a w s low) ∙ ap (λ n. n / w) both ∙ div-mul-add b w t low'

same_bytes : (f g : ℕ → ℕ) → ((i : ℕ) → f i < 256) → ((i : ℕ) → g i < 256) → (k : ℕ) → worth f k ≡ worth g k
    → (i : ℕ) → i ≤ k → f i ≡ g i
same_bytes f g small small' zero same zero low = same
same_bytes f g small small' zero same (suc i) low = absurd (omega (arith, low))
same_bytes f g small small' (suc k) same i low =
    let both : f (suc k) * 256 ^ suc k + worth f k ≡ g (suc k) * 256 ^ suc k + worth g k =
    omega (arith, same) in
    let top : f (suc k) ≡ g (suc k) =
    same_times (f (suc k)) (g (suc k)) (256 ^ suc k) (worth f k) (worth g k) (below_next f small k)
    (below_next g small' k) both in
    let rest : worth f k ≡ worth g k = omega (arith, both, ap (λ x. x * 256 ^ suc k) top) in
    elim (eq-or-lt_of_le low) [
      | inl e ↦ ap f e ∙ top ∙ ap g (sym e)
      | inr l ↦ same_bytes f g small small' k rest i (omega (arith, l))
    ]

-- two digests are the same where their numbers are
same_digests : (d e : List ℕ) → length d ≡ 16 → length e ≡ 16 → IsBytes d → IsBytes e
    → from_le_bytes w128 d ≡ from_le_bytes w128 e → d ≡ e
same_digests d e sized sized' fits fits' same =
    same_number_lists d e (sized ∙ sym sized')
    (λ i low. same_bytes (slice_index d) (slice_index e) fits fits' 15 same i (omega (arith, low, sized)))

-- a text is that of one digest alone
pub one_digest : (d e : List ℕ) → length d ≡ 16 → length e ≡ 16 → IsBytes d → IsBytes e
    → encode_lower d ≡ encode_lower e → d ≡ e
one_digest d e sized sized' fits fits' same =
    read (sym (decode_sized-encode_lower d 16 sized fits)
    ∙ ap (λ h. decode_sized h 16) same
    ∙ decode_sized-encode_lower e 16 sized' fits')
  where
    read : ◌≡◌ {A = Result (List ℕ) FromHexError} (Ok d) (Ok e) → d ≡ e
    read q = cc

-- of two digests the texts are the same where the numbers are
pub text_of_digest : (hash d e : List ℕ) (n m : ℕ) → hash ≡ encode_lower d → length d ≡ 16
    → length e ≡ 16 → IsBytes d → IsBytes e → n ≡ from_le_bytes w128 d → m ≡ from_le_bytes w128 e
    → nat_eq n m ≡ bytes_eq hash (encode_lower e)
text_of_digest hash d e n m made sized sized' fits fits' is is' =
    same_truth _ _
    (λ t. (bytes_eq-Decides hash (encode_lower e)).1
    (made ∙ ap encode_lower (same_digests d e sized sized' fits fits' (sym is ∙ eqb-true n m t ∙ is'))))
    (λ t. eq-eqb n m
    (is
    ∙ ap (from_le_bytes w128)
    (one_digest d e sized sized' fits fits' (sym made ∙ (bytes_eq-Decides hash (encode_lower e)).0 t))
    ∙ sym is'))
