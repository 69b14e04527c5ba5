-- A text without the double quotes round it.
use Rattle.std.proofs.Common.{◌≡◌, ◌≢◌, ℕ, List, [], ◌∷◌, ◌++◌, inl, inr, nat_eq}
use Rattle.std.proofs.Common.{Some, None, option_map, unwrap_or, refl, ap, arith}
use Rattle.std.proofs.lemmas.Bool.{cases_Bool}
use Rattle.std.proofs.lemmas.Bool.Decides.{nat_tests}
use Rattle.hub_params.specs.FeedValues.{before_last_quote, within_quotes}

-- a text with no double quote in front
pub kept_before : (text : List ℕ) → ((rest : List ℕ) → text ≢ 34 ∷ rest)
    → unwrap_or (within_quotes text) text ≡ text
kept_before [] h = refl
kept_before (b ∷ text) h =
    elim (cases_Bool (nat_eq b 34)) [
      | inl t ↦ absurd (h text (ap (λ n. n ∷ text) (grind (arith, nat_tests, t))))
      | inr t ↦ rw t refl
    ]

-- the text in front of a double quote at the end
before_quote : (inner : List ℕ) → before_last_quote (inner ++ 34 ∷ []) ≡ Some inner
before_quote [] = refl
before_quote (b ∷ []) = refl
before_quote (b ∷ c ∷ inner) = ap (option_map (λ text. b ∷ text)) (before_quote (c ∷ inner))

-- a text that no double quote ends
no_quote : (text : List ℕ) → ((front : List ℕ) → text ≢ front ++ 34 ∷ []) → before_last_quote text ≡ None
no_quote [] h = refl
no_quote (b ∷ []) h =
    elim (cases_Bool (nat_eq b 34)) [
      | inl t ↦ absurd (h [] (ap (λ n. n ∷ []) (grind (arith, nat_tests, t))))
      | inr t ↦ rw t refl
    ]
no_quote (b ∷ c ∷ text) h =
    ap (option_map (λ inner. b ∷ inner)) (no_quote (c ∷ text) (λ front e. h (b ∷ front) (ap (λ z. b ∷ z) e)))

-- a text within double quotes
pub within : (text rest inner : List ℕ) → text ≡ 34 ∷ rest → rest ≡ inner ++ 34 ∷ []
    → inner ≡ unwrap_or (within_quotes text) text
within text rest inner e f = rw (e, f, before_quote inner) refl

-- a text that has a double quote in front alone
pub kept_behind : (text rest : List ℕ) → text ≡ 34 ∷ rest → ((front : List ℕ) → rest ≢ front ++ 34 ∷ [])
    → text ≡ unwrap_or (within_quotes text) text
kept_behind text rest e h = rw (e, no_quote rest h) refl
