-- The rows of a plain list of edits rise, and each is one of the edits (own).
use Rattle.std.proofs.Common.{◌≡◌, ℕ, ◌+◌, ◌<◌, ◌≤◌, List, [], ◌∷◌, length, get_or, Bor, Option, Some, None}
use Rattle.std.proofs.Common.{Contains, AllPairs, All, inl, inr, ap, arith}
use Rattle.std.proofs.lemmas.List.Kept.{AllPairs-cons}
use Rattle.std.proofs.lemmas.List.Elements.{Contains-get_or}
use Rattle.hub_model.specs.Current.{Current}
use Rattle.hub_model.proofs.Lists.{contains_none, contains_cases}
use Rattle.hub_feed_tests.specs.Edits.{rows_of}

-- a row's sequence is the number of one of the edits
rows_between : (n : ℕ) (edits : List (Option (Bor (List ℕ)))) (row : Current) → Contains (rows_of n edits) row
    → (n ≤ row.seq) × (row.seq < n + length edits)
rows_between n [] row h = absurd (contains_none row h)
rows_between n (None ∷ edits) row h = let i = rows_between (n + 1) edits row h in (omega arith, omega arith)
rows_between n (Some id ∷ edits) row h =
    elim (contains_cases (record { seq = n; id = id.now }) row (rows_of (n + 1) edits) h) [
      | inl e ↦ let s : n ≡ row.seq = ap (λ (other : Current). other.seq) e in (omega arith, omega arith)
      | inr m ↦ let i : (n + 1 ≤ row.seq)
          × (row.seq < n + 1 + length edits) = rows_between (n + 1) edits row m in (omega arith, omega arith)
    ]

-- no row is above the number of edits
pub rows_within : (edits : List (Option (Bor (List ℕ)))) (row : Current) → Contains (rows_of 1 edits) row
    → row.seq ≤ length edits
rows_within edits row h = let i = rows_between 1 edits row h in omega arith

-- each row is above the rows before it
pub rows_rise : (n : ℕ) (edits : List (Option (Bor (List ℕ))))
    → AllPairs (λ (row other : Current). row.seq < other.seq) (rows_of n edits)
rows_rise n [] = λ i j other below inside. absurd (omega arith)
rows_rise n (None ∷ edits) = rows_rise (n + 1) edits
rows_rise n (Some id ∷ edits) =
    AllPairs-cons (λ (row other : Current). row.seq
    < other.seq) (record { seq = n; id = id.now }) (rows_of (n + 1) edits) above (rows_rise (n + 1) edits)
  where
    above : All (λ (other : Current). n < other.seq) (rows_of (n + 1) edits)
    above k other inside =
        let i = rows_between (n + 1) edits (get_or (rows_of (n + 1) edits) k other)
        (Contains-get_or (rows_of (n + 1) edits) k other inside) in
        omega arith
