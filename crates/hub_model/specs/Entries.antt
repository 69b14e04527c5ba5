-- Lists of entries with numbers (own).
use Rattle.std.specs.Prelude.{ℕ, ◌<◌, List, AllPairs, Bool, map, filter, find, not, nat_eq, Option}
use Rattle.std.specs.Prelude.{option_map, if◌then◌else◌}

-- The numbers of the entries rise, so no number stands twice. This holds of entries 3 and 5, and of no entry.
-- It does not hold of entries 5 and 3, nor of 3 and 3.
abbrev pub AreRising : {A : Type 0} → List (ℕ × A) → Type 0
AreRising {A} entries = AllPairs (λ (a b : ℕ × A). a.0 < b.0) entries

-- whether the entry has this number
abbrev pub is_of : {A : Type 0} → ℕ → ℕ × A → Bool
is_of number p = nat_eq p.0 number

-- the value of the entry with this number, if there is one
abbrev pub entry_in : {A : Type 0} → ℕ → List (ℕ × A) → Option A
entry_in number entries = option_map (λ p. p.1) (find (is_of number) entries)

-- The entries, with the value of this number changed. Of (3, x) and (5, y) a change at 5 gives (3, x) and (5,
-- change y). A change at 4 leaves the entries as they are.
abbrev pub with_change : {A : Type 0} → ℕ → (A → A) → List (ℕ × A) → List (ℕ × A)
with_change number change entries = map (λ p. if is_of number p then (p.0, change p.1) else p) entries

-- the entries without the entry of this number
abbrev pub without : {A : Type 0} → ℕ → List (ℕ × A) → List (ℕ × A)
without number entries = filter (λ p. not (is_of number p)) entries
