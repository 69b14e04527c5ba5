-- Lemmas on sorted ids.
use Rattle.std.proofs.Common.{◌≡◌, ℕ, ◌+◌, ◌<◌, List, [], ◌∷◌, map, length, get_or}
use Rattle.std.proofs.Common.{string_bytes, String, Global, true, false, ◌||◌, Result, Ok}
use Rattle.std.proofs.Common.{Err, sym, ◌∙◌, ap, refl, subst, ⊎_elim, Ordering, arith}
use Rattle.std.specs.List.{list_any, AllZip, AllWithin}
use Rattle.std.specs.List.Sorted.{IsPermutation, IsSorted, IsBinarySearchResult}
use Rattle.std.specs.List.Sorted.{IsSearchInRange, IsPartitionPoint}
use Rattle.std.specs.Result.{is_ok}
use Rattle.std.specs.String.{string_cmp}
use Rattle.std.specs.Str.{bytes_eq}
use Rattle.std.specs.Ordering.{nat_cmp, is_eq}
use Rattle.std.specs.declared.cmp.Ordering.TheVariants.{Less, Greater}
use Rattle.std.specs.Cmp.Lexicographic.{slice_cmp}
use Rattle.std.proofs.Math.ListN as math
use Rattle.std.proofs.lemmas.Bool.{false_from_ne_true, cases_lt}
use Rattle.std.proofs.lemmas.Cmp.{nat_list_cmp_total}
use Rattle.std.proofs.lemmas.List.{length-map}
use Rattle.std.proofs.lemmas.List.Elements.{All-from_all_within}
use Rattle.std.proofs.lemmas.List.Folds.{list_any_at, list_any_none}
use Rattle.std.proofs.lemmas.List.Sorted.{list_any-IsPermutation, IsPermutation-map, searchable_from_sorted}
use Rattle.std.proofs.lemmas.Map.Lookups.{exact_bytes}
use Rattle.std.proofs.lemmas.Map.Text.{is_eq-slice_cmp}
use Rattle.std.proofs.lemmas.Slice.Eq.{bytes_eq-Decides}
use Rattle.hub_filter.specs.Listed.{is_listed}

-- a list and its permutation list the same ids
pub listed_as : (xs ys : List (String Global)) → IsPermutation xs ys → (id : List ℕ)
    → is_listed id (map string_bytes ys) ≡ is_listed id (map string_bytes xs)
listed_as xs ys h id =
    sym (list_any-IsPermutation (bytes_eq id) (map string_bytes xs) (map string_bytes ys)
    (IsPermutation-map string_bytes xs ys h))

-- lists of texts with the same bytes have the same bytes at each place
bytes_at : (xs ys : List (String Global)) → map string_bytes ys ≡ map string_bytes xs
    → (i : ℕ) (d : String Global) → string_bytes (get_or ys i d) ≡ string_bytes (get_or xs i d)
bytes_at xs ys e i d =
    sym (math.get_or-map string_bytes ys i d)
    ∙ (ap (λ l. get_or l i (string_bytes d)) e ∙ math.get_or-map string_bytes xs i d)

-- lists of texts with the same bytes are sorted alike
pub sorted_as : (xs ys : List (String Global)) → map string_bytes ys ≡ map string_bytes xs
    → IsSorted string_cmp xs → IsSorted string_cmp ys
sorted_as xs ys e sorted k d low high =
    let same : length ys ≡ length xs =
    sym (length-map ys string_bytes) ∙ (ap length e ∙ length-map xs string_bytes) in
    rw (bytes_at xs ys e (k + 1) d, bytes_at xs ys e k d) (sorted k d low (subst (λ n. k + 1 < n) same high))

-- a test of the texts is a test of their bytes
listed_by : (xs : List (String Global)) (id : List ℕ)
    → list_any (λ s. bytes_eq id (string_bytes s)) xs ≡ is_listed id (map string_bytes xs)
listed_by [] id = refl
listed_by (x ∷ xs) id = ap (λ b. bytes_eq id (string_bytes x) || b) (listed_by xs id)

-- bytes that are below or above an id differ from the id
differs : (id bytes : List ℕ) (ordering : Ordering) → slice_cmp nat_cmp bytes id ≡ ordering
    → is_eq ordering ≡ false → bytes_eq id bytes ≡ false
differs id bytes ordering e other =
    false_from_ne_true (bytes_eq id bytes) (λ yes.
    clash (sym ((bytes_eq-Decides bytes id).1 (sym ((bytes_eq-Decides id bytes).0 yes)))
    ∙ (sym (is_eq-slice_cmp bytes id) ∙ (ap is_eq e ∙ other))))
  where
    clash : true ≡ false → ⊥
    clash e = cc

-- a binary search for an id in sorted texts says whether the id is listed
pub searched : (xs : List (String Global)) (id : List ℕ) (r : Result ℕ ℕ) → IsSorted string_cmp xs
    → IsSearchInRange r (length xs)
    → IsBinarySearchResult (λ s. slice_cmp nat_cmp (string_bytes s) id) xs r
    → is_ok r ≡ is_listed id (map string_bytes xs)
searched [] id (Ok i) sorted within at = absurd (omega (arith, within))
searched (x ∷ xs) id (Ok i) sorted within at =
    let found =
    list_any_at (λ s. bytes_eq id (string_bytes s)) (x ∷ xs) i x within
    ((bytes_eq-Decides id _).1 (sym (exact_bytes _ _ (at x)))) in
    sym found ∙ listed_by (x ∷ xs) id
searched xs id (Err i) sorted within at =
    let parts = at (searchable_from_sorted nat_list_cmp_total string_bytes xs id sorted) in
    sym (list_any_none (λ s. bytes_eq id (string_bytes s)) xs
    (All-from_all_within (λ s. bytes_eq id (string_bytes s) ≡ false) xs (others parts)))
    ∙ listed_by xs id
  where
    others : IsPartitionPoint (λ s. slice_cmp nat_cmp (string_bytes s) id ≡ Less)
        (λ s. slice_cmp nat_cmp (string_bytes s) id ≡ Greater) xs i
        → AllWithin (λ s. bytes_eq id (string_bytes s) ≡ false) xs 0 (length xs)
    others parts k d low high =
        ⊎_elim (λ l. differs id _ Less (parts.0 k d low l) refl)
        (λ g. differs id _ Greater (parts.1 k d g high) refl) (cases_lt k i)

-- clones of texts have their bytes
pub bytes_of_clones : (xs ys : List (String Global)) → AllZip (λ s t. string_bytes t ≡ string_bytes s) xs ys
    → map string_bytes ys ≡ map string_bytes xs
bytes_of_clones [] [] h = refl
bytes_of_clones [] (y ∷ ys) h = absurd h
bytes_of_clones (x ∷ xs) [] h = absurd h
bytes_of_clones (x ∷ xs) (y ∷ ys) h = rw (h.0, bytes_of_clones xs ys h.1) refl
