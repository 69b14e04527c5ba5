-- A history that is written reads as itself.
use Rattle.std.proofs.Common.{◌≡◌, ℕ, ◌-◌, ◌<◌, ◌^◌, List, [], ◌∷◌, ◌++◌, true, false, Option, Some}
use Rattle.std.proofs.Common.{None, codes, decimal, IsUtf8, refl, sym, subst, arith, ne_eqb, lt-ltb}
use Rattle.std.proofs.lemmas.Bool.{and_from, and_parts}
use Rattle.std.proofs.lemmas.Bool.Decides.{nat_tests}
use Rattle.std.proofs.lemmas.Fmt.{IsAscii-decimal}
use Rattle.std.proofs.lemmas.List.Elements.{recursion_from_All}
use Rattle.std.proofs.lemmas.List.Sums.{list_all-from_AllPass}
use Rattle.std.proofs.lemmas.Str.{IsUtf8-append, IsUtf8-from_ascii}
use Rattle.std.specs.List.{AllByRecursion, list_all}
use Rattle.std.specs.Prelude.{nat_lt, slice_get}
use Rattle.hub_model.specs.Draft.{generation_of, parent_of}
use Rattle.hub_model.specs.Path.{Falls, IsPath}
use Rattle.hub_model.specs.Revision.{Revision, IsRevision, text_of, is_hash_byte}
use Rattle.json.proofs.Printed.Utf8.{are_ascii, IsUtf8-are_ascii}
use Rattle.serde_json.specs.Data.{unsigned, Data, number, array, object, no_members, member, items_depth}
use Rattle.serde_json.specs.Read.{of_json}
use Rattle.serde_json.specs.Written.{outline, items_have_float}
use Rattle.serde_json.proofs.Numbers.{number_of-decimal}
use Rattle.hub_document.specs.Histories.{falling, limited_history, history_in, is_head}
use Rattle.hub_document.specs.RevisionText.{is_hash, with_hash}
use Rattle.hub_document.proofs.PathLemmas.{FallsFrom}
use Rattle.hub_model.proofs.Tests.{same_self}
use Rattle.hub_round_trip.specs.RoundTrip.{IsWritable, AreWritable, AreOrdered, IsPathOf}
use Rattle.hub_round_trip.proofs.WrittenLemmas.{hashes, history_written}
use Rattle.hub_round_trip.proofs.ValueLemmas.{of_items-items_outline}

-- ---- hashes are ASCII

letter_is_ascii : (b : ℕ) → is_hash_byte b ≡ true → nat_lt b 128 ≡ true
letter_is_ascii b h = grind (arith, nat_tests)

letters_are_ascii : (h : List ℕ) → list_all is_hash_byte h ≡ true → are_ascii h ≡ true
letters_are_ascii [] e = refl
letters_are_ascii (b ∷ h) e =
    let p = and_parts _ _ e in and_from _ _ (letter_is_ascii b p.0) (letters_are_ascii h p.1)

letters : (revision : Revision) → IsRevision revision → list_all is_hash_byte revision.hash ≡ true
letters revision good = list_all-from_AllPass is_hash_byte revision.hash good.letters

utf8-hash : (revision : Revision) → IsRevision revision → IsUtf8 revision.hash
utf8-hash revision good =
    IsUtf8-are_ascii revision.hash (letters_are_ascii revision.hash (letters revision good))

pub utf8-text_of : (revision : Revision) → IsRevision revision → IsUtf8 (text_of revision)
utf8-text_of revision good =
    IsUtf8-append (decimal revision.generation) _
    (IsUtf8-from_ascii _ (IsAscii-decimal revision.generation (let h = good.below in omega arith)))
    (IsUtf8-append (45 ∷ []) revision.hash (IsUtf8-are_ascii (45 ∷ []) refl) (utf8-hash revision good))

hashes_writable : (path : List Revision) → AllByRecursion IsRevision path → AreWritable (hashes path)
hashes_writable [] h = tt
hashes_writable (revision ∷ path) h = (utf8-hash revision h.0, hashes_writable path h.1)

hashes_ordered : (path : List Revision) → AreOrdered (hashes path)
hashes_ordered [] = tt
hashes_ordered (revision ∷ path) = (tt, hashes_ordered path)

pub hashes_flat : (path : List Revision) → items_depth (hashes path) ≡ 0
hashes_flat [] = refl
hashes_flat (revision ∷ path) = rw (hashes_flat path) refl

pub hashes_whole : (path : List Revision) → items_have_float (hashes path) ≡ false
hashes_whole [] = refl
hashes_whole (revision ∷ path) = hashes_whole path

-- ---- the history's value

-- the value of a history as it is read, its keys in order
abbrev pub history_read : List Revision → Data
history_read path =
    object (member (codes "ids") (array (hashes path))
    (member (codes "start") (number (unsigned (generation_of (parent_of path)))) no_members))

head_fits : (path : List Revision) → IsPath path → AllByRecursion IsRevision path
    → (0 < generation_of (parent_of path)) × (generation_of (parent_of path) < 2 ^ 16)
head_fits [] h good = absurd h
head_fits (revision ∷ path) h good = (good.0.from_one, good.0.below)

module _ (rev : Option Revision) (path : List Revision) (h : IsPathOf rev path) where
  good : AllByRecursion IsRevision path
  good = recursion_from_All IsRevision path h.revisions

  fits : (0 < generation_of (parent_of path)) × (generation_of (parent_of path) < 2 ^ 16)
  fits = head_fits path h.history.falls good

  pub history_writable : IsWritable (history_written path)
  history_writable = (
    IsUtf8-are_ascii _ refl,
    (let small = fits.1 in omega arith),
    (IsUtf8-are_ascii _ refl, hashes_writable path good, tt),
  )

-- ---- the value reads as the history

falls_down : (revision : Revision) (path : List Revision) → Falls revision path
    → FallsFrom revision.generation (revision ∷ path)
falls_down revision [] h = (refl, omega (arith, h), tt)
falls_down revision (s ∷ path) h =
    let less : s.generation ≡ revision.generation - 1 = omega (arith, h.0) in
    (refl, omega (arith, h.0), subst (λ n. FallsFrom n (s ∷ path)) less (falls_down s path h.1))

hash_read : (n : ℕ) (revision : Revision) → revision.generation ≡ n → IsRevision revision
    → with_hash n revision.hash ≡ Some revision
hash_read n revision is good =
    let all = letters revision good in
    let hash : is_hash revision.hash ≡ true =
    (let a = good.some in let b = good.short in grind (arith, nat_tests)) in
    rw (← is, hash) refl

falling_back : (n : ℕ) (path : List Revision) → FallsFrom n path → AllByRecursion IsRevision path
    → falling n (hashes path) ≡ Some path
falling_back n [] h good = refl
falling_back n (revision ∷ path) h good =
    rw (
      ne_eqb n 0 (λ e. omega (arith, h.1)),
      hash_read n revision h.0 good.0,
      falling_back (n - 1) path h.2 good.1,
    )
    refl

starting_back : (path : List Revision) → IsPath path → AllByRecursion IsRevision path
    → limited_history (generation_of (parent_of path)) (hashes path) ≡ Some path
starting_back [] h good = absurd h
starting_back (revision ∷ path) h good =
    rw (lt-ltb _ _ good.0.from_one, lt-ltb _ _ good.0.below)
    (falling_back revision.generation (revision ∷ path) (falls_down revision path h) good)

module _ (rev : Option Revision) (path : List Revision) (h : IsPathOf rev path) where
  pub of_json-history : of_json (outline (history_written path)) ≡ Some (history_read path)
  of_json-history =
      rw (
        number_of-decimal (generation_of (parent_of path)) (let small = (fits rev path h).1 in omega arith),
        of_items-items_outline (hashes path) (hashes_writable path (good rev path h)) (hashes_ordered path),
      ) refl

  pub history_in-history_read : history_in (history_read path) ≡ Some path
  history_in-history_read =
      starting_back path h.history.falls (good rev path h)

-- the history begins with the named revision
pub head_is_head : (rev : Option Revision) (path : List Revision) → slice_get path 0 ≡ rev
    → is_head rev path ≡ true
head_is_head None path h = refl
head_is_head (Some revision) [] h = absurd (cc)
head_is_head (Some revision) (x ∷ path) h = let same : x ≡ revision = cc in rw same (same_self revision)
