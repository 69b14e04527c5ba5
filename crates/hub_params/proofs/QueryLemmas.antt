-- The last values of names, as the pairs of a query are read one after another.
use Rattle.std.proofs.Common.{◌≡◌, ℕ, suc, ◌+◌, ◌<◌, List, [], ◌∷◌, length, slice_index_or, All, Option, Some, None}
use Rattle.std.proofs.Common.{if◌then◌else◌, add-zero, zero-add, arith, refl, subst, sym}
use Rattle.std.proofs.lemmas.List.Elements.{All-head, All-rest}
use Rattle.std.specs.Borrow.{Bor}
use Rattle.std.specs.Option.{option_copied, option_or}
use Rattle.std.specs.Str.{bytes_eq}
use Rattle.form_urlencoded.specs.Form.{raw_pairs, IsPlainText}
use Rattle.hub_params.specs.Encoded.{decoded_text}
use Rattle.hub_params.specs.Query.{last_of, written_of, HasValues}
use Rattle.hub_params.specs.Room.{HasEscapedName}

-- the value of a name, where some pairs are left, and `kept` is its value in the pairs before
abbrev pub last_with : List ℕ → List (List ℕ × List ℕ) → Option (List ℕ) → Option (List ℕ)
last_with name left kept = option_or (last_of name left) kept

or_assoc : (a b c : Option (List ℕ)) → option_or a (option_or b c) ≡ option_or (option_or a b) c
or_assoc None b c = refl
or_assoc (Some x) b c = refl

-- one more pair is read
last_with_step : (wanted name value : List ℕ) (left : List (List ℕ × List ℕ)) (kept : Option (List ℕ))
    → last_with wanted left (option_or (if bytes_eq (decoded_text name) wanted then Some value else None) kept)
    ≡ last_with wanted ((name, value) ∷ left) kept
last_with_step wanted name value left kept =
    or_assoc (last_of wanted left) (if bytes_eq (decoded_text name) wanted then Some value else None) kept

-- all pairs are left, and no value was kept
pub read_none : (wanted query : List ℕ) (left : List (List ℕ × List ℕ)) → left ≡ raw_pairs query
    → last_with wanted left None ≡ written_of wanted query
read_none wanted query left e = rw e (or_none (written_of wanted query))
  where
    or_none : (a : Option (List ℕ)) → option_or a None ≡ a
    or_none None = refl
    or_none (Some x) = refl

-- one more pair is read, which has the name or has not
pub read_one : (wanted name value : List ℕ) (left rest : List (List ℕ × List ℕ)) (kept whole : Option (List ℕ))
    → left ≡ (name, value) ∷ rest → last_with wanted left kept ≡ whole
    → last_with wanted rest (option_or (if bytes_eq (decoded_text name) wanted then Some value else None) kept)
    ≡ whole
read_one wanted name value left rest kept whole e h = rw (last_with_step wanted name value rest kept) (rw e at h)

-- ---- the values of several names

-- at each place the value of its name is kept, where some pairs are left
abbrev pub HasRead : List (Option (Bor (List ℕ))) → List (Bor (List ℕ)) → List ℕ → List (List ℕ × List ℕ) → Type 0
HasRead kept names query left =
    (place : ℕ) (any : Bor (List ℕ)) → place < length names
    → last_with (slice_index_or names place any).now left (option_copied (slice_index_or kept place None))
    ≡ written_of (slice_index_or names place any).now query

next_place : (place k : ℕ) → place + 1 + k ≡ place + suc k
next_place place k = omega arith

values_from : (kept : List (Option (Bor (List ℕ)))) (names : List (Bor (List ℕ))) (query : List ℕ) (place : ℕ)
    → ((k : ℕ) (any : Bor (List ℕ)) → k < length names
    → option_copied (slice_index_or kept (place + k) None) ≡ written_of (slice_index_or names k any).now query)
    → HasValues kept names query place
values_from kept [] query place all = tt
values_from kept (name ∷ names) query place all = (
  (let first = all 0 name (omega arith) in rw add-zero at first),
  values_from kept names query (place + 1)
      (λ k any below. rw (next_place place k) (all (suc k) any (omega arith))),
)

-- no pairs are left
pub all_read : (kept : List (Option (Bor (List ℕ)))) (names : List (Bor (List ℕ))) (query : List ℕ)
    (left : List (List ℕ × List ℕ)) → left ≡ [] → HasRead kept names query left → HasValues kept names query 0
all_read kept names query left e read =
    values_from kept names query 0 (λ k any below. rw (zero-add k) (rw e at (read k any below)))

-- ---- names that are written as they read

-- each name of these pairs is written as it reads
abbrev pub HasPlainNames : List (List ℕ × List ℕ) → Type 0
HasPlainNames pairs = All (λ p. IsPlainText p.0) pairs

-- where each name of the query is written as it reads, so is each name that is left
abbrev pub IsPlainFrom : List ℕ → List (List ℕ × List ℕ) → Type 0
IsPlainFrom query left = HasPlainNames (raw_pairs query) → HasPlainNames left

pub plain_from_all : (query : List ℕ) (left : List (List ℕ × List ℕ)) → left ≡ raw_pairs query
    → IsPlainFrom query left
plain_from_all query left e all = subst HasPlainNames (sym e) all

pub plain_from_rest : (query name value : List ℕ) (left rest : List (List ℕ × List ℕ))
    → left ≡ (name, value) ∷ rest → IsPlainFrom query left → IsPlainFrom query rest
plain_from_rest query name value left rest e from all =
    All-rest (λ (p : List ℕ × List ℕ). IsPlainText p.0) (name, value) rest left e (from all)

-- a name that is left is escaped, so the query has an escaped name
pub escaped_name : (query name value : List ℕ) (left rest : List (List ℕ × List ℕ))
    → left ≡ (name, value) ∷ rest → IsPlainFrom query left → ¬ IsPlainText name → HasEscapedName query
escaped_name query name value left rest e from escaped all =
    escaped (All-head (λ (p : List ℕ × List ℕ). IsPlainText p.0) (name, value) rest
    (subst HasPlainNames e (from all)))
