-- A history that was read is a path.
use Rattle.std.proofs.Common.{◌≡◌, ◌≢◌, ℕ, zero, suc, ◌-◌, ◌<◌, ◌≤◌, ◌^◌, List, [], ◌∷◌, length}
use Rattle.std.proofs.Common.{take, Bool, true, false, Option, Some, None, eqb, ltb, lt-ltb}
use Rattle.std.proofs.Common.{codes, option_map, option_and_then, arith, refl, sym, ap, subst}
use Rattle.std.specs.Prelude.{◌&&◌}
use Rattle.std.proofs.lemmas.Option.{option_and_then_some, cond_some}
use Rattle.std.proofs.lemmas.Bool.Decides.{nat_tests}
use Rattle.hub_model.specs.Revision.{Revision}
use Rattle.hub_model.specs.Path.{Falls, IsHistory}
use Rattle.serde_json.specs.Data.{Data, Items, no_items, item}
use Rattle.serde_json.specs.Find.{get, as_str, as_array, as_u64, as_number}
use Rattle.serde_json.specs.View.{items_view}
use Rattle.serde_json.specs.declared.value.Value.{Value}
use Rattle.hub_document.specs.RevisionText.{is_hash, with_hash}
use Rattle.hub_document.specs.Histories.{falling, limited_history, history_in}

-- the generations of the list are n, n - 1 and so on, none of them 0
abbrev pub FallsFrom : ℕ → List Revision → Type 0
FallsFrom n [] = Unit {0}
FallsFrom n (revision ∷ rest) = (revision.generation ≡ n) × (0 < n) × FallsFrom (n - 1) rest

-- the value that a mapped value was made of
pub map_some : {A B P : Type 0} (f : A → B) (o : Option A) (y : B) → option_map f o ≡ Some y
    → ((x : A) → o ≡ Some x → f x ≡ y → P) → P
map_some f None y h next = absurd (cc)
map_some f (Some x) y h next = next x refl (cc)

-- a revision made of a generation and a hash has that generation
generation_is : (n : ℕ) (h : List ℕ) (revision : Revision) → with_hash n h ≡ Some revision
    → revision.generation ≡ n
generation_is n h revision e = sym (ap (λ x. x.generation) (cond_some (is_hash h) _ revision e).1)

-- one more hash is read
falls_item : (n : ℕ) (content : Data) (items : Items) (revisions : List Revision) (t : Bool) → eqb n 0 ≡ t
    → falling n (item content items) ≡ Some revisions
    → ((rest : List Revision) → falling (n - 1) items ≡ Some rest → FallsFrom (n - 1) rest)
    → FallsFrom n revisions
falls_item n content items revisions true z h later = let e : None ≡ Some revisions = rw z at h in absurd (cc)
falls_item n content items revisions false z h later =
    let some : 0 < n = grind (arith, nat_tests) in
    option_and_then_some {P = FallsFrom n revisions}
    (λ r. option_map (λ rest. r ∷ rest) (falling (n - 1) items))
    (option_and_then (with_hash n) (as_str content)) revisions (rw z at h) (λ r read more.
    map_some {P = FallsFrom n revisions} (λ rest. r ∷ rest) (falling (n - 1) items) revisions more
    (λ rest ends is.
    option_and_then_some {P = FallsFrom n revisions} (with_hash n) (as_str content) r read
    (λ s text hash. subst (λ x. FallsFrom n x) is (generation_is n s r hash, some, later rest ends))))

-- the revisions that `falling` reads fall from its generation
falls_from : (n : ℕ) (items : Items) (revisions : List Revision) → falling n items ≡ Some revisions
    → FallsFrom n revisions
falls_from n no_items revisions h = let is : [] ≡ revisions = cc in subst (FallsFrom n) is tt
falls_from n (item d items) revisions h = falls_item n d items revisions _ refl h (falls_from (n - 1) items)

-- so their generations fall
falls : (n : ℕ) (revision : Revision) (rest : List Revision) → FallsFrom n (revision ∷ rest)
    → Falls revision rest
falls n revision [] h = omega (arith, h.0, h.1)
falls n revision (other ∷ rest) h = (omega (arith, h.0, h.1, h.2.0, h.2.1), falls (n - 1) other rest h.2)

-- so they are a history, where there is at least one revision
history_from : (n : ℕ) (revision : Revision) (rest : List Revision) → FallsFrom n (revision ∷ rest)
    → IsHistory (revision ∷ rest)
history_from n revision rest h = record { falls = falls n revision rest h }

-- the revisions of at least one hash are a history
one_read : (n : ℕ) (content : Data) (items : Items) (revisions : List Revision)
    → falling n (item content items) ≡ Some revisions → IsHistory revisions
one_read n content items revisions h = some_read revisions (falls_from n (item content items) revisions h) h
  where
    some_read : (revisions : List Revision) → FallsFrom n revisions
        → falling n (item content items) ≡ Some revisions → IsHistory revisions
    some_read [] f e = absurd (none (eqb n 0) refl e)
      where
        none : (t : Bool) → eqb n 0 ≡ t → falling n (item content items) ≡ Some [] → ⊥
        none true z e = let u : ◌≡◌ {A = Option (List Revision)} None (Some []) = rw z at e in absurd (cc)
        none false z e =
            option_and_then_some {P = ⊥} (λ r. option_map (λ rest. r ∷ rest) (falling (n - 1) items))
            (option_and_then (with_hash n) (as_str content)) [] (rw z at e) (λ r read more.
            map_some {P = ⊥} (λ rest. r ∷ rest) (falling (n - 1) items) [] more (λ rest ends is. absurd (cc)))
    some_read (r ∷ rest) f e = history_from n r rest f

-- the revisions of a good `start` are a history
starting_from : (start : ℕ) (ids : Items) (revisions : List Revision) → limited_history start ids ≡ Some revisions
    → IsHistory revisions
starting_from start no_items revisions h = absurd (cc)
starting_from start (item d ds) revisions h = from (ltb 0 start && ltb start (2 ^ 16)) refl h
  where
    from : (t : Bool) → (ltb 0 start && ltb start (2 ^ 16)) ≡ t → limited_history start (item d ds) ≡ Some revisions
        → IsHistory revisions
    from true fits h = one_read start d ds revisions (rw fits at h)
    from false fits h =
        let e : ◌≡◌ {A = Option (List Revision)} None (Some revisions) = rw fits at h in absurd (cc)

-- for a good start and at least one hash, the limits change nothing
pub starting_is : (start : ℕ) (ids : List Value) → length ids ≢ 0 → 0 < start → start < 2 ^ 16
    → falling start (items_view ids) ≡ limited_history start (items_view ids)
starting_is start [] some above below = absurd (some refl)
starting_is start (value ∷ values) some above below =
    rw (lt-ltb 0 start above, lt-ltb start (2 ^ 16) below) refl

-- the revisions of `_revisions` are a history
pub history_is_path : (content : Data) (revisions : List Revision) → history_in content ≡ Some revisions
    → IsHistory revisions
history_is_path content revisions h =
    option_and_then_some {P = IsHistory revisions}
    (λ start. option_and_then (limited_history start) (option_and_then as_array (get (codes "ids") content)))
    (option_and_then as_u64 (option_and_then as_number (get (codes "start") content))) revisions h
    (λ start first more.
    option_and_then_some {P = IsHistory revisions} (limited_history start)
    (option_and_then as_array (get (codes "ids") content))
    revisions more (λ ids list read. starting_from start ids revisions read))

-- one revision of a generation above 0 is a history
pub one_is_history : (revision : Revision) → 1 ≤ revision.generation → IsHistory (revision ∷ [])
one_is_history revision some = record { falls = some }

-- the front of a history is a history
pub front_history : (revisions : List Revision) (n : ℕ) → 1 ≤ n → IsHistory revisions
    → IsHistory (take n revisions)
front_history revisions zero some h = absurd (omega arith)
front_history [] (suc n) some h = h
front_history (revision ∷ revisions) (suc n) some h = record { falls = front n revision revisions h.falls }
  where
    front : (n : ℕ) (revision : Revision) (revisions : List Revision) → Falls revision revisions
        → Falls revision (take n revisions)
    front zero revision [] f = f
    front zero revision (s ∷ revisions) f = omega (arith, f.0)
    front (suc n) revision [] f = f
    front (suc n) revision (s ∷ revisions) f = (f.0, front n s revisions f.1)
