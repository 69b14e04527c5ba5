-- The keys of a map as names.
use Rattle.std.proofs.Common.{◌≡◌, ◌∙◌, ℕ, suc, List, [], ◌∷◌, Bool, true, false, ap, arith, refl, sym, subst}
use Rattle.std.specs.Prelude.{◌↔◌, ◌≤◌, ◌||◌, All, Contains, cond, length}
use Rattle.std.specs.Prelude.{IsSome, IfSome, Some, map, String, string_bytes}
use Rattle.std.specs.BTreeMap.{insert_entry, is_at}
use Rattle.std.specs.BTreeSet.{insert_key}
use Rattle.std.specs.Cmp.Lexicographic.{slice_cmp}
use Rattle.std.specs.List.{AllByRecursion, list_any}
use Rattle.std.specs.List.Sorted.{IsStrictlySortedBy}
use Rattle.std.specs.Map.{keys_of, lookup, remove_entry}
use Rattle.std.specs.Ordering.{eq_by_cmp, is_eq, match_ordering, nat_cmp}
use Rattle.std.specs.Set.{remove_key}
use Rattle.std.specs.Str.{bytes_eq}
use Rattle.std.specs.String.{string_cmp}
use Rattle.std.specs.declared.cmp.Ordering.{Ordering}
use Rattle.std.specs.declared.cmp.Ordering.TheVariants.{Less, Equal, Greater}
use Rattle.std.proofs.lemmas.Cmp.{eq_by_cmp_equiv, nat_list_cmp_total}
use Rattle.std.proofs.lemmas.List.{length-map}
use Rattle.std.proofs.lemmas.List.Elements.{All-cons, All-head, All-nil, All-tail}
use Rattle.std.proofs.lemmas.Map.Lookups.{exact_bytes}
use Rattle.std.proofs.lemmas.Map.Made.{is_some-lookup}
use Rattle.std.proofs.lemmas.Map.Text.{is_eq-slice_cmp}
use Rattle.std.proofs.lemmas.Map.Views.{All-insert_key, All-remove_key, Contains-from_any}
use Rattle.std.proofs.lemmas.Map.Views.{list_any-from_Contains, tells_apart}
use Rattle.std.proofs.lemmas.Slice.Eq.{bytes_eq-Decides}
use Rattle.hub_databases.specs.Kept.{AreKept, NamesState, most_databases, names_of, with_name, without_name}
use Rattle.hub_databases.specs.Names.{is_name}

-- the names, once an entry is put in
pub names_put : {Y V : Type 0} (es : List (String Y × V)) (key : String Y) (what : V)
    → names_of (insert_entry string_cmp es key what)
    ≡ insert_key (slice_cmp nat_cmp) (names_of es) (string_bytes key)
names_put [] key what = refl
names_put (e ∷ es) key what =
    from (slice_cmp nat_cmp (string_bytes key) (string_bytes e.0)) (names_put es key what)
  where
    from : (ordering : Ordering)
        → names_of (insert_entry string_cmp es key what)
        ≡ insert_key (slice_cmp nat_cmp) (names_of es) (string_bytes key)
        → names_of (match_ordering ordering ((key, what) ∷ e ∷ es) ((e.0, what) ∷ es)
        (e ∷ insert_entry string_cmp es key what))
        ≡ match_ordering ordering
        (string_bytes key ∷ string_bytes e.0 ∷ names_of es) (string_bytes e.0 ∷ names_of es)
        (string_bytes e.0 ∷ insert_key (slice_cmp nat_cmp) (names_of es) (string_bytes key))
    from Less h = refl
    from Equal h = refl
    from Greater h = ap (λ ns. string_bytes e.0 ∷ ns) h

-- the names, once an entry is taken out
pub names_taken : {Y V : Type 0} (es : List (String Y × V)) (name : List ℕ)
    → names_of (remove_entry (is_at (λ k. slice_cmp nat_cmp name (string_bytes k))) es)
    ≡ remove_key (bytes_eq name) (names_of es)
names_taken [] name = refl
names_taken (e ∷ es) name =
    ap (λ b.
    names_of (cond b es (e ∷ remove_entry (is_at (λ k. slice_cmp nat_cmp name (string_bytes k))) es)))
    (is_eq-slice_cmp name (string_bytes e.0))
    ∙ from (bytes_eq name (string_bytes e.0)) (names_taken es name)
  where
    from : (b : Bool)
        → names_of (remove_entry (is_at (λ k. slice_cmp nat_cmp name (string_bytes k))) es)
        ≡ remove_key (bytes_eq name) (names_of es)
        → names_of (cond b es (e ∷ remove_entry (is_at (λ k. slice_cmp nat_cmp name (string_bytes k))) es))
        ≡ cond b (names_of es) (string_bytes e.0 ∷ remove_key (bytes_eq name) (names_of es))
    from true h = refl
    from false h = ap (λ ns. string_bytes e.0 ∷ ns) h

-- a new name that is put in and taken out again leaves the names as they were
out_again : (names : List (List ℕ)) (name : List ℕ) → ¬ Contains names name
    → remove_key (bytes_eq name) (insert_key (slice_cmp nat_cmp) names name) ≡ names
out_again [] name absent = ap (λ b. cond b [] (name ∷ [])) ((bytes_eq-Decides name name).1 refl)
out_again (n ∷ names) name absent =
    from (slice_cmp nat_cmp name n) refl
    (out_again names name (λ there. absent (suc there.0, omega arith, there.2)))
  where
    from : (ordering : Ordering) → slice_cmp nat_cmp name n ≡ ordering
        → remove_key (bytes_eq name) (insert_key (slice_cmp nat_cmp) names name) ≡ names
        → remove_key (bytes_eq name)
        (match_ordering ordering (name ∷ n ∷ names) (n ∷ names)
        (n ∷ insert_key (slice_cmp nat_cmp) names name))
        ≡ n ∷ names
    from Less is h =
        ap (λ b. cond b (n ∷ names) (name ∷ remove_key (bytes_eq name) (n ∷ names)))
        ((bytes_eq-Decides name name).1 refl)
    from Equal is h = absurd (absent (0, omega arith, sym (exact_bytes name n is)))
    from Greater is h =
        ap (λ b. cond b (insert_key (slice_cmp nat_cmp) names name)
        (n ∷ remove_key (bytes_eq name) (insert_key (slice_cmp nat_cmp) names name)))
        (sym (is_eq-slice_cmp name n) ∙ ap is_eq is)
        ∙ ap (λ ns. n ∷ ns) h

pub taken_back : (state : NamesState) (name : List ℕ) → ¬ Contains state.names name
    → without_name name (with_name name state) ≡ state
taken_back state name absent =
    ap (λ (ns : List (List ℕ)). record state { names = ns }) (out_again state.names name absent)

-- keys in order are names in order
above : {Y : Type 0} (key : String Y) (keys : List (String Y))
    → AllByRecursion (λ k. string_cmp key k ≡ Less) keys
    → AllByRecursion (λ name. slice_cmp nat_cmp (string_bytes key) name ≡ Less) (map string_bytes keys)
above key [] h = h
above key (k ∷ keys) h = (h.0, above key keys h.1)

pub names_sorted : {Y : Type 0} (keys : List (String Y)) → IsStrictlySortedBy string_cmp keys
    → IsStrictlySortedBy (slice_cmp nat_cmp) (map string_bytes keys)
unfolding IsStrictlySortedBy
names_sorted [] h = h
names_sorted (k ∷ keys) h = (above k keys h.0, names_sorted keys h.1)

-- a look finds an entry just where the name is among the names
pub is_found : {Y V : Type 0} (es : List (String Y × V)) (name : List ℕ)
    → list_any (eq_by_cmp (slice_cmp nat_cmp) name) (names_of es)
    ≡ list_any (is_at (λ k. slice_cmp nat_cmp name (string_bytes k))) (keys_of es)
is_found [] name = refl
is_found (e ∷ es) name = ap (λ b. is_eq (slice_cmp nat_cmp name (string_bytes e.0)) || b) (is_found es name)

pub found_iff : {Y V : Type 0} (es : List (String Y × V)) (name : List ℕ)
    → IsSome (lookup (is_at (λ k. slice_cmp nat_cmp name (string_bytes k))) es) ↔ Contains (names_of es) name
found_iff es name = (
  (λ some. Contains-from_any {eq = eq_by_cmp (slice_cmp nat_cmp)} (tells_apart exact_bytes) name (names_of es)
      (is_found es name ∙ (sym (is_some-lookup _ es) ∙ some))),
  (λ there. is_some-lookup _ es
      ∙ (sym (is_found es name)
      ∙ list_any-from_Contains (eq_by_cmp_equiv nat_list_cmp_total) name (names_of es) there)),
)

module _ {Y : Type 0} where
  -- a database has the name under which it stands
  abbrev Own : (String Y × List ℕ) → Type 0
  Own e = e.1 ≡ string_bytes e.0

  -- the same, once a database is put in under its name
  pub own_put : (es : List (String Y × List ℕ)) (key : String Y) (db : List ℕ) → All Own es
      → db ≡ string_bytes key → All Own (insert_entry string_cmp es key db)
  own_put [] key db all own = All-cons Own (key, db) [] own all
  own_put (e ∷ es) key db all own =
      from (slice_cmp nat_cmp (string_bytes key) (string_bytes e.0)) refl
      (own_put es key db (All-tail Own e es all) own)
    where
      from : (ordering : Ordering) → slice_cmp nat_cmp (string_bytes key) (string_bytes e.0) ≡ ordering
          → All Own (insert_entry string_cmp es key db)
          → All Own
          (match_ordering ordering ((key, db) ∷ e ∷ es) ((e.0, db) ∷ es)
          (e ∷ insert_entry string_cmp es key db))
      from Less is h = All-cons Own (key, db) (e ∷ es) own all
      from Equal is h =
          All-cons Own (e.0, db) es
          (own ∙ exact_bytes (string_bytes key) (string_bytes e.0) is) (All-tail Own e es all)
      from Greater is h = All-cons Own e _ (All-head Own e es all) h

  -- the same, once an entry is taken out
  pub own_taken : (test : String Y → Bool) (es : List (String Y × List ℕ)) → All Own es
      → All Own (remove_entry test es)
  own_taken test [] all = all
  own_taken test (e ∷ es) all = from (test e.0) (own_taken test es (All-tail Own e es all))
    where
      from : (b : Bool) → All Own (remove_entry test es) → All Own (cond b es (e ∷ remove_entry test es))
      from true h = All-tail Own e es all
      from false h = All-cons Own e _ (All-head Own e es all) h

  -- a database that a look finds has the name that was asked for
  pub own_found : (es : List (String Y × List ℕ)) (name : List ℕ) → All Own es
      → IfSome (lookup (is_at (λ k. slice_cmp nat_cmp name (string_bytes k))) es)
      (λ db. db ≡ name)
  own_found [] name all = tt
  own_found (e ∷ es) name all =
      from (slice_cmp nat_cmp name (string_bytes e.0)) refl (own_found es name (All-tail Own e es all))
    where
      from : (ordering : Ordering) → slice_cmp nat_cmp name (string_bytes e.0) ≡ ordering
          → IfSome (lookup (is_at (λ k. slice_cmp nat_cmp name (string_bytes k))) es)
          (λ db. db ≡ name)
          → IfSome (cond (is_eq ordering) (Some e.1)
          (lookup (is_at (λ k. slice_cmp nat_cmp name (string_bytes k))) es))
          (λ db. db ≡ name)
      from Less is h = h
      from Equal is h = All-head Own e es all ∙ sym (exact_bytes name (string_bytes e.0) is)
      from Greater is h = h

  -- ---- the invariant of the entries

  -- it holds of no entries
  pub kept_none : (limit : ℕ) → limit ≤ most_databases → AreKept {Y = Y} limit []
  unfolding IsStrictlySortedBy
  kept_none limit few = record {
    names = record { valid = All-nil _; once = tt; within = omega arith };
    few = few;
    own = All-nil _;
  }

  module _ (limit : ℕ) (es : List (String Y × List ℕ)) (kept : AreKept limit es) where
    -- it holds once a database is put in under its name
    pub kept_put : (key : String Y) (db : List ℕ) (new : List (String Y × List ℕ))
        → is_name (string_bytes key) ≡ true
        → db ≡ string_bytes key
        → new ≡ insert_entry string_cmp es key db → IsStrictlySortedBy string_cmp (keys_of new)
        → length new ≤ limit → AreKept limit new
    kept_put key db new valid own is once within = record {
      names = record {
        valid =
            subst (λ ns. All (λ name. is_name name ≡ true) ns) (sym (ap names_of is ∙ names_put es key db))
            (All-insert_key (slice_cmp nat_cmp) (string_bytes key) (λ name. is_name name ≡ true)
            (names_of es) kept.names.valid valid);
        once = names_sorted _ once;
        within = omega (arith, length-map (keys_of new) string_bytes, length-map new (λ e. e.0));
      };
      few = kept.few;
      own = subst (λ xs. All Own xs) (sym is) (own_put es key db kept.own own);
    }

    -- it holds once a database is taken out
    pub kept_taken : (name : List ℕ) (new : List (String Y × List ℕ))
        → new ≡ remove_entry (is_at (λ k. slice_cmp nat_cmp name (string_bytes k))) es
        → IsStrictlySortedBy string_cmp (keys_of new)
        → length new ≤ length es → AreKept limit new
    kept_taken name new is once within = record {
      names = record {
        valid =
            subst (λ ns. All (λ name. is_name name ≡ true) ns) (sym (ap names_of is ∙ names_taken es name))
            (All-remove_key (bytes_eq name) (λ name. is_name name ≡ true) (names_of es) kept.names.valid);
        once = names_sorted _ once;
        within =
            let old = kept.names.within in
            omega (
              arith,
              length-map (keys_of new) string_bytes,
              length-map new (λ e. e.0),
              length-map (keys_of es) string_bytes,
              length-map es (λ e. e.0),
            );
      };
      few = kept.few;
      own = subst (λ xs. All Own xs) (sym is) (own_taken _ es kept.own);
    }
