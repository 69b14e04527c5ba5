-- The routes of requests.
use Rattle.std.proofs.Common.{◌≡◌, ◌⊎◌, Result, inl, inr, Ok, Err}
use Rattle.std.proofs.Common.{ℕ, ◌+◌, ◌-◌, ◌≤◌, Bool, true, false, cond, List, [], length, take}
use Rattle.std.proofs.Common.{drop, take_all, Some, None, refl, sym, ap, ◌∙◌, arith}
use Rattle.std.specs.Prelude.{position, OnErr}
use Rattle.std.specs.List.{before_first, after_first, position_or_len}
use Rattle.std.specs.Str.{IsUtf8}
use Rattle.std.proofs.lemmas.Grind.{common_steps}
use Rattle.std.proofs.lemmas.Bool.Decides.{nat_tests}
use Rattle.hub_http.specs.Stream.{PlainRequest}
use Rattle.hub_http.specs.declared.refusal.Refusal.{Refusal}
use Rattle.hub_http.specs.declared.refusal.Refusal.TheVariants.{NoMemory, BadId, BadName}
use Rattle.hub_routes.specs.Paths.{path_of, name_part, id_part, HasPercent, NeedsRoomForKind}
use Rattle.hub_routes.specs.Methods.{has_document}
use Rattle.hub_routes.specs.Routes.{database_of, document_of, IsServed, IsBadId}
use Rattle.hub_routes.specs.Routes.{kind, name, document, GoesTo}
use Rattle.hub_routes.specs.declared.kind.Kind.{Kind}
use Rattle.hub_routes.specs.declared.route.Route.{Route}

some_of : (b : Bool) (n i : ℕ) → cond b (Some n) None ≡ Some i → n ≡ i
some_of true n i e = cc
some_of false n i e = absurd (cc)

none_of : (b : Bool) (n : ℕ) → cond b (Some n) None ≡ None → b ≡ false
none_of true n e = absurd (cc)
none_of false n e = refl

place_is : (p : ℕ → Bool) (xs : List ℕ) (i : ℕ) → position p xs ≡ Some i → position_or_len p xs ≡ i
place_is p xs i e = some_of _ _ i e

-- the front and the rest of a list, cut at the first element that passes
pub cut_before : (p : ℕ → Bool) (xs : List ℕ) (i : ℕ) → position p xs ≡ Some i → take i xs ≡ before_first p xs
cut_before p xs i e = ap (λ n. take n xs) (sym (place_is p xs i e))

pub cut_after : (p : ℕ → Bool) (xs : List ℕ) (i : ℕ) → position p xs ≡ Some i
    → take (length xs - (i + 1)) (drop (i + 1) xs) ≡ after_first p xs
cut_after p xs i e =
    let whole : take (length xs - (i + 1)) (drop (i + 1) xs) ≡ drop (i + 1) xs =
    grind (arith, common_steps) in
    whole ∙ ap (λ n. drop (n + 1) xs) (sym (place_is p xs i e))

past : (p : ℕ → Bool) (xs : List ℕ) → position p xs ≡ None → length xs ≤ position_or_len p xs
past p xs e = let h = none_of _ _ e in grind (arith, nat_tests, h)

-- a list in which no element passes is its own front, and has no rest
pub all_before : (p : ℕ → Bool) (xs : List ℕ) → position p xs ≡ None → xs ≡ before_first p xs
all_before p xs e = sym (take_all _ xs (past p xs e))

pub none_after : (p : ℕ → Bool) (xs : List ℕ) → position p xs ≡ None → [] ≡ after_first p xs
none_after p xs e =
    let h = past p xs e in
    let end : [] ≡ drop (position_or_len p xs + 1) xs = grind (arith, common_steps, h) in end

-- a proved statement holds at any error
pub at_any_error : {A E : Type 0} (r : Result A E) (P : Type 0) → P → OnErr r P
at_any_error (Ok x) P p = tt
at_any_error (Err e) P p = p

-- out of memory for the kind of a path
pub path_has_no_room : (asked : PlainRequest) (r : Result Route Refusal) → r ≡ Err NoMemory
    → NeedsRoomForKind (path_of asked.target) → GoesTo asked r
path_has_no_room asked r none room = rw none (kind room)

-- a name that is out of memory, or is no text
pub name_refuses : (a : PlainRequest) (k : Kind) (refusal : Refusal) → IsServed a k
    → ((refusal ≡ NoMemory) × HasPercent (name_part (path_of a.target)))
    ⊎ ((refusal ≡ BadName) × (¬ IsUtf8 (database_of a))) → GoesTo a (Err refusal)
name_refuses a k refusal asked (inl (none, room)) = rw none (name k asked room)
name_refuses a k refusal asked (inr (bad, other)) = rw bad (k, asked, other)

-- an id that is out of memory, or is refused
pub id_refuses : (a : PlainRequest) (k : Kind) (refusal : Refusal) → IsServed a k → IsUtf8 (database_of a)
    → ((refusal ≡ NoMemory) × (has_document k ≡ true) × HasPercent (id_part (path_of a.target)))
    ⊎ ((refusal ≡ BadId) × IsBadId k (document_of a)) → GoesTo a (Err refusal)
id_refuses a k refusal asked d (inl (none, one, room)) = rw none (document k asked one d room)
id_refuses a k refusal asked d (inr (m, bad)) = rw m (k, asked, d, bad)
