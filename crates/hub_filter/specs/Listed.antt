-- Ids that a subscriber lists (CouchDB API reference, _changes with doc_ids; their order is own).
use Rattle.std.specs.Prelude.{ℕ, List, [], ◌∷◌, Bool, if◌then◌else◌}
use Rattle.std.specs.List.{list_any}
use Rattle.std.specs.Ordering.{nat_cmp, is_gt}
use Rattle.std.specs.Cmp.Lexicographic.{slice_cmp}
use Rattle.std.specs.Str.{bytes_eq}

-- whether the id is among the ids
abbrev pub is_listed : List ℕ → List (List ℕ) → Bool
is_listed id ids = list_any (bytes_eq id) ids

-- the ids with one more id, in front of the first id that it is not above
abbrev pub put_in : List ℕ → List (List ℕ) → List (List ℕ)
put_in id [] = id ∷ []
put_in id (other ∷ ids) =
    if is_gt (slice_cmp nat_cmp id other) then other ∷ put_in id ids else id ∷ other ∷ ids

-- the ids in byte order: a repeated id stays repeated
abbrev pub in_order : List (List ℕ) → List (List ℕ)
in_order [] = []
in_order (id ∷ ids) = put_in id (in_order ids)
