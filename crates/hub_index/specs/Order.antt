-- Numbers in the byte order of the ids that they stand for (own).
use Rattle.std.specs.Prelude.{◌≡◌, ℕ, ◌+◌, ◌<◌, ◌≤◌, List, [], ◌∷◌, ◌++◌}
use Rattle.std.specs.Prelude.{length, get_or, take, Bool, false, not}
use Rattle.std.specs.Prelude.{Option, filter, find, Vec, Result, OnOk, OnErr}
use Rattle.std.specs.Cmp.Lexicographic.{slice_cmp}
use Rattle.std.specs.List.{All, AllPairs, flat_map, insert}
use Rattle.std.specs.Ordering.{nat_cmp, is_lt, is_le}
use Rattle.std.specs.Str.{bytes_eq}
use Rattle.std.specs.declared.cmp.Ordering.{Ordering}
use Rattle.std.specs.declared.cmp.Ordering.TheVariants.{Less}

-- the id of a number, where `ids` has the ids by number; a number above all has the empty text
abbrev pub id_at : List (List ℕ) → ℕ → List ℕ
id_at ids number = get_or ids number []

-- The id of a number, compared with an id. A text lies below another where its first byte that differs is
-- lower, or where it ends first. Where the number 2 has the id ab, the answer is Less for the id b, and
-- Greater for the id a.
abbrev pub id_cmp : List (List ℕ) → List ℕ → ℕ → Ordering
id_cmp ids id number = slice_cmp nat_cmp (id_at ids number) id

-- Each number has an id, and the ids rise. So no id stands twice. Where the ids of 0, 1 and 2 are b, a and
-- ab, the order of all is 1, 2, 0.
pub record IsOrder (ids : List (List ℕ)) (numbers : List ℕ) : Type 0 where
  pub known : All (λ n. n < length ids) numbers
  pub rising : AllPairs (λ m n. id_cmp ids (id_at ids n) m ≡ Less) numbers

-- whether the id of a number is this one
abbrev pub has_id : List (List ℕ) → List ℕ → ℕ → Bool
has_id ids id number = bytes_eq (id_at ids number) id

-- the number that has this id
abbrev pub number_in : List (List ℕ) → List ℕ → List ℕ → Option ℕ
number_in ids numbers id = find (has_id ids id) numbers

-- whether the id of a number lies below an id
abbrev pub is_below : List (List ℕ) → List ℕ → ℕ → Bool
is_below ids id number = is_lt (id_cmp ids id number)

-- The numbers with one more, of this id. It stands behind the numbers whose ids lie below, and before the
-- others. Where the ids of 0, 1 and 2 are b, a and ab, the numbers 1, 0 with the new number 2 are 1, 2, 0.
abbrev pub with_number : List (List ℕ) → List ℕ → List ℕ → ℕ → List ℕ
with_number ids numbers id number =
    filter (is_below ids id) numbers ++ number ∷ filter (λ n. not (is_below ids id n)) numbers

-- the numbers of pages, one page behind the other
abbrev pub numbers_of : {Y : Type 0} → List (Vec ℕ Y) → List ℕ
numbers_of pages = flat_map (λ page. page.items) pages

-- a page of numbers has at least one number, and at most 256
pub record IsNumberPage {Y : Type 0} (page : Vec ℕ Y) : Type 0 where
  pub some : 0 < length page.items
  pub few : length page.items ≤ 256

-- The place of a number among the numbers of all pages, by its page and its place there. Where the pages 0
-- and 1 have 200 numbers each, place 3 of page 2 is place 403 of all.
abbrev pub place_of : {Y : Type 0} → List (Vec ℕ Y) → ℕ → ℕ → ℕ
place_of pages page at = length (numbers_of (take page pages)) + at

-- One more number goes to a place among the numbers of all pages. After an error all numbers stay as they
-- were. Where each page had at least one number and at most 256, each page has so afterwards.
pub record PutsAt {A E Y : Type 0} (result : Result A E) (old new : List (Vec ℕ Y)) (place number : ℕ) :
    Type 0
  where
    pub ok : OnOk result (numbers_of new ≡ insert (numbers_of old) place number)
    pub err : OnErr result (numbers_of new ≡ numbers_of old)
    pub pages : All IsNumberPage old → All IsNumberPage new

-- Whether the id of the first number is this id or lies below it. Where the first number has the id b, it is
-- true for b and for c, and false for a. Without a number it is false.
abbrev pub begins_up_to : List (List ℕ) → List ℕ → List ℕ → Bool
begins_up_to ids id [] = false
begins_up_to ids id (first ∷ rest) = is_le (id_cmp ids id first)
