-- The rows of an index in pages (own). Page k has a slot for each of the sequences 256k + 1 to 256k + 256.
use Rattle.std.specs.Prelude.{◌≡◌, ℕ, ◌+◌, ◌-◌, ◌*◌, ◌/◌, ◌^◌, ◌<◌, List, []}
use Rattle.std.specs.Prelude.{◌∷◌, length, map, nat_eq, count_by, is_some}
use Rattle.std.specs.Prelude.{Option, Some, None}
use Rattle.std.specs.List.{All, AllPairs, flat_map}
use Rattle.std.specs.Set.{distinct_count}
use Rattle.hub_index.specs.Rows.{IsIndex}

-- The rows of consecutive slots, of which the first is that of the sequence `first`. A slot that has a
-- document has a row. From 513 on, the slots of document 7, none and document 9 have the rows (513, 7) and
-- (515, 9).
abbrev pub slot_rows : ℕ → List (Option ℕ) → List (ℕ × ℕ)
slot_rows first [] = []
slot_rows first (None ∷ slots) = slot_rows (first + 1) slots
slot_rows first (Some document ∷ slots) = (first, document) ∷ slot_rows (first + 1) slots

-- the rows of a page: its number, and its slots
abbrev pub page_rows : ℕ × List (Option ℕ) → List (ℕ × ℕ)
page_rows page = slot_rows (256 * page.0 + 1) page.1

-- the rows of pages, one page behind the other
abbrev pub rows_of : List (ℕ × List (Option ℕ)) → List (ℕ × ℕ)
rows_of pages = flat_map page_rows pages

-- a page that an index keeps: it has 256 slots and a row, and its sequences are numbers of 64 bits
pub record IsPage (page : ℕ × List (Option ℕ)) : Type 0 where
  pub low : page.0 < 2 ^ 56
  pub size : length page.1 ≡ 256
  pub live : 0 < count_by is_some page.1
  pub fits : All (λ (row : ℕ × ℕ). row.0 < 2 ^ 64) (page_rows page)

-- A page as it is kept. It has 256 slots, and `live` of them have a document. The sequences of its slots are
-- numbers of 64 bits, but for 2^64 itself.
pub record IsKeptPage (live : ℕ) (page : ℕ × List (Option ℕ)) : Type 0 where
  pub low : page.0 < 2 ^ 56
  pub size : length page.1 ≡ 256
  pub count : live ≡ count_by is_some page.1

-- pages with rows, in the order of their numbers
pub record AreLaid (pages : List (ℕ × List (Option ℕ))) : Type 0 where
  pub each : All IsPage pages
  pub rising : AllPairs (λ (a b : ℕ × List (Option ℕ)). a.0 < b.0) pages

-- pages that an index keeps: they are laid in order, and their rows are those of an index
pub record ArePages (pages : List (ℕ × List (Option ℕ))) : Type 0 where
  pub each : All IsPage pages
  pub rising : AllPairs (λ (a b : ℕ × List (Option ℕ)). a.0 < b.0) pages
  pub index : IsIndex (rows_of pages)

-- the page of a sequence: 256 is on page 0, and 257 on page 1
abbrev pub page_of : ℕ → ℕ
page_of seq = (seq - 1) / 256

-- The number of different pages on which the rows lie. Rows at 3, 256 and 600 lie on two pages, 0 and 2.
abbrev pub page_count : List (ℕ × ℕ) → ℕ
page_count rows = distinct_count nat_eq (map (λ (row : ℕ × ℕ). page_of row.0) rows)
