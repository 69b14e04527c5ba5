-- The rows that a step of a feed looks at (CouchDB API reference, _changes with since).
use Rattle.std.specs.Prelude.{◌≡◌, ℕ, ◌≤◌, List, ◌&&◌, min, Bool, Option, Some, None, option_map, find}
use Rattle.std.specs.Prelude.{nat_lt, IfSome}
use Rattle.std.specs.List.{list_any}
use Rattle.std.specs.Str.{bytes_eq}
use Rattle.hub_model.specs.Current.{Current}
use Rattle.hub_model.specs.Feed.{Feed, Open, is_in_reach, is_within}
use Rattle.hub_model.specs.Filter.{Filter, Everything, DocIds, Design}

-- The first row above a place and not above the bound, if there is one. Of rows at 2, 6 and 9, with place 3
-- and bound 8, it is the row at 6. With bound 5 there is none. With place 6 and no bound it is the row at 9.
abbrev pub first_within : ℕ → Option ℕ → List Current → Option Current
first_within place bound rows = find (λ (row : Current). nat_lt place row.seq && is_within bound row.seq) rows

-- whether a row lies above a place and not above the bound, and is of one of the documents with these ids
abbrev pub is_listed_within : ℕ → Option ℕ → List (List ℕ) → Current → Bool
is_listed_within place bound ids row =
    nat_lt place row.seq && (is_within bound row.seq && list_any (bytes_eq row.id) ids)

-- the first row above a place and not above the bound that is of one of the documents with these ids, if
-- there is one
abbrev pub first_listed : ℕ → Option ℕ → List (List ℕ) → List Current → Option Current
first_listed place bound ids rows = find (is_listed_within place bound ids) rows

-- the lesser of two numbers; where there is one alone, that number
abbrev pub lesser : Option ℕ → Option ℕ → Option ℕ
lesser None other = other
lesser (Some n) None = Some n
lesser (Some n) (Some other) = Some (min n other)

-- the ids that a filter lists, where it shows listed documents alone
abbrev pub listed_in : Filter → Option (List (List ℕ))
listed_in Everything = None
listed_in (DocIds ids) = Some ids
listed_in Design = None

-- `first` is the sequence of the first of these rows that is in reach of the feed, or None where no row is.
-- This is asked only where there is a feed and it is open. Of rows at 2, 6 and 9 and an open feed at place 3
-- without a bound or a filter it is 6.
abbrev pub IsFirst : Option ℕ → List Current → Option Feed → Type 0
IsFirst first rows feed =
    IfSome feed (λ f. f.status ≡ Open → first ≡ option_map (λ c. c.seq) (find (is_in_reach f) rows))

-- A feed is ready for a step while there are so many edits with these current rows. Its place is at most the
-- number of edits. If the feed is open, `seq` is the sequence of its first row in reach, or None where no row
-- is in reach. Take 9 edits with rows at 2, 6 and 9. An open feed at place 3 without a bound or a filter is
-- ready with 6. At place 12 no feed is ready.
pub record IsReady (length : ℕ) (rows : List Current) (feed : Feed) (seq : Option ℕ) : Type 0 where
  pub reached : feed.place ≤ length
  pub first : feed.status ≡ Open → seq ≡ option_map (λ c. c.seq) (find (is_in_reach feed) rows)
