-- The changes of a journal above a sequence, in one list (own).
use Rattle.std.specs.Prelude.{◌≡◌, ◌≤◌, ◌<◌, ℕ, List, length, map, take}
use Rattle.std.specs.Prelude.{filter, get_or, nat_lt, ◌&&◌, false, None}
use Rattle.hub_model.specs.Current.{Current, current}
use Rattle.hub_model.specs.Feed.{Params}
use Rattle.hub_model.specs.Filter.{is_passing, Everything}
use Rattle.hub_model.specs.Journal.{Edit}
use Rattle.hub_model.specs.Row.{ChangeRow, row_of}
use Rattle.hub_database.specs.Database.{Database}
use Rattle.hub_model.specs.declared.feeds.Mode.TheVariants.{Normal}
use Rattle.hub_model.specs.declared.feeds.Since.TheVariants.{Plain}
use Rattle.hub_model.specs.declared.feeds.Style.TheVariants.{AllDocs}

-- the current rows above a sequence
abbrev pub rows_above : List Edit → ℕ → List Current
rows_above journal since = filter (λ c. nat_lt since c.seq && is_passing Everything c.id) (current journal)

-- these rows, as they are shown with every leaf
abbrev pub all_above : List Edit → ℕ → List ChangeRow
all_above journal since = map (row_of journal AllDocs false) (rows_above journal since)

-- the parameters of a feed of all these rows
abbrev pub listing_params : ℕ → Params
listing_params since =
    record {
      mode = Normal;
      since = Plain since;
      limit = None;
      style = AllDocs;
      include_docs = false;
      filter = Everything;
      heartbeat = false;
    }

-- The first rows of the list `all`, and their last sequence. Where the list has 100 rows at most, these are
-- all rows, and `len`. Else they are the first 100 rows, and the sequence of the last of them.
pub record AreFirst (all : List ChangeRow) (len : ℕ) (rows : List ChangeRow) (last : ℕ) : Type 0 where
  pub short : length all ≤ 100 → (rows ≡ all) × (last ≡ len)
  pub long : 100 < length all → (rows ≡ take 100 all) × ((row : ChangeRow) → last ≡ (get_or all 99 row).seq)

-- the changes above this sequence can be listed: the database stands, and has the sequence
pub record IsListable (db : Database) (since : ℕ) : Type 0 where
  pub stands : db.deleted ≡ false
  pub within : since ≤ length db.journal
