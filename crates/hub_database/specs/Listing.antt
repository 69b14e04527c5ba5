-- The rows of a feed of listed documents, kept in order (own).
use Rattle.std.specs.Prelude.{◌≡◌, ◌⊎◌, ◌<◌, ℕ, List, [], ◌∷◌, map, filter, Option, Some, None, option_map}
use Rattle.std.specs.Prelude.{IfSome, false, true, nat_le}
use Rattle.std.specs.List.Sorted.{IsPartitionPoint}
use Rattle.hub_model.specs.Current.{current}
use Rattle.hub_model.specs.Entries.{entry_in}
use Rattle.hub_model.specs.Feed.{Feed}
use Rattle.hub_model.specs.Filter.{Filter, is_passing}
use Rattle.hub_model.specs.Journal.{Edit}
use Rattle.hub_feed.specs.Reach.{first_listed}
use Rattle.hub_database.specs.declared.listing.Listing.{Listing}

-- The sequences of the current rows that pass a filter, rising. Where a is current at 4, b at 2 and c at 5,
-- the sequences for a filter that lists c and a are 4 and 5.
abbrev pub passing_sequences : Filter → List Edit → List ℕ
passing_sequences shows journal = map (λ c. c.seq) (filter (λ c. is_passing shows c.id) (current journal))

-- the sequence of the current row of one document, if there is one
abbrev pub seq_of_row : List Edit → List ℕ → Option ℕ
seq_of_row journal id = option_map (λ c. c.seq) (first_listed 0 None (id ∷ []) (current journal))

-- The invariant of a listing beside these feeds. The feed whose rows are kept was opened before, so that no
-- later feed has its number. While this feed is there, the kept rows are those that its filter passes.
pub record IsListing (journal : List Edit) (feeds : List (ℕ × Feed)) (next : ℕ)
    (listing : Listing) : Type 0 where
  pub given : IfSome listing.feed (λ number. number < next)
  pub rows : IfSome listing.feed (λ number.
      IfSome (entry_in number feeds) (λ f. listing.rows.items ≡ passing_sequences f.params.filter journal))

-- the listing keeps its rows, or none, or has the rows of the feed of this number, whose filter this is
abbrev pub KeepsOrLists : ℕ → Filter → List Edit → Listing → Listing → Type 0
KeepsOrLists number shows journal old new =
    ((new.feed ≡ old.feed) × (new.rows.items ≡ old.rows.items))
    ⊎ ((new.feed ≡ None) ⊎ ((new.feed ≡ Some number) × (new.rows.items ≡ passing_sequences shows journal)))

-- an index of these rows: no row before it is above this place, and each from it on is
abbrev pub IsPartedAt : ℕ → List ℕ → ℕ → Type 0
IsPartedAt place rows at = IsPartitionPoint (λ n. nat_le n place ≡ true) (λ n. nat_le n place ≡ false) rows at
