-- A plain list of edits, which feeds follow in the tests (own).
use denote.Ref.{Bor}
use Rattle.std.specs.Prelude.{ℕ, ◌+◌, ◌≤◌, List, [], ◌∷◌, Option, Some, None, IfSome}
use Rattle.hub_model.specs.Current.{Current}
use Rattle.hub_model.specs.Feed.{Feed}

-- the rows of edits numbered from n; an edit is the id of its document, or none where a later edit follows it
abbrev pub rows_of : ℕ → List (Option (Bor (List ℕ))) → List Current
rows_of n [] = []
rows_of n (None ∷ edits) = rows_of (n + 1) edits
rows_of n (Some id ∷ edits) = record { seq = n; id = id.now } ∷ rows_of (n + 1) edits

-- a feed that is not beyond so many edits
abbrev pub IsWithin : Feed → ℕ → Type 0
IsWithin feed len = (feed.place ≤ len) × IfSome feed.bound (λ bound. bound ≤ len)
