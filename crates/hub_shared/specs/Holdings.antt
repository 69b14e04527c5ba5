-- How many items of a feed one holding of its host's lock hands (own).
use Rattle.std.specs.Prelude.{ℕ, if◌then◌else◌, min}
use Rattle.hub_params.specs.FeedParams.{FeedAsked}

-- The most items that one holding hands a feed with these parameters, where no feed is handed more than
-- `hold`. Where the rows bring their documents it is at most 32. Where `hold` is 64, it is 32 or 64.
abbrev pub most_items : FeedAsked → (hold : ℕ) → ℕ
most_items asked hold = if asked.include_docs then min hold 32 else hold
