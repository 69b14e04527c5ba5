-- The label of a feed's lane, which both ends know (own; CouchDB API reference, _changes).
use Rattle.std.specs.Prelude.{ℕ}
use Rattle.hub_model.specs.Feed.{since_of}
use Rattle.hub_feed.specs.Host.{Hosted}
use Rattle.hub_params.specs.FeedParams.{FeedAsked}

-- the parameters of a feed, the sequence at which it began, and its life
pub record Label : Type 0 where
  pub asked : FeedAsked
  pub since : ℕ  -- the feed's rows lie above
  pub life : ℕ  -- the number of the life of its sequences

-- the label of a feed with these parameters that this host opens now
abbrev pub label_of : {R : Type 0} → FeedAsked → Hosted R → Label
label_of asked h =
    record { asked = asked; since = since_of asked.since h.length h.life; life = h.life }
