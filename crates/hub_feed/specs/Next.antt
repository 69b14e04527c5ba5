-- The answer of a feed that is asked for its item (CouchDB API reference, _changes).
use Rattle.std.specs.Prelude.{ℕ, List, ⊤}
use Rattle.hub_model.specs.Current.{Current, pending}
use Rattle.hub_model.specs.Feed.{Feed, Due, DueRow, DueEnd, DueNothing, DueGone, after_nothing}
use Rattle.hub_model.specs.declared.feeds.Item.TheVariants.{Row, End}
use Rattle.hub_feed.specs.declared.next.Next.{Next}
use Rattle.hub_feed.specs.declared.next.Next.TheVariants.{Give, Nothing, Gone}

-- The answer of a feed to which this step is due, over these current rows. `show` makes the row that is
-- handed out of a current row. With rows at 3 and 5 the answer gives the row at 5 where that row is due.
-- Where an End at 3 is due it gives an End at 3 with 1 pending.
abbrev pub next_of_due : {R : Type 0} → (Current → R) → List Current → Due → Next R
next_of_due show rows (DueRow c) = Give (Row (show c))
next_of_due show rows (DueEnd last_seq) = Give (End last_seq (pending rows last_seq))
next_of_due show rows DueNothing = Nothing
next_of_due show rows DueGone = Gone

-- The feed after that answer, while there are len edits: only a feed with nothing to hand moves. A feed at
-- place 3 with nothing to hand has place 5 then, if there are 5 edits. Where the row at 5 is due the feed
-- stays at place 3: it moves once the row was handed.
abbrev pub feed_after_next : Feed → Due → ℕ → Feed
feed_after_next feed (DueRow c) len = feed
feed_after_next feed (DueEnd last_seq) len = feed
feed_after_next feed DueNothing len = after_nothing feed len
feed_after_next feed DueGone len = feed

-- a row is due
abbrev pub IsRowDue : Due → Type 0
IsRowDue (DueRow c) = ⊤
IsRowDue (DueEnd last_seq) = ⊥
IsRowDue DueNothing = ⊥
IsRowDue DueGone = ⊥
