-- The step that is due to a feed, with the sequence of its item (own).
use Rattle.std.specs.Prelude.{ℕ}
use Rattle.hub_model.specs.Feed.{Feed, Due, DueRow, DueEnd, DueNothing, DueGone, after_row, after_end}
use Rattle.hub_feed.specs.declared.feed.DueSequence.{DueSequence}
use Rattle.hub_feed.specs.declared.feed.DueSequence.TheVariants.{Row, End, Nothing, Gone}

-- the step that is due, with the sequence of its item. A row at 7 gives Row 7, and an End at 9 gives End 9.
abbrev pub due_sequence : Due → DueSequence
due_sequence (DueRow c) = Row c.seq
due_sequence (DueEnd last_seq) = End last_seq
due_sequence DueNothing = Nothing
due_sequence DueGone = Gone

-- The feed after it handed the item of this sequence, while there are len edits; a step with no item leaves
-- the feed as it is. A feed with place 3 and rows 1 has place 6 and rows 2 after Row 6.
abbrev pub after_sequence : Feed → DueSequence → ℕ → Feed
after_sequence feed (Row seq) len = after_row feed seq len
after_sequence feed (End last_seq) len = after_end feed last_seq
after_sequence feed Nothing len = feed
after_sequence feed Gone len = feed
