-- The feed is never beyond the edits.
use Rattle.std.proofs.Common.{length}
use Rattle.hub_feed_tests.specs.Edits.{IsWithin}
use Rattle.hub_feed_tests.proofs.tests.walk.Given as goal

abbrev pub invariant-loop-step : goal.invariant-loop-step
invariant-loop-step g l = IsWithin l.feed (length l.edits.ids.now)
