-- The count so far and the rows left to count are together all pending rows.
use Rattle.std.proofs.Common.{◌≡◌, ◌+◌, ◌≤◌, drop}
use Rattle.hub_model.specs.Current.{pending}
use Rattle.hub_feed_tests.specs.Edits.{rows_of}
use Rattle.hub_feed_tests.proofs.tests.edits.EditsSource.count_after.Given as goal

abbrev pub invariant-loop-edit : goal.invariant-loop-edit
invariant-loop-edit l = record {
  numbered : l.seq ≡ l.edit-index;
  counted : l.count ≤ l.edit-index;
  kept : pending (rows_of 1 l.self.ids.now) l.place
      ≡ l.count + pending (rows_of (l.edit-index + 1) (drop l.edit-index l.self.ids.now)) l.place;
}
