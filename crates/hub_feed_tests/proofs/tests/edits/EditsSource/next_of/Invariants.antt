-- The first row of the id, after the place and up to the bound, is the same among all edits and those left.
use Rattle.std.proofs.Common.{◌≡◌, ◌+◌, ◌∷◌, [], drop}
use Rattle.hub_feed_tests.specs.Edits.{rows_of}
use Rattle.hub_feed.specs.Reach.{first_listed}
use Rattle.hub_feed_tests.proofs.tests.edits.EditsSource.next_of.Given as goal

abbrev pub invariant-loop-edit : goal.invariant-loop-edit
invariant-loop-edit l = record {
  numbered : l.seq ≡ l.edit-index;
  kept : first_listed l.place l.bound (l.id ∷ []) (rows_of 1 l.self.ids.now)
      ≡ first_listed l.place l.bound (l.id ∷ [])
      (rows_of (l.edit-index + 1) (drop l.edit-index l.self.ids.now));
}
