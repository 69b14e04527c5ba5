use Rattle.std.proofs.Common.{◌≡◌, ◌++◌}
use Rattle.hub_model.specs.Missing.{diffs}
use Rattle.hub_database.proofs.contents.Contents.revs_diff.Given as goal

abbrev pub invariant-loop-asked : goal.invariant-loop-asked
invariant-loop-asked l = record {
  found : l.found.items ≡ diffs l.self.journal l.yielded;
  asked : l.yielded ++ l.asked-iterator.rest.items ≡ l.fn.asked.items;
}
