use Rattle.std.proofs.Common.{◌≡◌, ◌++◌, map}
use Rattle.hub_follow_model.specs.Follower as follow
use Rattle.hub_follower.proofs.phase.revisions_of_rows.Given as goal

abbrev pub invariant-loop-row : goal.invariant-loop-row
invariant-loop-row l = record {
  made : l.asked.items ≡ map follow.revisions_of_row l.yielded;
  rows : l.yielded ++ l.row-iterator.rest.items ≡ l.fn.rows.items;
}
