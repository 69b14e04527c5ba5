use Rattle.std.proofs.Common.{◌≡◌, ◌++◌, map}
use Rattle.hub_follow_model.specs.Follower as follow
use Rattle.hub_follower.proofs.phase.missing_revisions.Given as goal

abbrev pub invariant-loop-diff : goal.invariant-loop-diff
invariant-loop-diff l = record {
  made : l.asked.items ≡ map follow.missing_revisions l.yielded;
  diffs : l.yielded ++ l.diff-iterator.rest.items ≡ l.fn.diffs.items;
}
