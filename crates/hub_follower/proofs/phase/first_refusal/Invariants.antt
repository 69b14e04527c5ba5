use Rattle.std.proofs.Common.{◌≡◌, ◌++◌, length, drop, map}
use Rattle.std.specs.Prelude.{All}
use Rattle.hub_database.specs.Edits.{edit_of}
use Rattle.hub_follow_model.specs.Follower as follow
use Rattle.hub_follower.specs.Fetched.{HasPath}
use Rattle.hub_follower.proofs.phase.first_refusal.Given as goal

abbrev pub invariant-loop-doc : goal.invariant-loop-doc
invariant-loop-doc l = record {
  at : l.at ≡ length l.yielded;
  docs : l.yielded ++ l.doc-iterator.rest.items ≡ l.fn.docs;
  left : follow.first_refusal (map edit_of l.doc-iterator.rest.items) (drop l.at l.outcomes)
      ≡ follow.first_refusal (map edit_of l.fn.docs) l.outcomes;
  paths : All HasPath l.doc-iterator.rest.items;
}
