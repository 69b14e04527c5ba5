use Rattle.std.proofs.Common.{◌≡◌, ◌+◌, drop, option_map}
use Rattle.hub_revtree.specs.Common.{common as common_of}
use Rattle.hub_revtree.proofs.run.Run.common.Given as goal

abbrev pub invariant-loop-place : goal.invariant-loop-place
invariant-loop-place l =
    common_of l.revisions (drop l.at l.self)
    ≡ option_map (λ n. n + l.place) (common_of (drop l.place l.revisions) (drop l.place (drop l.at l.self)))
