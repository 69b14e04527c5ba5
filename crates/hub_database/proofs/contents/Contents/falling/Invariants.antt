use Rattle.std.proofs.Common.{◌≡◌, ◌-◌, ◌++◌, length, map, take}
use Rattle.hub_params.specs.FeedModel.{params_of}
use Rattle.hub_database.proofs.FallingLemmas.{all_shown, left, show}
use Rattle.hub_database.proofs.contents.Contents.falling.Given as goal

abbrev pub invariant-loop-seq : goal.invariant-loop-seq
invariant-loop-seq l =
    all_shown l.self.journal (params_of l.params) l.since l.most
    ≡ l.rows.items ++ map (show l.self.journal (params_of l.params) l.since)
    (take (l.most - length l.rows.items) (left l.self.journal (params_of l.params) l.since l.place))

abbrev pub decreases-loop-seq : goal.decreases-loop-seq
decreases-loop-seq l = l.place
