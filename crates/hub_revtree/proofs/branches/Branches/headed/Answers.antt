use Rattle.std.proofs.Common.{◌∙◌, sym}
use Rattle.hub_revtree.specs.Stem.{Stem}
use Rattle.hub_revtree.specs.Tree.{tip}
use Rattle.hub_revtree.proofs.HeadLemmas.{headed_count, headed_tip, map_map}
use Rattle.hub_revtree.proofs.branches.Branches.headed.Goals as goal

pub returns-clause-tip : goal.returns-clause-tip
returns-clause-tip c =
    rw (sym c.self.view_is)
    (map_map c.headed.result (λ s. s.now) (λ (s : Stem). tip c.args.rev.now s.deleted s.body)
    ∙ headed_tip c.self.inside.stems.items c.self.invariant.0 c.args.rev.now _
    (rw c.as_slice.ensures.value at c.headed.ensures))

pub returns-clause-count : goal.returns-clause-count
returns-clause-count c =
    rw (sym c.self.view_is)
    (map_map c.headed.result (λ s. s.now) (λ (s : Stem). s.count)
    ∙ headed_count c.self.inside.stems.items c.self.invariant.0 c.args.rev.now _
    (rw c.as_slice.ensures.value at c.headed.ensures))
