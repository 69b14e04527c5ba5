use Rattle.std.proofs.Common.{◌++◌, ◌∙◌, ◌+◌, ap, drop}
use Rattle.hub_revtree.proofs.RunLemmas.{one_on}
use Rattle.hub_revtree.proofs.run.Run.append_from.Goals as goal

pub loop-place-preserved : goal.loop-place-preserved
loop-place-preserved c =
    ap (λ items. items ++ drop (c.loop-place.place + 1) c.args.self.now) c.in_ok-push.ensures.items
    ∙ one_on c.args.self.now c.loop-place.line.items c.loop-place.place c.at.result c.at.ensures
    ∙ c.loop-place.invariant
