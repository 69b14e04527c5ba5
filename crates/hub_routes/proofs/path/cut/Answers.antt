use Rattle.std.proofs.Common.{◌==◌, sym}
use Rattle.hub_routes.proofs.RouteLemmas.{cut_before, cut_after, all_before, none_after}
use Rattle.hub_routes.proofs.path.cut.Goals as goal

pub returns-in-Some-clause-before : goal.returns-in-Some-clause-before
returns-in-Some-clause-before c =
    cut_before (λ b. b == c.args.at) c.args.bytes.now c.in-Some.i (sym c.in-Some.ensures)

pub returns-in-Some-clause-after : goal.returns-in-Some-clause-after
returns-in-Some-clause-after c =
    cut_after (λ b. b == c.args.at) c.args.bytes.now c.in-Some.i (sym c.in-Some.ensures)

pub returns-in-None-clause-before : goal.returns-in-None-clause-before
returns-in-None-clause-before c = all_before (λ b. b == c.args.at) c.args.bytes.now (sym c.in-None.ensures)

pub returns-in-None-clause-after : goal.returns-in-None-clause-after
returns-in-None-clause-after c = none_after (λ b. b == c.args.at) c.args.bytes.now (sym c.in-None.ensures)
