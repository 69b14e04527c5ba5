use Rattle.std.proofs.Common.{ap, sym}
use Rattle.hub_revtree.specs.Run.{kept_in}
use Rattle.hub_revtree.proofs.RunLemmas.{shared_all}
use Rattle.hub_revtree.proofs.run.line_in.Goals as goal

pub returns-in-Shared : goal.returns-in-Shared
returns-in-Shared c =
    shared_all (kept_in c.args.kept) c.in-Shared.field-0 c.in-Shared.most c.in-Shared.digest c.in-Shared.line
    (sym (ap kept_in c.in-Shared.is)) c.all_of.result c.all_of.ensures
