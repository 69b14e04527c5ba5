use Rattle.std.proofs.Common.{sym}
use Rattle.hub_revtree.proofs.TreeLemmas.{knows}
use Rattle.hub_revtree.proofs.tree.RevTree.knows_digest.Goals as goal

pub returns : goal.returns
returns c =
    rw (sym c.self.view_is)
    (knows c.self.inside.branches.list c.args.rev.now c.is_digest_named.result c.is_digest_named.ensures)
