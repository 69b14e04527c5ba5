use Rattle.std.proofs.Common.{◌∙◌, ap, sym}
use Rattle.hub_revtree.specs.Winner.{winner_of}
use Rattle.hub_revtree.proofs.TreeLemmas.{leaves_by}
use Rattle.hub_revtree.proofs.WinnerLemmas.{better_wins, first_wins, still_wins}
use Rattle.hub_revtree.proofs.leaf.best_with_newest.Goals as goal

pub returns-then-best-newest-clause-best : goal.returns-then-best-newest-clause-best
returns-then-best-newest-clause-best c =
    first_wins c.args.branches.now.list c.len-newest.ensures.legal c.args.best c.requires.winner
    c.len-newest.result c.len-newest.ensures.length c.requires.some c.if-best-newest.true

pub returns-then-is_head_above-clause-best : goal.returns-then-is_head_above-clause-best
returns-then-is_head_above-clause-best c =
    better_wins c.args.branches.now.list c.len-newest.ensures.legal c.args.best c.requires.winner
    c.len-newest.result c.len-newest.ensures.length c.requires.some c.if-best-newest.false
    c.is_head_above.result c.is_head_above.ensures c.if-is_head_above.true

pub returns-in-None-clause-best : goal.returns-in-None-clause-best
returns-in-None-clause-best c =
    rw c.best_candidate.ensures.list
    at (c.best_leaf.ensures ∙ ap winner_of (sym (leaves_by c.best_candidate.new.branches.list)))

pub returns-clause-best : goal.returns-clause-best
returns-clause-best c =
    still_wins c.args.branches.now.list c.len-newest.ensures.legal c.args.best c.requires.winner
    c.len-newest.result c.len-newest.ensures.length c.requires.some c.if-best-newest.false
    c.is_head_above.result c.is_head_above.ensures c.if-is_head_above.false
    c.is_head_inner.result c.is_head_inner.ensures c.if-is_head_inner.false
