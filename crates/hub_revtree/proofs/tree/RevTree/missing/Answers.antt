use Rattle.std.proofs.Common.{◌∙◌, ap, []}
use Rattle.hub_model.specs.Missing.{unknown_revisions}
use Rattle.hub_revtree.proofs.BranchLemmas.{on_err}
use Rattle.hub_revtree.proofs.LineLemmas.{missing_by}
use Rattle.hub_revtree.proofs.tree.RevTree.missing.Goals as goal

pub returns-in_err-found-clause-memory : goal.returns-in_err-found-clause-memory
returns-in_err-found-clause-memory c =
    on_err c.from_residual.result _ (λ none. c.in_err-found.ensures.memory
    (missing_by c.branches.result.now.list c.args.revs.now
    ∙ (ap (λ es. unknown_revisions es [] c.args.revs.now) c.branches.ensures.edits ∙ none)))

pub returns-clause-ok : goal.returns-clause-ok
returns-clause-ok c =
    c.new.ensures
    ∙ c.in_ok-found.ensures.ok
    ∙ missing_by c.branches.result.now.list c.args.revs.now
    ∙ ap (λ es. unknown_revisions es [] c.args.revs.now) c.branches.ensures.edits
