use Rattle.std.proofs.Common.{◌∙◌, sym}
use Rattle.hub_index.proofs.IndexLemmas.{last_none, last_found}
use Rattle.hub_index.proofs.tree_index.TreeIndexSeqIndex.last_before.Goals as goal

pub returns-in_err-seq-clause-last : goal.returns-in_err-seq-clause-last
returns-in_err-seq-clause-last c =
    rw (← c.self.view_is)
    (c.from_residual.ensures
    ∙ sym (last_none c.self.inside.documents.entries c.range.result c.args.place
    (c.range.ensures.between tt) c.in_err-seq.ensures.steps.0))

pub returns-clause-last : goal.returns-clause-last
returns-clause-last c =
    rw (← c.self.view_is)
    (sym (last_found c.self.inside.documents.entries c.range.result c.args.place
    (c.range.ensures.between tt) _ (c.in_ok-seq.seq.now, c.in_ok-seq.document.now) c.in_ok-seq.ensures.steps))
