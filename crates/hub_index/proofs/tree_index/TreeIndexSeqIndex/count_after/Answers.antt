use Rattle.std.proofs.Common.{◌∙◌, refl}
use Rattle.std.proofs.lemmas.Iterator.Consumers.{count_from_yields_List, YieldsList-from_rest}
use Rattle.hub_index.proofs.IndexLemmas.{counted}
use Rattle.hub_index.proofs.tree_index.TreeIndexSeqIndex.count_after.Goals as goal

pub returns-clause-count : goal.returns-clause-count
returns-clause-count c =
    rw (← c.self.view_is)
    (count_from_yields_List c.range.result _ c.count.ensures.ran (YieldsList-from_rest c.range.result refl)
    ∙ counted c.self.inside.documents.entries c.range.result c.args.place (c.range.ensures.between tt))
