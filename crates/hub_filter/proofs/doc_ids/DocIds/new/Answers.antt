use Rattle.hub_filter.proofs.ListedLemmas.{listed_as}
use Rattle.hub_filter.proofs.OrderLemmas.{sorted_is}
use Rattle.hub_filter.proofs.doc_ids.DocIds.new.Goals as goal

pub returns-clause-listed : goal.returns-clause-listed
returns-clause-listed c =
    listed_as c.args.ids.items c.sort_unstable.new.self.items c.sort_unstable.ensures.permutation

pub returns-clause-order : goal.returns-clause-order
returns-clause-order c =
    sorted_is c.args.ids.items c.sort_unstable.new.self.items c.sort_unstable.ensures.permutation
    c.sort_unstable.ensures.sorted
