use Rattle.hub_http.proofs.OfferLemmas.{spells_more, all_more}
use Rattle.hub_http.proofs.RequestLemmas.{head_fault_more}
use Rattle.hub_http.proofs.requests.more_behind.Goals as goal

pub returns-clause-spelled : goal.returns-clause-spelled
returns-clause-spelled c = spells_more

pub returns-clause-all : goal.returns-clause-all
returns-clause-all c = all_more

pub returns-clause-faulty : goal.returns-clause-faulty
returns-clause-faulty c = head_fault_more
