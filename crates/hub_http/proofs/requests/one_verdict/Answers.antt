use Rattle.hub_http.proofs.ExclusionLemmas.{spelled_no_fault, nothing_spells, nothing_faults}
use Rattle.hub_http.proofs.ExclusionLemmas.{one_head_fault, head_fault, one_fault, open_faults}
use Rattle.hub_http.proofs.requests.one_verdict.Goals as goal

pub returns-clause-spelled : goal.returns-clause-spelled
returns-clause-spelled c = spelled_no_fault

pub returns-clause-nothing_spelled : goal.returns-clause-nothing_spelled
returns-clause-nothing_spelled c = nothing_spells

pub returns-clause-nothing_faulty : goal.returns-clause-nothing_faulty
returns-clause-nothing_faulty c = nothing_faults

pub returns-clause-head : goal.returns-clause-head
returns-clause-head c = one_head_fault

pub returns-clause-named : goal.returns-clause-named
returns-clause-named c = head_fault

pub returns-clause-whole : goal.returns-clause-whole
returns-clause-whole c = one_fault

pub returns-clause-open : goal.returns-clause-open
returns-clause-open c = open_faults
