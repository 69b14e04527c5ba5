use Rattle.hub_service.proofs.StreamLemmas.{complete_changes, complete_list, complete_updates}
use Rattle.hub_service.proofs.StreamLemmas.{streams_of_changes, streams_of_updates}
use Rattle.hub_service.proofs.laws.streams_are_right.Goals as goal

pub returns-clause-changes : goal.returns-clause-changes
returns-clause-changes c = streams_of_changes

pub returns-clause-all_changes : goal.returns-clause-all_changes
returns-clause-all_changes c = complete_changes

pub returns-clause-updates : goal.returns-clause-updates
returns-clause-updates c = streams_of_updates

pub returns-clause-all_updates : goal.returns-clause-all_updates
returns-clause-all_updates c = complete_updates

pub returns-clause-listed : goal.returns-clause-listed
returns-clause-listed c = complete_list
