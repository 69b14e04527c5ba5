use Rattle.hub_service.proofs.AnswerLemmas.{got_is_there, put_is_stored}
use Rattle.hub_service.proofs.laws.answers_are_right.Goals as goal

pub returns-clause-got : goal.returns-clause-got
returns-clause-got c = got_is_there

pub returns-clause-put : goal.returns-clause-put
returns-clause-put c = put_is_stored
