use Rattle.std.proofs.Common.{◌≡◌, drop}
use Rattle.hub_follow_model.specs.ReplicationLog as model
use Rattle.hub_follower.proofs.log.common_session_sequence.Given as goal

-- no session so far is common, so the later entries decide
abbrev pub invariant-loop-entry : goal.invariant-loop-entry
invariant-loop-entry l =
    model.common_session_sequence l.source (drop l.entry-index l.target)
    ≡ model.common_session_sequence l.source l.target
