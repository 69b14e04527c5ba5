use Rattle.std.proofs.Common.{◌≡◌, drop}
use Rattle.hub_follow_model.specs.ReplicationLog as model
use Rattle.hub_follower.proofs.log.recorded_seq_of.Given as goal

-- no entry so far is of the session, so the later entries decide
abbrev pub invariant-loop-entry : goal.invariant-loop-entry
invariant-loop-entry l =
    model.recorded_seq_of l.session (drop l.entry-index l.history) ≡ model.recorded_seq_of l.session l.history
