-- Worked comparisons of replication logs (own, over CouchDB Replication Protocol, compare replication logs).
use Rattle.std.specs.Prelude.{◌≡◌, ℕ, List, [], ◌∷◌, Some, None, codes}
use Rattle.hub_follow_model.specs.Sequence.{beginning, seq_of}
use Rattle.hub_follow_model.specs.declared.seq.Seq.{Seq}
use Rattle.hub_follow_model.specs.ReplicationLog.{ReplicationLog, HistoryEntry, common_sequence}

-- a sequence whose life is not known
abbrev pub number : ℕ → Seq
number n = record { n = n; life = None }

-- an entry of a session that began at the beginning and recorded this sequence
abbrev pub entry : List ℕ → Seq → HistoryEntry
entry session_id seq =
    record { session_id = session_id; start_last_seq = beginning; end_last_seq = seq; recorded_seq = seq }

-- a log whose last session recorded this sequence, with this older entry after it
abbrev pub log_of : List ℕ → Seq → HistoryEntry → ReplicationLog
log_of session_id seq older =
    record { session_id = session_id; source_last_seq = seq; history = entry session_id seq ∷ older ∷ [] }

-- the last sessions differ, and both logs have the session s1: the common sequence is the one that s1
-- recorded
abbrev pub ByAnOlderSession : Type 0
ByAnOlderSession =
    common_sequence (Some (log_of (codes "s3") (number 9) (entry (codes "s1") (number 4))))
    (Some (log_of (codes "s2") (number 7) (entry (codes "s1") (number 4))))
    ≡ number 4

-- s1 recorded 5 at the source and 4 at the target: the common sequence is the lesser
abbrev pub ByTheLesser : Type 0
ByTheLesser =
    common_sequence (Some (log_of (codes "s3") (number 9) (entry (codes "s1") (number 5))))
    (Some (log_of (codes "s2") (number 7) (entry (codes "s1") (number 4))))
    ≡ number 4

-- both logs have one last session, whose last checkpoint reached the source alone: the lesser sequence counts
abbrev pub ByTheLastSession : Type 0
ByTheLastSession =
    common_sequence (Some (log_of (codes "s3") (number 9) (entry (codes "s1") (number 4))))
    (Some (log_of (codes "s3") (number 7) (entry (codes "s1") (number 4))))
    ≡ number 7

-- no session is common: the common sequence is the beginning
abbrev pub ByNoSession : Type 0
ByNoSession =
    common_sequence (Some (log_of (codes "s3") (number 9) (entry (codes "s1") (number 4))))
    (Some (log_of (codes "s2") (number 7) (entry (codes "s0") (number 4))))
    ≡ beginning

-- the target has no log: the common sequence is the beginning
abbrev pub WithoutLog : Type 0
WithoutLog =
    common_sequence (Some (log_of (codes "s3") (number 9) (entry (codes "s1") (number 4)))) None ≡ beginning

-- the common sequence of logs with one last session, which recorded these sequences at source and target
abbrev pub of_one_session : Seq → Seq → Seq
of_one_session source target =
    common_sequence (Some (log_of (codes "s3") source (entry (codes "s1") (number 4))))
    (Some (log_of (codes "s3") target (entry (codes "s1") (number 4))))

-- of 9-1 and 7-1 the common sequence is 7-1, and so it is where one of the two has no life
abbrev pub ByOneLife : Type 0
ByOneLife =
    (of_one_session (seq_of 1 9) (seq_of 1 7) ≡ seq_of 1 7)
    × (of_one_session (number 9) (seq_of 1 7) ≡ seq_of 1 7)
    × (of_one_session (seq_of 1 9) (number 7) ≡ seq_of 1 7)

-- 9-2 and 7-1 are of two lives: the common sequence is the beginning
abbrev pub ByTwoLives : Type 0
ByTwoLives = of_one_session (seq_of 2 9) (seq_of 1 7) ≡ beginning
