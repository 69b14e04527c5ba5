-- A replication log, and the sequence up to which the logs of source and target agree (CouchDB Replication
-- Protocol, retrieve replication logs from source and target, compare replication logs).
use Rattle.std.specs.Prelude.{◌≡◌, ℕ, cond, List, [], ◌∷◌, Contains, Option, Some, None, bytes_eq, ◌⊎◌}
use Rattle.hub_follow_model.specs.Sequence.{beginning, lesser_seq}
use Rattle.hub_follow_model.specs.declared.seq.Seq.{Seq}

-- the entry of one replication session in a log's history
pub record HistoryEntry : Type 0 where
  pub session_id : List ℕ
  pub start_last_seq : Seq  -- the source's sequence after which the session began
  pub end_last_seq : Seq  -- the last sequence to which the session came
  pub recorded_seq : Seq  -- the sequence that the session recorded

-- the members of a replication log that a follower reads and writes
pub record ReplicationLog : Type 0 where
  pub session_id : List ℕ  -- the id of the last session
  pub source_last_seq : Seq  -- the sequence that the last session recorded
  pub history : List HistoryEntry  -- newest first

-- the sequence that the first entry of this session records, if there is one
abbrev pub recorded_seq_of : List ℕ → List HistoryEntry → Option Seq
recorded_seq_of session [] = None
recorded_seq_of session (entry ∷ history) =
    cond (bytes_eq session entry.session_id) (Some entry.recorded_seq) (recorded_seq_of session history)

-- the lesser of two recorded sequences, or another sequence where the second one is missing
abbrev pub lesser_sequence : Seq → Option Seq → Seq → Seq
lesser_sequence seq None otherwise = otherwise
lesser_sequence seq (Some other) otherwise = lesser_seq other seq

-- the sequence of the newest session in the target's history that the source's history has too: the lesser of
-- the two that they record for it. Without a common session it is the beginning. Where s1 is the newest
-- common session, and recorded 5 at the source and 4 at the target, it is 4 (proved: `ByTheLesser`).
abbrev pub common_session_sequence : List HistoryEntry → List HistoryEntry → Seq
common_session_sequence source [] = beginning
common_session_sequence source (entry ∷ target) =
    lesser_sequence entry.recorded_seq (recorded_seq_of entry.session_id source)
    (common_session_sequence source target)

-- The sequence after which a session begins. Where both logs are of one last session, it is the lesser of
-- their last sequences. Else it is that of the newest session that both histories have, and without one it is
-- the beginning. Where a log is absent it is the beginning too. Where both logs are of s3, with 9 at the
-- source and 7 at the target, it is 7 (proved: `ByTheLastSession`). Where they are of s3 and s2, and both
-- have recorded 4 by s1, it is 4 (proved: `ByAnOlderSession`).
abbrev pub common_sequence : Option ReplicationLog → Option ReplicationLog → Seq
common_sequence None target = beginning
common_sequence (Some source) None = beginning
common_sequence (Some source) (Some target) =
    cond (bytes_eq source.session_id target.session_id)
    (lesser_seq source.source_last_seq target.source_last_seq)
    (common_session_sequence source.history target.history)

-- the entries of a log; none where there is no log
abbrev pub history_of : Option ReplicationLog → List HistoryEntry
history_of None = []
history_of (Some log) = log.history

-- the log records the number c of a sequence up to which all was copied: the log's last sequence, or that of
-- an entry. A log whose last sequence is 9, and whose entries record 9 and 4, records 9 and 4.
abbrev pub IsRecordedIn : Option ReplicationLog → ℕ → Type 0
IsRecordedIn None c = ⊥
IsRecordedIn (Some log) c =
    (log.source_last_seq.n ≡ c)
    ⊎ ((entry : HistoryEntry) × Contains log.history entry × (entry.recorded_seq.n ≡ c))
