-- A log that is written reads back as the log (own).
use Rattle.std.specs.Prelude.{◌≡◌, ◌≤◌, ◌<◌, ◌^◌, List, [], ◌∷◌, ⊤, length, Some, IsUtf8, IfSome}
use Rattle.hub_follow_model.specs.declared.seq.Seq.{Seq}
use Rattle.hub_follow_model.specs.ReplicationLog.{ReplicationLog, HistoryEntry}
use Rattle.hub_follower.specs.LogText.{log_in, log_text}

-- a sequence and its life are numbers of 64 bits
abbrev pub IsWritableSeq : Seq → Type 0
IsWritableSeq seq = (seq.n < 2 ^ 64) × IfSome seq.life (λ life. life < 2 ^ 64)

-- an entry whose session id is UTF-8, and whose numbers have 64 bits
pub record IsWritableEntry (entry : HistoryEntry) : Type 0 where
  pub utf8 : IsUtf8 entry.session_id
  pub start : IsWritableSeq entry.start_last_seq
  pub end_seq : IsWritableSeq entry.end_last_seq
  pub recorded : IsWritableSeq entry.recorded_seq

abbrev pub AreWritableEntries : List HistoryEntry → Type 0
AreWritableEntries [] = ⊤
AreWritableEntries (entry ∷ history) = IsWritableEntry entry × AreWritableEntries history

-- a log whose session ids are UTF-8, whose numbers have 64 bits, and whose history has 50 entries at most
pub record IsWritableLog (log : ReplicationLog) : Type 0 where
  pub utf8 : IsUtf8 log.session_id
  pub last : IsWritableSeq log.source_last_seq
  pub entries : AreWritableEntries log.history
  pub short : length log.history ≤ 50

-- the text of such a log reads as the log
abbrev pub LogsReadBack : Type 0
LogsReadBack = (log : ReplicationLog) → IsWritableLog log → log_in (log_text log) ≡ Some log
