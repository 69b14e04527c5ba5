-- The replication log in the members of a local document (CouchDB Replication Protocol; that one bad member
-- makes the whole log absent, and the bound of 50 entries, is own).
use Rattle.std.specs.Prelude.{ℕ, ◌++◌, List, [], ◌∷◌, length, codes, decimal, nat_le, nat_eq, if◌then◌else◌}
use Rattle.std.specs.Prelude.{Option, Some, None, option_map, option_and_then}
use Rattle.json.specs.Print.{quoted}
use Rattle.serde_json.specs.Data.{Data, Items, no_items, item}
use Rattle.serde_json.specs.Find.{get, as_str, as_number, as_array, as_u64}
use Rattle.hub_document.specs.Read.{json_of}
use Rattle.hub_document.specs.Asking.{in_front}
use Rattle.hub_document.specs.SequenceText.{sequence_text}
use Rattle.hub_params.specs.FeedValues.{tagged_in}
use Rattle.hub_follow_model.specs.ReplicationLog.{ReplicationLog, HistoryEntry}
use Rattle.hub_follow_model.specs.Sequence.{seq_of}
use Rattle.hub_follow_model.specs.declared.seq.Seq.{Seq}

-- the text of a member
abbrev pub text_at : List ℕ → Data → Option (List ℕ)
text_at k content = option_and_then as_str (get k content)

-- the whole number of a member, 0 at least
abbrev pub count_at : List ℕ → Data → Option ℕ
count_at k content = option_and_then as_u64 (option_and_then as_number (get k content))

-- the sequence of a text such as 12-3, where there is a text; else of a number, whose life is not known
abbrev pub seq_or_number : Option (List ℕ) → Option ℕ → Option Seq
seq_or_number None number = option_map (λ n. record { n = n; life = None }) number
seq_or_number (Some text) number = option_map (λ p. seq_of p.1 p.0) (tagged_in text)

-- the sequence of a value: "12-3", or 12 alone
abbrev pub seq_value : Data → Option Seq
seq_value content = seq_or_number (as_str content) (option_and_then as_u64 (as_number content))

-- the sequence of a member
abbrev pub seq_at : List ℕ → Data → Option Seq
seq_at k content = option_and_then seq_value (get k content)

-- the history entry of a value
abbrev pub entry_in : Data → Option HistoryEntry
entry_in content =
    option_and_then (λ session. option_and_then (λ first. option_and_then (λ last. option_map (λ recorded.
    record {
      session_id = session;
      start_last_seq = first;
      end_last_seq = last;
      recorded_seq = recorded;
    })
    (seq_at (codes "recorded_seq") content)) (seq_at (codes "end_last_seq") content))
    (seq_at (codes "start_last_seq") content)) (text_at (codes "session_id") content)

-- the history entries of an array's items, where each item is an entry
abbrev pub entries_in : Items → Option (List HistoryEntry)
entries_in no_items = Some []
entries_in (item d ds) = option_and_then (λ entry. in_front entry (entries_in ds)) (entry_in d)

-- a history, where it has 50 entries at most
abbrev pub short_history : List HistoryEntry → Option (List HistoryEntry)
short_history history = if nat_le (length history) 50 then Some history else None

abbrev pub history_in : Data → Option (List HistoryEntry)
history_in content =
    option_and_then short_history
    (option_and_then entries_in (option_and_then as_array (get (codes "history") content)))

-- the log of a value that has this version: 3 alone is known
abbrev pub log_of_version : Data → ℕ → Option ReplicationLog
log_of_version content version =
    if nat_eq version 3
    then option_and_then (λ session. option_and_then (λ last. option_map (λ history.
    record { session_id = session; source_last_seq = last; history = history })
    (history_in content)) (seq_at (codes "source_last_seq") content)) (text_at (codes "session_id") content)
    else None

-- the log of a value
abbrev pub log_of : Data → Option ReplicationLog
log_of content = option_and_then (log_of_version content) (count_at (codes "replication_id_version") content)

-- the log in the text of the members
abbrev pub log_in : List ℕ → Option ReplicationLog
log_in text = option_and_then log_of (json_of text)

-- the text of a number with its life: a JSON string, or the digits alone where the life is not known
abbrev pub seq_text_of : ℕ → Option ℕ → List ℕ
seq_text_of n None = decimal n
seq_text_of n (Some life) = sequence_text n life

-- the text of a sequence
abbrev pub seq_text : Seq → List ℕ
seq_text seq = seq_text_of seq.n seq.life

-- the text of an entry, its keys in byte order
abbrev pub entry_text : HistoryEntry → List ℕ
entry_text entry =
    codes "{\"end_last_seq\":" ++ (seq_text entry.end_last_seq ++ (codes ",\"recorded_seq\":"
    ++ (seq_text entry.recorded_seq ++ (codes ",\"session_id\":" ++ (quoted entry.session_id
    ++ (codes ",\"start_last_seq\":" ++ (seq_text entry.start_last_seq ++ codes "}")))))))

-- the texts of the entries after the first one, each with a comma in front
abbrev pub later_entries_text : List HistoryEntry → List ℕ
later_entries_text [] = []
later_entries_text (entry ∷ history) = codes "," ++ (entry_text entry ++ later_entries_text history)

-- the texts of all entries, with commas between them
abbrev pub entries_text : List HistoryEntry → List ℕ
entries_text [] = []
entries_text (entry ∷ history) = entry_text entry ++ later_entries_text history

-- the text of a log, its keys in byte order
abbrev pub log_text : ReplicationLog → List ℕ
log_text log =
    codes "{\"history\":[" ++ (entries_text log.history ++ (codes "],\"replication_id_version\":"
    ++ (decimal 3 ++ (codes ",\"session_id\":" ++ (quoted log.session_id
    ++ (codes ",\"source_last_seq\":" ++ (seq_text log.source_last_seq ++ codes "}")))))))
