-- The text of a replication log reads as the log.
use Rattle.std.proofs.Common.{◌≡◌, ◌∙◌, ℕ, ◌≤◌, ◌<◌, ◌^◌, List, [], ◌∷◌, ◌++◌, length, true, false, Option}
use Rattle.std.proofs.Common.{Some, None, option_map, codes, decimal, refl, sym, ap, arith, append_assoc}
use Rattle.std.proofs.lemmas.Bool.Decides.{nat_tests}
use Rattle.std.proofs.lemmas.Str.{is_utf8-from_IsUtf8}
use Rattle.std.specs.Prelude.{nat_le, IfSome}
use Rattle.json.specs.Print.{escape_byte, quoted}
use Rattle.json.proofs.Printed.Utf8.{IsUtf8-are_ascii}
use Rattle.serde_json.specs.Data.{Data, unsigned, number, string, array, object, Items}
use Rattle.serde_json.specs.Data.{no_items, item, no_members, member, depth, items_depth}
use Rattle.serde_json.specs.Read.{max_depth}
use Rattle.serde_json.specs.Written.{compact_text, items_text, members_text}
use Rattle.hub_document.specs.Read.{json_of}
use Rattle.hub_follow_model.specs.ReplicationLog.{ReplicationLog, HistoryEntry}
use Rattle.hub_follow_model.specs.Sequence.{seq_of}
use Rattle.hub_follow_model.specs.declared.seq.Seq.{Seq}
use Rattle.hub_follower.proofs.TaggedText.{tagged_back, tagged_quoted, tagged_utf8}
use Rattle.hub_round_trip.specs.RoundTrip.{IsWritable, AreWritable, IsOrdered, AreOrdered}
use Rattle.hub_round_trip.proofs.ValueLemmas.{read-compact_text, utf8-compact_text, of_json-outline}
use Rattle.hub_follower.specs.LogText.{seq_value, seq_text, seq_text_of, entries_in, log_of, log_in}
use Rattle.hub_follower.specs.LogText.{entry_text, later_entries_text, entries_text, log_text}
use Rattle.hub_follower.specs.Laws.{IsWritableSeq, IsWritableEntry}
use Rattle.hub_follower.specs.Laws.{AreWritableEntries, IsWritableLog, LogsReadBack}

-- ---- a sequence

-- the data of a sequence: a string with its life, or a number where the life is not known
abbrev seq_data : ℕ → Option ℕ → Data
seq_data n None = number (unsigned n)
seq_data n (Some life) = string (decimal n ++ 45 ∷ decimal life)

abbrev data_of : Seq → Data
data_of seq = seq_data seq.n seq.life

seq_compact : (n : ℕ) (life : Option ℕ) → n < 2 ^ 64 → IfSome life (λ l. l < 2 ^ 64)
    → compact_text (seq_data n life) ≡ seq_text_of n life
seq_compact n None h k = refl
seq_compact n (Some life) h k = tagged_quoted n life h k

compact_of : (seq : Seq) → IsWritableSeq seq → compact_text (data_of seq) ≡ seq_text seq
compact_of seq h = seq_compact seq.n seq.life h.0 h.1

seq_writable : (n : ℕ) (life : Option ℕ) → n < 2 ^ 64 → IfSome life (λ l. l < 2 ^ 64)
    → IsWritable (seq_data n life)
seq_writable n None h k = h
seq_writable n (Some life) h k = tagged_utf8 n life h k

seq_ordered : (n : ℕ) (life : Option ℕ) → IsOrdered (seq_data n life)
seq_ordered n None = tt
seq_ordered n (Some life) = tt

seq_shallow : (n : ℕ) (life : Option ℕ) → depth (seq_data n life) ≡ 0
seq_shallow n None = refl
seq_shallow n (Some life) = refl

seq_back : (n : ℕ) (life : Option ℕ) → n < 2 ^ 64 → IfSome life (λ l. l < 2 ^ 64)
    → seq_value (seq_data n life) ≡ Some (record { n = n; life = life })
seq_back n None h k = refl
seq_back n (Some life) h k = ap (option_map (λ p. seq_of p.1 p.0)) (tagged_back n life h k)

back_of : (seq : Seq) → IsWritableSeq seq → seq_value (data_of seq) ≡ Some seq
back_of seq h = seq_back seq.n seq.life h.0 h.1

-- ---- the object

abbrev entry_data : HistoryEntry → Data
entry_data entry =
    object (member (codes "end_last_seq") (data_of entry.end_last_seq)
    (member (codes "recorded_seq") (data_of entry.recorded_seq)
    (member (codes "session_id") (string entry.session_id)
    (member (codes "start_last_seq") (data_of entry.start_last_seq) no_members))))

abbrev entries_data : List HistoryEntry → Items
entries_data [] = no_items
entries_data (entry ∷ history) = item (entry_data entry) (entries_data history)

abbrev log_data : ReplicationLog → Data
log_data log =
    object (member (codes "history") (array (entries_data log.history))
    (member (codes "replication_id_version") (number (unsigned 3))
    (member (codes "session_id") (string log.session_id)
    (member (codes "source_last_seq") (data_of log.source_last_seq) no_members))))

-- ---- the text of the object

-- the text of an entry that has these texts of its sequences
abbrev entry_with : HistoryEntry → (a b c : List ℕ) → List ℕ
entry_with entry a b c =
    codes "{\"end_last_seq\":" ++ (a ++ (codes ",\"recorded_seq\":" ++ (b ++ (codes ",\"session_id\":"
    ++ (quoted entry.session_id ++ (codes ",\"start_last_seq\":" ++ (c ++ codes "}")))))))

entry_parts : (entry : HistoryEntry)
    → compact_text (entry_data entry)
    ≡ entry_with entry (compact_text (data_of entry.end_last_seq)) (compact_text (data_of entry.recorded_seq))
    (compact_text (data_of entry.start_last_seq))
unfolding escape_byte
entry_parts entry = refl

entry_compact : (entry : HistoryEntry) → IsWritableEntry entry
    → compact_text (entry_data entry) ≡ entry_text entry
entry_compact entry h =
    entry_parts entry
    ∙ (ap (λ a. entry_with entry a (compact_text (data_of entry.recorded_seq))
    (compact_text (data_of entry.start_last_seq)))
    (compact_of entry.end_last_seq h.end_seq)
    ∙ (ap (λ b.
    entry_with entry (seq_text entry.end_last_seq) b (compact_text (data_of entry.start_last_seq)))
    (compact_of entry.recorded_seq h.recorded)
    ∙ ap (λ c. entry_with entry (seq_text entry.end_last_seq) (seq_text entry.recorded_seq) c)
    (compact_of entry.start_last_seq h.start)))

later_compact : (history : List HistoryEntry) → AreWritableEntries history
    → items_text true (entries_data history) ≡ later_entries_text history ++ 93 ∷ []
later_compact [] h = refl
later_compact (entry ∷ history) h =
    ap (λ s. 44 ∷ (s ++ items_text true (entries_data history))) (entry_compact entry h.0)
    ∙ ap (λ s. 44 ∷ (entry_text entry ++ s)) (later_compact history h.1)
    ∙ ap (λ s. 44 ∷ s) (sym (append_assoc (entry_text entry) (later_entries_text history) (93 ∷ [])))

entries_compact : (history : List HistoryEntry) → AreWritableEntries history
    → items_text false (entries_data history) ≡ entries_text history ++ 93 ∷ []
entries_compact [] h = refl
entries_compact (entry ∷ history) h =
    ap (λ s. s ++ items_text true (entries_data history)) (entry_compact entry h.0)
    ∙ ap (λ s. entry_text entry ++ s) (later_compact history h.1)
    ∙ sym (append_assoc (entry_text entry) (later_entries_text history) (93 ∷ []))

-- the text after the history
abbrev rest_text : ReplicationLog → List ℕ
rest_text log =
    members_text true (member (codes "replication_id_version") (number (unsigned 3))
    (member (codes "session_id") (string log.session_id)
    (member (codes "source_last_seq") (data_of log.source_last_seq) no_members)))

-- the text after the history, with this text of its sequence
abbrev rest_with : ReplicationLog → List ℕ → List ℕ
rest_with log a =
    codes ",\"replication_id_version\":" ++ (decimal 3 ++ (codes ",\"session_id\":" ++ (quoted log.session_id
    ++ (codes ",\"source_last_seq\":" ++ (a ++ codes "}")))))

rest_parts : (log : ReplicationLog)
    → rest_text log ≡ rest_with log (compact_text (data_of log.source_last_seq))
unfolding escape_byte
rest_parts log = refl

log_compact : (log : ReplicationLog) → IsWritableLog log → compact_text (log_data log) ≡ log_text log
unfolding escape_byte
log_compact log h =
    ap (λ s. codes "{\"history\":[" ++ (s ++ rest_text log)) (entries_compact log.history h.entries)
    ∙ (ap (λ s. codes "{\"history\":[" ++ s)
    (append_assoc (entries_text log.history) (93 ∷ []) (rest_text log))
    ∙ ap (λ s. codes "{\"history\":[" ++ (entries_text log.history ++ (93 ∷ s)))
    (rest_parts log ∙ ap (rest_with log) (compact_of log.source_last_seq h.last)))

-- ---- the text can be read

entry_writable : (entry : HistoryEntry) → IsWritableEntry entry → IsWritable (entry_data entry)
entry_writable entry h = (
  IsUtf8-are_ascii _ refl,
  seq_writable entry.end_last_seq.n entry.end_last_seq.life h.end_seq.0 h.end_seq.1,
  (
    IsUtf8-are_ascii _ refl,
    seq_writable entry.recorded_seq.n entry.recorded_seq.life h.recorded.0 h.recorded.1,
    (
      IsUtf8-are_ascii _ refl,
      h.utf8,
      (
        IsUtf8-are_ascii _ refl,
        seq_writable entry.start_last_seq.n entry.start_last_seq.life h.start.0 h.start.1,
        tt,
      ),
    ),
  ),
)

entries_writable : (history : List HistoryEntry) → AreWritableEntries history
    → AreWritable (entries_data history)
entries_writable [] h = tt
entries_writable (entry ∷ history) h = (entry_writable entry h.0, entries_writable history h.1)

log_writable : (log : ReplicationLog) → IsWritableLog log → IsWritable (log_data log)
log_writable log h = (
  IsUtf8-are_ascii _ refl,
  entries_writable log.history h.entries,
  (
    IsUtf8-are_ascii _ refl,
    omega arith,
    (
      IsUtf8-are_ascii _ refl,
      h.utf8,
      (
        IsUtf8-are_ascii _ refl,
        seq_writable log.source_last_seq.n log.source_last_seq.life h.last.0 h.last.1,
        tt,
      ),
    ),
  ),
)

entry_ordered : (entry : HistoryEntry) → IsOrdered (entry_data entry)
entry_ordered entry = (
  ((refl, (refl, (refl, tt))), ((refl, (refl, tt)), ((refl, tt), (tt, tt)))),
  (
    seq_ordered entry.end_last_seq.n entry.end_last_seq.life,
    (
      seq_ordered entry.recorded_seq.n entry.recorded_seq.life,
      (tt, (seq_ordered entry.start_last_seq.n entry.start_last_seq.life, tt)),
    ),
  ),
)

entries_ordered : (history : List HistoryEntry) → AreOrdered (entries_data history)
entries_ordered [] = tt
entries_ordered (entry ∷ history) = (entry_ordered entry, entries_ordered history)

log_ordered : (log : ReplicationLog) → IsOrdered (log_data log)
log_ordered log = (
  ((refl, (refl, (refl, tt))), ((refl, (refl, tt)), ((refl, tt), (tt, tt)))),
  (entries_ordered log.history, (tt, (tt, (seq_ordered log.source_last_seq.n log.source_last_seq.life, tt)))),
)

entries_shallow : (history : List HistoryEntry) → items_depth (entries_data history) ≤ 1
entries_shallow [] = omega arith
entries_shallow (entry ∷ history) =
    let rest = entries_shallow history in
    omega (
      arith,
      rest,
      seq_shallow entry.end_last_seq.n entry.end_last_seq.life,
      seq_shallow entry.recorded_seq.n entry.recorded_seq.life,
      seq_shallow entry.start_last_seq.n entry.start_last_seq.life,
    )

log_shallow : (log : ReplicationLog) → depth (log_data log) ≤ max_depth
log_shallow log =
    let rest = entries_shallow log.history in
    omega (arith, rest, seq_shallow log.source_last_seq.n log.source_last_seq.life)

-- ---- the text reads as the log

entries_back : (history : List HistoryEntry) → AreWritableEntries history
    → entries_in (entries_data history) ≡ Some history
entries_back [] h = refl
entries_back (entry ∷ history) h =
    rw (
      back_of entry.start_last_seq h.0.start,
      back_of entry.end_last_seq h.0.end_seq,
      back_of entry.recorded_seq h.0.recorded,
      entries_back history h.1,
    ) refl

short_back : (history : List HistoryEntry) → length history ≤ 50 → nat_le (length history) 50 ≡ true
short_back history h = grind (arith, nat_tests)

log_back : (log : ReplicationLog) → IsWritableLog log → log_of (log_data log) ≡ Some log
log_back log h =
    rw (
      back_of log.source_last_seq h.last,
      entries_back log.history h.entries,
      short_back log.history h.short,
    ) refl

text_read : (log : ReplicationLog) → IsWritableLog log
    → json_of (compact_text (log_data log)) ≡ Some (log_data log)
text_read log h =
    let d = log_data log in
    let w = log_writable log h in
    rw (is_utf8-from_IsUtf8 (compact_text d) (utf8-compact_text d w))
    (read-compact_text d w (log_shallow log) ∙ of_json-outline d w (log_ordered log))

pub logs_read_back : LogsReadBack
logs_read_back log h =
    ap log_in (sym (log_compact log h)) ∙ (rw (text_read log h) (log_back log h))
