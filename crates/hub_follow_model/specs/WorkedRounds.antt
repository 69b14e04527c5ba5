-- Worked rounds: the calls that a follower makes, and the follower after them, where source and target answer
-- by their journals (own, over the CouchDB Replication Protocol, replicate changes).
use Rattle.std.specs.Prelude.{◌≡◌, ℕ, List, [], ◌∷◌, ◌++◌, map, filter, false, nat_lt, Option, Some, None}
use Rattle.std.specs.Prelude.{Err, codes}
use Rattle.hub_model.specs.declared.feeds.Style.TheVariants.{AllDocs}
use Rattle.hub_model.specs.declared.outcomes.Fault.TheVariants.{SequenceFull}
use Rattle.hub_model.specs.Current.{current}
use Rattle.hub_model.specs.Journal.{Edit}
use Rattle.hub_model.specs.Missing.{RevisionsOfDoc, diffs}
use Rattle.hub_model.specs.Outcome.{merges_all}
use Rattle.hub_model.specs.Revision.{Revision}
use Rattle.hub_model.specs.Row.{ChangeRow, row_of}
use Rattle.hub_model.specs.Walk.{shown_edit}
use Rattle.hub_model.specs.WorkedFeeds.{rev, doc}
use Rattle.hub_follow_model.specs.Follower.{Call, Changes, RevsDiff, OpenRevs, Merge, LocalPut, Source}
use Rattle.hub_follow_model.specs.Follower.{Target}
use Rattle.hub_follow_model.specs.Follower.{Answer, LogAnswer, ChangesAnswer, RevsDiffAnswer, OpenRevsAnswer}
use Rattle.hub_follow_model.specs.Follower.{MergeAnswer, PutAnswer, Session, Listing, Retrieval, Storage}
use Rattle.hub_follow_model.specs.Follower.{SourceCheckpoint, Follower, SourceStart, Ready, Busy}
use Rattle.hub_follow_model.specs.Follower.{RefusedDocument, MissingRevision, revisions_of_row, next_call}
use Rattle.hub_follow_model.specs.Follower.{answer_result, after_answer}
use Rattle.hub_follow_model.specs.Sequence.{beginning, seq_of}
use Rattle.hub_follow_model.specs.declared.seq.Seq.{Seq}
use Rattle.hub_follow_model.specs.ReplicationLog.{ReplicationLog, HistoryEntry}

-- the calls that a follower makes while these answers come
abbrev pub calls_of : Follower → List Answer → List (Option Call)
calls_of follower [] = []
calls_of follower (answer ∷ answers) = next_call follower ∷ calls_of (after_answer follower answer) answers

-- the follower after all these answers
abbrev pub after_answers : Follower → List Answer → Follower
after_answers follower [] = follower
after_answers follower (answer ∷ answers) = after_answers (after_answer follower answer) answers

-- the edits of a, b and c at the source
abbrev pub three_edits : List Edit
three_edits =
    doc (codes "a") (rev 1 (codes "a") ∷ []) ∷ doc (codes "b") (rev 1 (codes "b") ∷ [])
    ∷ doc (codes "c") (rev 1 (codes "c") ∷ []) ∷ []

-- the second edit of a
abbrev pub second_edit : Edit
second_edit = doc (codes "a") (rev 2 (codes "d") ∷ rev 1 (codes "a") ∷ [])

-- the edits of a, b, c, then a again
abbrev pub four_edits : List Edit
four_edits = three_edits ++ second_edit ∷ []

-- the rows above a sequence, of all leaves
abbrev pub rows_above : List Edit → ℕ → List ChangeRow
rows_above journal since =
    map (row_of journal AllDocs false) (filter (λ c. nat_lt since c.seq) (current journal))

-- one revision of a document
abbrev pub one_of : List ℕ → Revision → RevisionsOfDoc
one_of id revision = record { id = id; revs = revision ∷ [] }

-- the sequence n of the source, which is in its first life
abbrev pub seq : ℕ → Seq
seq n = seq_of 1 n

-- a session that began at the beginning, and is at this place
abbrev pub session_at : Seq → Session
session_at place =
    record {
      session_id = codes "s1";
      start = beginning;
      place = place;
      source_history = [];
      target_history = [];
    }

-- the answers of source and target in the first round: the target is empty
abbrev pub first_answers : List Answer
first_answers =
    ChangesAnswer (rows_above three_edits 0) 3 1
    ∷ RevsDiffAnswer (diffs [] (map revisions_of_row (rows_above three_edits 0)))
    ∷ OpenRevsAnswer (map (shown_edit three_edits (codes "a")) (rev 1 (codes "a") ∷ []))
    ∷ OpenRevsAnswer (map (shown_edit three_edits (codes "b")) (rev 1 (codes "b") ∷ []))
    ∷ OpenRevsAnswer (map (shown_edit three_edits (codes "c")) (rev 1 (codes "c") ∷ []))
    ∷ MergeAnswer (merges_all 10 [] three_edits).outcomes ∷ []

-- the calls of the first round: the changes, the comparison, each document, and the merge of all three
abbrev pub FirstRoundCalls : Type 0
FirstRoundCalls =
    calls_of (Busy (session_at beginning) Listing) first_answers
    ≡ Some (Changes beginning)
    ∷ Some (RevsDiff (one_of (codes "a") (rev 1 (codes "a")) ∷ one_of (codes "b") (rev 1 (codes "b"))
    ∷ one_of (codes "c") (rev 1 (codes "c")) ∷ []))
    ∷ Some (OpenRevs (codes "a") (rev 1 (codes "a") ∷ []))
    ∷ Some (OpenRevs (codes "b") (rev 1 (codes "b") ∷ []))
    ∷ Some (OpenRevs (codes "c") (rev 1 (codes "c") ∷ [])) ∷ Some (Merge three_edits) ∷ []

-- the place after the first round is its last sequence
abbrev pub FirstRoundEnds : Type 0
FirstRoundEnds =
    after_answers (Busy (session_at beginning) Listing) first_answers ≡ Ready (session_at (seq 3))

-- the answers in the second round: the target has a, b and c, and a was edited again
abbrev pub second_answers : List Answer
second_answers =
    ChangesAnswer (rows_above four_edits 3) 4 1
    ∷ RevsDiffAnswer (diffs three_edits (map revisions_of_row (rows_above four_edits 3)))
    ∷ OpenRevsAnswer (map (shown_edit four_edits (codes "a")) (rev 2 (codes "d") ∷ []))
    ∷ MergeAnswer (merges_all 10 three_edits (second_edit ∷ [])).outcomes ∷ []

-- the calls of the second round: the changes after 3, the comparison of a, its new revision, and the merge of
-- that
abbrev pub SecondRoundCalls : Type 0
SecondRoundCalls =
    calls_of (Busy (session_at (seq 3)) Listing) second_answers
    ≡ Some (Changes (seq 3)) ∷ Some (RevsDiff (one_of (codes "a") (rev 2 (codes "d")) ∷ []))
    ∷ Some (OpenRevs (codes "a") (rev 2 (codes "d") ∷ [])) ∷ Some (Merge (second_edit ∷ [])) ∷ []

-- the place after the second round is its last sequence
abbrev pub SecondRoundEnds : Type 0
SecondRoundEnds =
    after_answers (Busy (session_at (seq 3)) Listing) second_answers ≡ Ready (session_at (seq 4))

-- the entry that this session records at 4
abbrev pub first_entry : HistoryEntry
first_entry =
    record { session_id = codes "s1"; start_last_seq = beginning; end_last_seq = seq 4; recorded_seq = seq 4 }

-- the log with that entry
abbrev pub first_log : ReplicationLog
first_log = record { session_id = codes "s1"; source_last_seq = seq 4; history = first_entry ∷ [] }

-- the calls of the checkpoint: the log is stored at the source, then at the target
abbrev pub CheckpointCalls : Type 0
CheckpointCalls =
    calls_of (Busy (session_at (seq 4)) SourceCheckpoint) (PutAnswer ∷ PutAnswer ∷ [])
    ≡ Some (LocalPut Source first_log) ∷ Some (LocalPut Target first_log) ∷ []

-- the place after the checkpoint is the same
abbrev pub CheckpointEnds : Type 0
CheckpointEnds =
    after_answers (Busy (session_at (seq 4)) SourceCheckpoint) (PutAnswer ∷ PutAnswer ∷ [])
    ≡ Ready (session_at (seq 4))

-- a later session that finds both logs begins after 4, and keeps the entries of both
abbrev pub ResumesAtCheckpoint : Type 0
ResumesAtCheckpoint =
    after_answers (SourceStart (codes "s2")) (LogAnswer (Some first_log) ∷ LogAnswer (Some first_log) ∷ [])
    ≡ Ready (record {
      session_id = codes "s2";
      start = seq 4;
      place = seq 4;
      source_history = first_entry ∷ [];
      target_history = first_entry ∷ [];
    })

-- the follower in the second round, as it fetches a
abbrev pub at_retrieval : Follower
at_retrieval = Busy (session_at (seq 3)) (Retrieval (one_of (codes "a") (rev 2 (codes "d"))) [] [] (seq 4))

-- the source misses the revision: the round fails, and the place stays
abbrev pub MissingLeavesPlace : Type 0
MissingLeavesPlace =
    (answer_result at_retrieval (OpenRevsAnswer (None ∷ []))
    ≡ Err (MissingRevision (codes "a") (rev 2 (codes "d"))))
    × (after_answer at_retrieval (OpenRevsAnswer (None ∷ [])) ≡ Ready (session_at (seq 3)))

-- the follower in the second round, as it stores a
abbrev pub at_storage : Follower
at_storage = Busy (session_at (seq 3)) (Storage (second_edit ∷ []) (seq 4))

-- the answer of a target that has three edits, and may have no more
abbrev pub full_answer : Answer
full_answer = MergeAnswer (merges_all 3 three_edits (second_edit ∷ [])).outcomes

-- the target refuses the document: the round fails, and the place stays
abbrev pub RefusalLeavesPlace : Type 0
RefusalLeavesPlace =
    (answer_result at_storage full_answer ≡ Err (RefusedDocument second_edit SequenceFull))
    × (after_answer at_storage full_answer ≡ Ready (session_at (seq 3)))
