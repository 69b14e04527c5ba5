-- A follower copies a source into a target, call by call: it reads both replication logs and then goes round
-- by round (CouchDB Replication Protocol, replicate changes).
use Rattle.std.specs.Prelude.{◌≡◌, ℕ, List, [], ◌∷◌, ◌++◌, length, map, take, Option, Some, None, Result}
use Rattle.std.specs.Prelude.{Ok, Err}
use Rattle.hub_model.specs.declared.outcomes.Fault.{Fault as Refusal}
use Rattle.hub_model.specs.declared.outcomes.Outcome.{Outcome}
use Rattle.hub_model.specs.declared.outcomes.Outcome.TheVariants as outcome
use Rattle.hub_model.specs.Journal.{Edit}
use Rattle.hub_model.specs.Missing.{RevisionsOfDoc, Diff}
use Rattle.hub_model.specs.Revision.{Revision}
use Rattle.hub_model.specs.Row.{ChangeRow}
use Rattle.hub_follow_model.specs.Sequence.{seq_of}
use Rattle.hub_follow_model.specs.declared.seq.Seq.{Seq}
use Rattle.hub_follow_model.specs.ReplicationLog.{ReplicationLog, HistoryEntry, common_sequence, history_of}

-- the database that is copied, and the copy
pub data Side : Type 0 where
  Source : Side
  Target : Side

-- a call of a follower to a database
pub data Call : Type 0 where
  -- asks for the replication log at this side (retrieve replication logs from source and target)
  LocalGet : (side : Side) → Call
  -- asks for the changes above a sequence (listen to changes feed)
  Changes : (since : Seq) → Call
  -- asks which of these revisions the target misses (calculate revision difference)
  RevsDiff : (asked : List RevisionsOfDoc) → Call
  -- asks for these revisions of a document, with their histories (fetch changed documents)
  OpenRevs : (id : List ℕ) (revs : List Revision) → Call
  -- stores these documents with their histories (upload batch of changed documents)
  Merge : (docs : List Edit) → Call
  -- stores the log at this side (record replication checkpoint)
  LocalPut : (side : Side) (log : ReplicationLog) → Call

-- the answer of a database, with one kind for each call
pub data Answer : Type 0 where
  LogAnswer : (log : Option ReplicationLog) → Answer
  -- the changes end at the sequence `last`, and the source is in this life
  ChangesAnswer : (rows : List ChangeRow) (last life : ℕ) → Answer
  RevsDiffAnswer : (diffs : List Diff) → Answer
  OpenRevsAnswer : (docs : List (Option Edit)) → Answer  -- None: the revision is missing
  MergeAnswer : (outcomes : List (Outcome Revision)) → Answer
  PutAnswer : Answer

-- a replication session
pub record Session : Type 0 where
  pub session_id : List ℕ
  pub start : Seq  -- the sequence after which the session began
  pub place : Seq  -- the source's sequence up to which its rounds have copied
  pub source_history : List HistoryEntry  -- the entries of the source's log as the session began
  pub target_history : List HistoryEntry  -- the entries of the target's log as the session began

-- the point of a round or a checkpoint; `last` is the sequence at which the round's changes end
pub data Phase : Type 0 where
  Listing : Phase
  Comparison : (asked : List RevisionsOfDoc) (last : Seq) → Phase
  Retrieval : (next : RevisionsOfDoc) (later : List RevisionsOfDoc) (got : List Edit) (last : Seq) → Phase
  Storage : (got : List Edit) (last : Seq) → Phase
  SourceCheckpoint : Phase
  TargetCheckpoint : Phase

-- a follower has no session, or is at one of the two logs by which a session begins. Or it has a session, and
-- is in no phase or in one.
pub data Follower : Type 0 where
  Down : Follower
  SourceStart : (session_id : List ℕ) → Follower
  TargetStart : (session_id : List ℕ) (source : Option ReplicationLog) → Follower
  Ready : (session : Session) → Follower
  Busy : (session : Session) (phase : Phase) → Follower

-- the reason for which a round or a checkpoint fails
pub data Fault : Type 0 where
  PeerFault : Fault  -- the call failed, or its answer is no answer to it
  RefusedDocument : (doc : Edit) (refusal : Refusal) → Fault  -- the target refused this document
  MissingRevision : (id : List ℕ) (revision : Revision)
      → Fault  -- the source says that it misses this revision

-- The log that a checkpoint writes: it records the place, in front of these older entries, and holds 50
-- entries at most (the number is own). Session s1 began at the beginning, is at place 4, and has no older
-- entries. It writes source_last_seq 4 and one entry from the beginning to 4 (proved: `CheckpointCalls`).
abbrev pub checkpoint_log : Session → List HistoryEntry → ReplicationLog
checkpoint_log session history =
    record {
      session_id = session.session_id;
      source_last_seq = session.place;
      history =
          take 50
          (record {
            session_id = session.session_id;
            start_last_seq = session.start;
            end_last_seq = session.place;
            recorded_seq = session.place;
          } ∷ history);
    }

-- the document of a row, with the leaves that the row lists
abbrev pub revisions_of_row : ChangeRow → RevisionsOfDoc
revisions_of_row row = record { id = row.id; revs = row.changes }

-- the document of a difference, with the revisions that the target misses
abbrev pub missing_revisions : Diff → RevisionsOfDoc
missing_revisions diff = record { id = diff.id; revs = diff.missing }

-- The call that a phase makes. Let the changes after 3 list a with 2-d. The calls are RevsDiff of a with 2-d,
-- then OpenRevs of a with 2-d, then Merge of the fetched document (proved: `SecondRoundCalls`).
abbrev pub phase_call : Session → Phase → Call
phase_call session Listing = Changes session.place
phase_call session (Comparison asked last) = RevsDiff asked
phase_call session (Retrieval next later got last) = OpenRevs next.id next.revs
phase_call session (Storage got last) = Merge got
phase_call session SourceCheckpoint = LocalPut Source (checkpoint_log session session.source_history)
phase_call session TargetCheckpoint = LocalPut Target (checkpoint_log session session.target_history)

-- the call that a follower makes next; none where it has nothing to do
abbrev pub next_call : Follower → Option Call
next_call Down = None
next_call (SourceStart session_id) = Some (LocalGet Source)
next_call (TargetStart session_id source) = Some (LocalGet Target)
next_call (Ready s) = None
next_call (Busy s phase) = Some (phase_call s phase)

-- the session that begins after the sequence up to which the two logs agree. Where both logs record 4, the
-- session begins after 4, is at place 4, and keeps both histories (proved: `ResumesAtCheckpoint`).
abbrev pub new_session : List ℕ → Option ReplicationLog → Option ReplicationLog → Session
new_session session_id source target =
    record {
      session_id = session_id;
      start = common_sequence source target;
      place = common_sequence source target;
      source_history = history_of source;
      target_history = history_of target;
    }

-- the follower after a round, whose last sequence becomes the place
abbrev pub ready_at : Session → Seq → Follower
ready_at session last = Ready (record session { place = last })

-- the follower after the changes: it compares their revisions, or ends the round where there are none
abbrev pub comparison_or_ready : Session → List RevisionsOfDoc → Seq → Follower
comparison_or_ready session [] last = ready_at session last
comparison_or_ready session (a ∷ asked) last = Busy session (Comparison (a ∷ asked) last)

-- the follower after the last fetch: it stores the documents, or ends the round where there are none
abbrev pub storage_or_ready : Session → List Edit → Seq → Follower
storage_or_ready session [] last = ready_at session last
storage_or_ready session (edit ∷ got) last = Busy session (Storage (edit ∷ got) last)

-- the follower fetches the next document that the target misses, or stores all documents where none is left.
-- Where a, b and c are missing each has an OpenRevs of its own, and one Merge stores all three (proved:
-- `FirstRoundCalls`).
abbrev pub retrieval_or_storage : Session → List RevisionsOfDoc → List Edit → Seq → Follower
retrieval_or_storage session [] got last = storage_or_ready session got last
retrieval_or_storage session (next ∷ later) got last = Busy session (Retrieval next later got last)

-- these documents with one more in front, or the fault that its revision is missing
abbrev pub with_document : List ℕ → Revision → Option Edit → Result (List Edit) Fault
    → Result (List Edit) Fault
with_document id revision None docs = Err (MissingRevision id revision)
with_document id revision (Some edit) (Ok es) = Ok (edit ∷ es)
with_document id revision (Some edit) (Err fault) = Err fault

-- the documents of these revisions, in their order, or the first fault: a missing revision, or documents that
-- are too few or too many. Where the source misses 2-d of a, it is MissingRevision a 2-d (proved:
-- `MissingLeavesPlace`).
abbrev pub all_documents : List ℕ → List Revision → List (Option Edit) → Result (List Edit) Fault
all_documents id [] [] = Ok []
all_documents id [] (doc ∷ docs) = Err PeerFault
all_documents id (revision ∷ revs) [] = Err PeerFault
all_documents id (revision ∷ revs) (doc ∷ docs) = with_document id revision doc (all_documents id revs docs)

-- the first refusal of the target, as a fault; a known document is no refusal. Where a full target refuses
-- the only document, it is RefusedDocument with SequenceFull (proved: `RefusalLeavesPlace`). Where the
-- outcomes are Stored and Known there is none.
abbrev pub first_refusal : List Edit → List (Outcome Revision) → Option Fault
first_refusal [] [] = None
first_refusal [] (o ∷ outcomes) = Some PeerFault
first_refusal (edit ∷ docs) [] = Some PeerFault
first_refusal (edit ∷ docs) (outcome.Stored r ∷ outcomes) = first_refusal docs outcomes
first_refusal (edit ∷ docs) (outcome.Known ∷ outcomes) = first_refusal docs outcomes
first_refusal (edit ∷ docs) (outcome.Refused refusal ∷ outcomes) = Some (RefusedDocument edit refusal)

-- the answer is of the call's kind; to OpenRevs or Merge it has as many parts as the call
abbrev pub IsAnswerTo : Call → Answer → Type 0
IsAnswerTo (LocalGet side) (LogAnswer log) = Unit {0}
IsAnswerTo (Changes since) (ChangesAnswer rows last life) = Unit {0}
IsAnswerTo (RevsDiff asked) (RevsDiffAnswer diffs) = Unit {0}
IsAnswerTo (OpenRevs id revs) (OpenRevsAnswer docs) = length docs ≡ length revs
IsAnswerTo (Merge docs) (MergeAnswer outcomes) = length outcomes ≡ length docs
IsAnswerTo (LocalPut side log) PutAnswer = Unit {0}
IsAnswerTo call answer = ⊥

-- the follower makes a call next, and the answer is an answer to that call
abbrev pub IsAnswerToNext : Option Call → Answer → Type 0
IsAnswerToNext None answer = ⊥
IsAnswerToNext (Some call) answer = IsAnswerTo call answer

-- the follower after the documents of one more row were fetched, or the fault of the fetch
abbrev pub after_retrieval : Session → List RevisionsOfDoc → List Edit → Seq → Result (List Edit) Fault
    → Result Follower Fault
after_retrieval session later got last (Ok docs) = Ok (retrieval_or_storage session later (got ++ docs) last)
after_retrieval session later got last (Err fault) = Err fault

-- the follower after the merge, where the target refused no document; else the fault
abbrev pub after_storage : Session → Seq → Option Fault → Result Follower Fault
after_storage session last None = Ok (ready_at session last)
after_storage session last (Some fault) = Err fault

-- The follower after an answer to the call of its phase, or the fault of the round or checkpoint. A round
-- whose changes end at 4 leads to Ready at place 4 after its Merge (proved: `SecondRoundEnds`).
abbrev pub phase_result : Session → Phase → Answer → Result Follower Fault
phase_result session Listing (ChangesAnswer rows last life) =
    Ok (comparison_or_ready session (map revisions_of_row rows) (seq_of life last))
phase_result session (Comparison asked last) (RevsDiffAnswer diffs) =
    Ok (retrieval_or_storage session (map missing_revisions diffs) [] last)
phase_result session (Retrieval next later got last) (OpenRevsAnswer docs) =
    after_retrieval session later got last (all_documents next.id next.revs docs)
phase_result session (Storage got last) (MergeAnswer outcomes) =
    after_storage session last (first_refusal got outcomes)
phase_result session SourceCheckpoint PutAnswer = Ok (Busy session TargetCheckpoint)
phase_result session TargetCheckpoint PutAnswer = Ok (Ready session)
phase_result session phase answer = Err PeerFault

-- the follower after an answer to its next call, or the fault
abbrev pub answer_result : Follower → Answer → Result Follower Fault
answer_result (SourceStart session_id) (LogAnswer log) = Ok (TargetStart session_id log)
answer_result (TargetStart session_id source) (LogAnswer log) = Ok (Ready (new_session session_id source log))
answer_result (Busy s phase) answer = phase_result s phase answer
answer_result follower answer = Err PeerFault

-- the follower after a failure: the phase is dropped, and the place stays. A session that has not begun yet
-- is dropped. A round from place 3 whose OpenRevs or Merge fails leaves Ready at place 3 (proved:
-- `MissingLeavesPlace`, `RefusalLeavesPlace`).
abbrev pub after_failure : Follower → Follower
after_failure Down = Down
after_failure (SourceStart session_id) = Down
after_failure (TargetStart session_id source) = Down
after_failure (Ready s) = Ready s
after_failure (Busy s phase) = Ready s

-- the follower of a result, or this follower after a failure
abbrev pub follower_of_result : Follower → Result Follower Fault → Follower
follower_of_result follower (Ok next) = next
follower_of_result follower (Err fault) = after_failure follower

-- the follower after an answer
abbrev pub after_answer : Follower → Answer → Follower
after_answer follower answer = follower_of_result follower (answer_result follower answer)
