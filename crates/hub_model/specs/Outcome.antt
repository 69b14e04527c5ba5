-- The results of storing documents one after the other: outcomes, and the journal after them (CouchDB API
-- reference, _bulk_docs).
use Rattle.std.specs.Prelude.{◌≡◌, ℕ, ◌≤◌, ◌<◌, List, [], ◌∷◌, ◌++◌, length, Bool, true, false, if◌then◌else◌}
use Rattle.std.specs.Prelude.{nat_le, unwrap_or}
use Rattle.hub_model.specs.declared.outcomes.Fault.{Fault}
use Rattle.hub_model.specs.declared.outcomes.Fault.TheVariants.{Deleted, Contradicts, SequenceFull}
use Rattle.hub_model.specs.declared.outcomes.Outcome.{Outcome}
use Rattle.hub_model.specs.declared.outcomes.Outcome.TheVariants.{Stored, Known, Refused}
use Rattle.hub_model.specs.Revision.{Revision}
use Rattle.hub_model.specs.Journal.{Edit, IsHead, IsKnown, IsAcceptable, head_of, is_head_known}
use Rattle.hub_model.specs.Journal.{is_acceptable}

-- the result of storing one document: its outcome, and the journal after it
pub record Stores : Type 0 where
  pub outcome : Outcome Revision
  pub journal : List Edit

-- the result of refusing a document: the journal stays
abbrev pub refusal_result : List Edit → Fault → Stores
refusal_result journal fault = record { outcome = Refused fault; journal = journal }

-- the result of adding an edit, which is refused where the journal has `limit` edits or more
abbrev pub addition_result : ℕ → List Edit → Edit → Stores
addition_result limit journal edit =
    if nat_le limit (length journal) then refusal_result journal SequenceFull
    else record {
      outcome = Stored (unwrap_or (head_of edit) (record { generation = 0; hash = [] }));
      journal = journal ++ edit ∷ [];
    }

-- The result of storing an edit with its history, as a replicator sends it (new_edits=false). After an edit
-- with the path 2-b 1-a the same edit is Known, and an edit with 3-w 2-b 1-q Contradicts (proved:
-- `WritesAnswer`).
abbrev pub merge_result : ℕ → List Edit → Edit → Stores
merge_result limit journal edit =
    if is_head_known journal edit.id edit.path then record { outcome = Known; journal = journal }
    else if is_acceptable journal edit then addition_result limit journal edit
    else refusal_result journal Contradicts

-- The same as a relation: after `journal` the edit may have this outcome and leave the journal `new`. Take an
-- edit with 3-w 2-b 1-a after an edit with the path 2-b 1-a. Its outcome may be Stored 3-w, or SequenceFull
-- where there is no room. An edit with 3-w 2-b 1-q may have the outcome Contradicts alone, and the journal
-- stays.
abbrev pub Takes : ℕ → List Edit → Edit → Outcome Revision → List Edit → Type 0
Takes limit journal edit (Stored revision) new =
    IsAcceptable journal edit × (length journal < limit) × (new ≡ journal ++ edit ∷ []) × IsHead edit revision
Takes limit journal edit Known new =
    (revision : Revision) × IsHead edit revision × IsKnown journal edit.id revision × (new ≡ journal)
Takes limit journal edit (Refused Contradicts) new =
    ((revision : Revision) → IsHead edit revision → ¬ IsKnown journal edit.id revision)
    × (¬ IsAcceptable journal edit) × (new ≡ journal)
Takes limit journal edit (Refused SequenceFull) new =
    IsAcceptable journal edit × (limit ≤ length journal) × (new ≡ journal)
Takes limit journal edit (Refused _) new = ⊥

-- storing edits one after the other, as a relation
abbrev pub TakesAll : ℕ → List Edit → List Edit → List (Outcome Revision) → List Edit → Type 0
TakesAll limit journal [] [] new = new ≡ journal
TakesAll limit journal [] (o ∷ os) new = ⊥
TakesAll limit journal (edit ∷ edits) [] new = ⊥
TakesAll limit journal (edit ∷ edits) (o ∷ os) new =
    (mid : List Edit) × Takes limit journal edit o mid × TakesAll limit mid edits os new

-- the result of storing several documents: their outcomes, and the journal after them
pub record StoresAll : Type 0 where
  pub outcomes : List (Outcome Revision)
  pub journal : List Edit

-- The result of storing documents one after the other, where `store` stores one and `deleted` says whether
-- the database was deleted. On a deleted database each of two documents is refused as Deleted, and the
-- journal stays (proved for one: `DeletionEnds`).
abbrev pub stores_all : {A : Type 0} → (List Edit → A → Stores) → Bool → List Edit → List A → StoresAll
stores_all store deleted journal [] = record { outcomes = []; journal = journal }
stores_all store true journal (x ∷ xs) =
    record { outcomes = Refused Deleted ∷ (stores_all store true journal xs).outcomes; journal = journal }
stores_all store false journal (x ∷ xs) =
    let here = store journal x in
    let rest = stores_all store false here.journal xs in
    record { outcomes = here.outcome ∷ rest.outcomes; journal = rest.journal }

-- The result of storing edits with their histories, one after the other. Of edits of one document with the
-- paths 2-b, 3-c, 3-c 2-b and 4-d 3-c 2-b all but the third are stored, and the third is Known (proved:
-- `LateIsStored`).
abbrev pub merges_all : ℕ → List Edit → List Edit → StoresAll
merges_all limit journal edits = stores_all (merge_result limit) false journal edits
