-- The look at a document's tree, and the storing of the edit in the journal.
use Rattle.std.proofs.Common.{◌≡◌, ℕ, List, [], ◌∷◌, ◌++◌, length, Bool, true, false}
use Rattle.std.proofs.Common.{ap, refl, sym, subst, ◌∙◌, ◌&&◌, not, ◌⊎◌, inl, inr}
use Rattle.std.specs.Prelude.{IfOk, IfErr, Option, Some, None, Result}
use Rattle.std.specs.Prelude.{Ok, Err, map, nat_le, unwrap_or, if◌then◌else◌}
use Rattle.std.specs.List.{list_all}
use Rattle.std.proofs.lemmas.Bool.{cases_Bool}
use Rattle.std.proofs.lemmas.List.Folds.{list_all-map}
use Rattle.hub_model.specs.Revision.{Revision}
use Rattle.hub_model.specs.Path.{is_consistent, is_history}
use Rattle.hub_model.specs.Journal.{Edit, IsKnown, IsAcceptable, IsLegal, edits_of}
use Rattle.hub_model.specs.Journal.{head_of, is_known, is_head_known, is_acceptable}
use Rattle.hub_model.specs.Leaves.{leaves_of}
use Rattle.hub_model.specs.Draft.{Draft, extended_path, new_revision, generation_of, parent_of, draft_result_on, draft_result}
use Rattle.hub_model.specs.Draft.{edit_of as draft_edit}
use Rattle.hub_model.specs.Outcome.{Stores, StoresAll, refusal_result, stores_all}
use Rattle.hub_model.specs.declared.outcomes.Fault.{Fault}
use Rattle.hub_model.specs.declared.outcomes.Fault.TheVariants as fault
use Rattle.hub_model.specs.declared.outcomes.Outcome.{Outcome}
use Rattle.hub_model.specs.declared.outcomes.Outcome.TheVariants as outcome
use Rattle.hub_model.proofs.Tests.{head_known_is, is_known_from, acceptable_is, is_acceptable_from}
use Rattle.hub_revtree.specs.Tree.{HasKnownHead, IsRevTree, nameless}
use Rattle.hub_revtree.specs.Extend.{draft, edit_on_path}
use Rattle.hub_revtree.specs.declared.fault.EditFault.TheVariants as edit_fault
use Rattle.hub_document.specs.declared.doc.Doc.{Doc}
use Rattle.hub_database.specs.declared.batch.DbFault.{DbFault}
use Rattle.hub_database.specs.declared.batch.DbFault.TheVariants as db_fault
use Rattle.hub_database.specs.Database.{Database}
use Rattle.hub_database.specs.Edits.{draft_of, one_draft_result, reply_of, stores_doc}
use Rattle.hub_database.specs.Filed.{edit_with_id}
use Rattle.hub_database.specs.Looked.{NeedsRoomFrom, stores_from, stores_edit, look_by, look_made}
use Rattle.hub_database.specs.Looked.{look_from, look_at, unless_full, outcome_of, journal_after}
use Rattle.hub_database.specs.declared.document.Incoming.{Incoming}
use Rattle.hub_database.specs.declared.document.Origin.{Origin}
use Rattle.hub_database.specs.declared.document.Origin.TheVariants.{Elsewhere, Here}
use Rattle.hub_database.specs.declared.document.Looked.{Looked}
use Rattle.hub_database.specs.declared.document.Looked.TheVariants.{Known, Refused, Ready}
use Rattle.hub_database.proofs.NamedLemmas.{known_named, extended_named}

-- the tests on a tree, from the result of its look
head_known : (edits : List Edit) (path : List Revision) → HasKnownHead edits path
    → is_head_known edits [] path ≡ true
head_known edits [] (r, i, k) = absurd i
head_known edits (revision ∷ path) (r, i, k) =
    is_known_from edits [] revision (subst (λ z. IsKnown edits [] z) (sym i) k)

head_new : (edits : List Edit) (path : List Revision) → ¬ HasKnownHead edits path
    → is_head_known edits [] path ≡ false
head_new edits path n = elim (cases_Bool (is_head_known edits [] path)) [
  | inl t ↦ absurd (n (head_known_is edits [] path t))
  | inr t ↦ t
]

not_acceptable : (edits : List Edit) (edit : Edit) → IsRevTree edits → ¬ IsAcceptable edits edit
    → is_acceptable edits edit ≡ false
not_acceptable edits edit tree n = elim (cases_Bool (is_acceptable edits edit)) [
  | inl t ↦ absurd (n (acceptable_is edits edit tree.legal t))
  | inr t ↦ t
]

-- a document's edits in the journal are those of its tree, with its id
module _ (journal : List Edit) (id : List ℕ) (edits : List Edit)
    (kept : edits_of journal id ≡ map (edit_with_id id) edits)
    (one : edits_of edits [] ≡ edits) where
  same_head : (path : List Revision) → is_head_known journal id path ≡ is_head_known edits [] path
  same_head [] = refl
  same_head (revision ∷ path) = known_named journal id edits kept one revision

  same_agrees : (path : List Revision)
      → list_all (λ (edit : Edit). is_consistent path edit.path) (edits_of journal id)
      ≡ list_all (λ (edit : Edit). is_consistent path edit.path) (edits_of edits [])
  same_agrees path =
      ap (λ es. list_all (λ (edit : Edit). is_consistent path edit.path) es) kept
      ∙ (list_all-map (λ (edit : Edit). is_consistent path edit.path) (edit_with_id id) edits
      ∙ sym (ap (λ es. list_all (λ (edit : Edit). is_consistent path edit.path) es) one))

  same_acceptable : (path : List Revision) (deleted : Bool) (body : List ℕ)
      → is_acceptable journal (edit_with_id id (nameless path deleted body))
      ≡ is_acceptable edits (nameless path deleted body)
  same_acceptable path deleted body =
      ap (λ b. is_history path &&
      (not b && list_all (λ (edit : Edit). is_consistent path edit.path) (edits_of journal id)))
      (same_head path)
      ∙ ap (λ b. is_history path && (not (is_head_known edits [] path) && b)) (same_agrees path)

  -- an edit that the tree can take may be stored in the journal
  pub acceptable_in : (edit : Edit) → IsLegal journal → edit.id ≡ [] → IsAcceptable edits edit
      → IsAcceptable journal (edit_with_id id edit)
  acceptable_in edit legal none ok =
      let same : nameless edit.path edit.deleted edit.body ≡ edit =
      ap (λ (i : List ℕ). record { id = i; path = edit.path; deleted = edit.deleted; body = edit.body })
      (sym none) in
      acceptable_is journal (edit_with_id id edit) legal
      (same_acceptable edit.path edit.deleted edit.body
      ∙ (ap (is_acceptable edits) same ∙ is_acceptable_from edits edit ok))

  -- an edit that takes memory on the tree takes it in the journal
  pub needs_in : (origin : Origin) (deleted : Bool) (body : List ℕ) → IsLegal journal
      → NeedsRoomFrom edits [] origin deleted body → NeedsRoomFrom journal id origin deleted body
  needs_in (Elsewhere path) deleted body legal ok = acceptable_in (nameless path deleted body) legal refl ok
  needs_in (Here rev) deleted body legal (path, on, low) =
      (path, extended_named journal id edits kept one rev ∙ on, low)

  -- an outcome with the journal after it, by the result of a look
  abbrev said : Looked → Stores
  said looked = record { outcome = outcome_of looked; journal = journal_after looked id journal }

  -- an edit is added where the journal is not full
  abbrev added : Bool → Edit → Stores
  added full edit =
      if full then refusal_result journal fault.SequenceFull
      else record {
        outcome = outcome.Stored (unwrap_or (head_of edit) (record { generation = 0; hash = [] }));
        journal = journal ++ edit ∷ [];
      }

  adds_by : (full : Bool) (edit : Edit) → added full (edit_with_id id edit) ≡ said (unless_full full (Ready edit))
  adds_by true edit = refl
  adds_by false edit = refl

  -- an edit with its history
  merged : (full known good : Bool) (edit : Edit)
      → (if known then record { outcome = outcome.Known; journal = journal }
      else if good then added full (edit_with_id id edit) else refusal_result journal fault.Contradicts)
      ≡ said (unless_full full (look_by edit known good))
  merged true true good edit = refl
  merged false true good edit = refl
  merged full false true edit = adds_by full edit
  merged true false false edit = refl
  merged false false false edit = refl

  -- an edit that is made here, on a path
  made_on : (full last known : Bool) (edit : Edit)
      → (if last then refusal_result journal fault.GenerationLimit
      else if known then refusal_result journal fault.Conflict else added full (edit_with_id id edit))
      ≡ said (unless_full full
      (look_made (if last then Err edit_fault.GenerationLimit
      else (if known then Err edit_fault.Conflict else Ok edit))))
  made_on true true known edit = refl
  made_on false true known edit = refl
  made_on true false true edit = refl
  made_on false false true edit = refl
  made_on full false false edit = adds_by full edit

  module _ (limit : ℕ) (full : Bool) (is : nat_le limit (length journal) ≡ full) where
    made_by : (d : Draft) → d.id ≡ id → (o : Option (List Revision))
        → draft_result_on limit journal d o ≡ said (unless_full full (look_made (edit_on_path edits d o)))
    made_by d this None = from full
      where
        from : (full : Bool) → refusal_result journal fault.Conflict ≡ said
            (unless_full full (Refused fault.Conflict))
        from true = refl
        from false = refl
    made_by d this (Some path) =
        ap (λ b. if nat_le 65535 (generation_of (parent_of path)) then refusal_result journal fault.GenerationLimit
        else if is_known journal d.id (new_revision d (parent_of path)) then refusal_result journal fault.Conflict
        else added b (draft_edit d path)) is
        ∙ (ap (λ i. if nat_le 65535 (generation_of (parent_of path)) then
        refusal_result journal fault.GenerationLimit
        else if is_known journal i (new_revision d (parent_of path)) then refusal_result journal fault.Conflict
        else added full (edit_with_id i (nameless (new_revision d (parent_of path) ∷ path) d.deleted d.body))) this
        ∙ (ap (λ b. if nat_le 65535 (generation_of (parent_of path)) then
        refusal_result journal fault.GenerationLimit
        else if b then refusal_result journal fault.Conflict
        else added full (edit_with_id id (nameless (new_revision d (parent_of path) ∷ path) d.deleted d.body)))
        (known_named journal id edits kept one (new_revision d (parent_of path)))
        ∙ made_on full
        (nat_le 65535 (generation_of (parent_of path))) (is_known edits [] (new_revision d (parent_of path)))
        (nameless (new_revision d (parent_of path) ∷ path) d.deleted d.body)))

    from_origin : (origin : Origin) (deleted : Bool) (body : List ℕ)
        → stores_from limit journal id origin deleted body
        ≡ said (unless_full full (look_from id edits origin deleted body))
    from_origin (Elsewhere path) deleted body =
        ap (λ b. if b then record { outcome = outcome.Known; journal = journal }
        else if is_acceptable journal (edit_with_id id (nameless path deleted body))
        then added (nat_le limit (length journal)) (edit_with_id id (nameless path deleted body))
        else refusal_result journal fault.Contradicts) (same_head path)
        ∙ (ap (λ b. if is_head_known edits [] path then record { outcome = outcome.Known; journal = journal }
        else if b then added (nat_le limit (length journal)) (edit_with_id id (nameless path deleted body))
        else refusal_result journal fault.Contradicts)
        (same_acceptable path deleted body)
        ∙ (ap (λ b. if is_head_known edits [] path then record { outcome = outcome.Known; journal = journal }
        else if is_acceptable edits (nameless path deleted body)
        then added b (edit_with_id id (nameless path deleted body))
        else refusal_result journal fault.Contradicts) is
        ∙ merged full (is_head_known edits [] path) (is_acceptable edits (nameless path deleted body))
        (nameless path deleted body)))
    from_origin (Here rev) deleted body =
        ap (draft_result_on limit journal (draft id rev deleted body)) (extended_named journal id edits kept one rev)
        ∙ made_by (draft id rev deleted body) refl (extended_path edits [] (leaves_of edits []) rev)

    -- storing an edit answers the outcome of the tree's look
    pub stores_by : (edit : Incoming) → stores_edit limit journal id edit ≡ record {
      outcome = outcome_of (unless_full full (look_at id edits edit));
      journal = journal_after (unless_full full (look_at id edits edit)) id journal;
    }
    stores_by edit = from_origin edit.origin edit.deleted edit.body

-- the look at an edit with its history
pub looks_known : (id : List ℕ) (edits : List Edit) (path : List Revision) (deleted : Bool) (body : List ℕ)
    → HasKnownHead edits path → Known ≡ look_from id edits (Elsewhere path) deleted body
looks_known id edits path deleted body h =
    sym (ap (λ b. look_by (nameless path deleted body) b (is_acceptable edits (nameless path deleted body)))
    (head_known edits path h))

pub looks_ready : (id : List ℕ) (edits : List Edit) (path : List Revision) (deleted : Bool)
    (body : List ℕ) (edit : Edit)
    → ¬ HasKnownHead edits path → edit ≡ nameless path deleted body → IsAcceptable edits edit
    → Ready edit ≡ look_from id edits (Elsewhere path) deleted body
looks_ready id edits path deleted body edit new same ok =
    ap Ready same
    ∙ sym (ap (λ b. look_by (nameless path deleted body) b (is_acceptable edits (nameless path deleted body)))
    (head_new edits path new)
    ∙ ap (look_by (nameless path deleted body) false)
    (is_acceptable_from edits (nameless path deleted body) (subst (IsAcceptable edits) same ok)))

pub looks_bad : (id : List ℕ) (edits : List Edit) (path : List Revision) (deleted : Bool) (body : List ℕ)
    → IsRevTree edits → ¬ HasKnownHead edits path → ¬ IsAcceptable edits (nameless path deleted body)
    → Refused fault.Contradicts ≡ look_from id edits (Elsewhere path) deleted body
looks_bad id edits path deleted body tree new bad =
    sym (ap (λ b. look_by (nameless path deleted body) b (is_acceptable edits (nameless path deleted body)))
    (head_new edits path new)
    ∙ ap (look_by (nameless path deleted body) false)
    (not_acceptable edits (nameless path deleted body) tree bad))

-- an edit that is made here is never known before
made_unknown : (limit : ℕ) (journal : List Edit) (draft : Draft) (other_journal : List Edit)
    → draft_result limit journal draft ≡ record { outcome = outcome.Known; journal = other_journal } → ⊥
made_unknown limit journal draft other_journal h =
    path_of (extended_path journal draft.id (leaves_of journal draft.id) draft.rev)
    (ap (λ (stores : Stores). stores.outcome) h)
  where
    from : (last known full : Bool) (edit : Edit)
        → (if last then refusal_result journal fault.GenerationLimit
        else if known then refusal_result journal fault.Conflict
        else if full then refusal_result journal fault.SequenceFull
        else record {
          outcome = outcome.Stored (unwrap_or (head_of edit) (record { generation = 0; hash = [] }));
          journal = journal ++ edit ∷ [];
        }).outcome
        ≡ outcome.Known
        → ⊥
    from true known full edit h = absurd (cc)
    from false true full edit h = absurd (cc)
    from false false true edit h = absurd (cc)
    from false false false edit h = absurd (cc)

    path_of : (o : Option (List Revision)) → (draft_result_on limit journal draft o).outcome ≡ outcome.Known → ⊥
    path_of None h = absurd (cc)
    path_of (Some path) h =
        from (nat_le 65535 (generation_of (parent_of path)))
        (is_known journal draft.id (new_revision draft (parent_of path)))
        (nat_le limit (length journal)) (draft_edit draft path) h

-- the answer to one edit that is made here
made_reply : (limit : ℕ) (journal : List Edit) (draft : Draft) (o : Outcome Revision)
    (other_journal : List Edit) → draft_result limit journal draft ≡ record { outcome = o; journal = other_journal }
    → IfOk (reply_of o) (λ r.
    draft_result limit journal draft ≡ record { outcome = outcome.Stored r; journal = other_journal })
    × IfErr (reply_of o) (λ edit. (other_journal ≡ journal)
    × ((edit ≡ db_fault.NoMemory)
    ⊎ ((f : Fault) × (edit ≡ db_fault.Refused f) × (draft_result limit journal draft ≡ refusal_result journal f))))
made_reply limit journal draft (outcome.Stored r) other_journal h = (h, tt)
made_reply limit journal draft outcome.Known other_journal h =
    absurd (made_unknown limit journal draft other_journal h)
made_reply limit journal draft (outcome.Refused f) other_journal h =
    let same : other_journal ≡ journal = refused_stays
    (extended_path journal draft.id (leaves_of journal draft.id) draft.rev) h in (
      tt,
      (
        same,
        inr (
          f,
          refl,
          h ∙ ap (λ (edits : List Edit). record { outcome = outcome.Refused f; journal = edits })
              same,
        ),
      ),
    )
  where
    from : (last known full : Bool) (edit : Edit)
        → (if last then refusal_result journal fault.GenerationLimit
        else if known then refusal_result journal fault.Conflict
        else if full then refusal_result journal fault.SequenceFull
        else record {
          outcome = outcome.Stored (unwrap_or (head_of edit) (record { generation = 0; hash = [] }));
          journal = journal ++ edit ∷ [];
        })
        ≡ record { outcome = outcome.Refused f; journal = other_journal }
        → other_journal ≡ journal
    from true known full edit h = sym (ap (λ (stores : Stores). stores.journal) h)
    from false true full edit h = sym (ap (λ (stores : Stores). stores.journal) h)
    from false false true edit h = sym (ap (λ (stores : Stores). stores.journal) h)
    from false false false edit h =
        let no : outcome.Stored (unwrap_or (head_of edit) (record { generation = 0; hash = [] }))
        ≡ outcome.Refused f =
        ap (λ (stores : Stores). stores.outcome) h in
        absurd (cc)

    refused_stays : (o : Option (List Revision))
        → draft_result_on limit journal draft o ≡ record { outcome = outcome.Refused f; journal = other_journal }
        → other_journal ≡ journal
    refused_stays None h = sym (ap (λ (stores : Stores). stores.journal) h)
    refused_stays (Some path) h =
        from (nat_le 65535 (generation_of (parent_of path)))
        (is_known journal draft.id (new_revision draft (parent_of path)))
        (nat_le limit (length journal)) (draft_edit draft path) h

-- the answer of a database that stands to one edit that is made here
pub one_reply : (old new : Database) (doc : Doc) (o : Outcome Revision) (r : Result Revision DbFault)
    → old.deleted ≡ false → r ≡ reply_of o
    → stores_doc true old.limits.journal old.journal doc ≡ record { outcome = o; journal = new.journal }
    → new ≡ record old { journal = new.journal }
    → IfOk r (λ rev. one_draft_result old.deleted old.limits.journal old.journal doc
    ≡ record { outcome = outcome.Stored rev; journal = new.journal })
    × IfErr r (λ e. (new ≡ old) × ((e ≡ db_fault.NoMemory)
    ⊎ ((f : Fault) × (e ≡ db_fault.Refused f)
    × (one_draft_result old.deleted old.limits.journal old.journal doc ≡ refusal_result old.journal f))))
one_reply old new doc o r stands is stored rest =
    let said = subst (λ (z : Result Revision DbFault). IfOk z (λ rev.
    draft_result old.limits.journal old.journal (draft_of doc)
    ≡ record { outcome = outcome.Stored rev; journal = new.journal })
    × IfErr z (λ e. (new.journal ≡ old.journal) × ((e ≡ db_fault.NoMemory)
    ⊎ ((f : Fault) × (e ≡ db_fault.Refused f)
    × (draft_result old.limits.journal old.journal (draft_of doc) ≡ refusal_result old.journal f)))))
    (sym is) (made_reply old.limits.journal old.journal (draft_of doc) o new.journal stored) in
    by r said.0 said.1
  where
    same : one_draft_result old.deleted old.limits.journal old.journal doc
        ≡ draft_result old.limits.journal old.journal (draft_of doc)
    same = ap (λ b. one_draft_result b old.limits.journal old.journal doc) stands

    stays : new.journal ≡ old.journal → new ≡ old
    stays e = rest ∙ ap (λ (edits : List Edit). record old { journal = edits }) e

    by : (z : Result Revision DbFault)
        → IfOk z (λ rev. draft_result old.limits.journal old.journal (draft_of doc)
        ≡ record { outcome = outcome.Stored rev; journal = new.journal })
        → IfErr z (λ e. (new.journal ≡ old.journal) × ((e ≡ db_fault.NoMemory)
        ⊎ ((f : Fault) × (e ≡ db_fault.Refused f)
        × (draft_result old.limits.journal old.journal (draft_of doc) ≡ refusal_result old.journal f))))
        → IfOk z (λ rev. one_draft_result old.deleted old.limits.journal old.journal doc
        ≡ record { outcome = outcome.Stored rev; journal = new.journal })
        × IfErr z (λ e. (new ≡ old) × ((e ≡ db_fault.NoMemory)
        ⊎ ((f : Fault) × (e ≡ db_fault.Refused f)
        × (one_draft_result old.deleted old.limits.journal old.journal doc ≡ refusal_result old.journal f))))
    by (Ok rev) stored none = (same ∙ stored, tt)
    by (Err e) none (still, inl want) = (tt, (stays still, inl want))
    by (Err e) none (still, inr (f, told, refused)) = (tt, (stays still, inr (f, told, same ∙ refused)))

-- one document more is stored after the others
module _ {A : Type 0} (store : List Edit → A → Stores) where
  all_push : (journal : List Edit) (xs : List A) (x : A)
      → stores_all store false journal (xs ++ x ∷ []) ≡ record {
        outcomes =
            (stores_all store false journal xs).outcomes
            ++ (store (stores_all store false journal xs).journal x).outcome ∷ [];
        journal = (store (stores_all store false journal xs).journal x).journal;
      }
  all_push journal [] x = refl
  all_push journal (y ∷ xs) x =
      ap (λ (s : StoresAll). record
      { outcomes = (store journal y).outcome ∷ s.outcomes; journal = s.journal })
      (all_push (store journal y).journal xs x)

  pub stores_more : (journal : List Edit) (xs : List A) (x : A) (os : List (Outcome Revision))
      (other_journal : List Edit)
      (o : Outcome Revision) (edits : List Edit)
      → stores_all store false journal xs ≡ record { outcomes = os; journal = other_journal }
      → store other_journal x ≡ record { outcome = o; journal = edits }
      → stores_all store false journal (xs ++ x ∷ []) ≡ record { outcomes = os ++ o ∷ []; journal = edits }
  stores_more journal xs x os other_journal o edits h k =
      all_push journal xs x
      ∙ (ap (λ (s : StoresAll). record {
        outcomes = s.outcomes ++ (store s.journal x).outcome ∷ [];
        journal = (store s.journal x).journal;
      }) h
      ∙ ap (λ (s : Stores). record { outcomes = os ++ s.outcome ∷ []; journal = s.journal }) k)
