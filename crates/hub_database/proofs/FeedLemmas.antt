-- The changes of a write, the items that a feed of a database gives, and its place among the feeds.
use Rattle.std.proofs.Common.{◌≡◌, ℕ, ◌≤◌, List, [], ◌∷◌, ◌++◌, length}
use Rattle.std.proofs.Common.{Bool, true, false, ap, refl, sym, subst, ◌∙◌}
use Rattle.std.proofs.Common.{◌<◌, arith, get_or, inl, inr, nat_le, take}
use Rattle.std.specs.Prelude.{Option, Some, None, option_and_then, position, replicate, unwrap_or}
use Rattle.std.specs.Prelude.{if◌then◌else◌}
use Rattle.std.specs.List.{position_or_len}
use Rattle.std.proofs.lemmas.Bool.{cases_Bool}
use Rattle.std.proofs.lemmas.List.{length-append, length-map, length_push, length-replicate}
use Rattle.std.proofs.lemmas.Option.{slice_get_read}
use Rattle.std.proofs.Math.Seq.{get_or-append_seam, take-append_seam, take-length}
use Rattle.hub_model.specs.Current.{Current, current}
use Rattle.hub_model.specs.Entries.{entry_in, is_of, with_change}
use Rattle.hub_model.specs.Draft.{Draft, parent_of, generation_of, new_revision, edit_of, extended_path, draft_result_on}
use Rattle.hub_model.specs.Feed.{Feed, Due, DueRow, DueEnd, DueNothing, DueGone, next_due}
use Rattle.hub_model.specs.Journal.{Edit, head_of, is_head_known, is_acceptable, is_known}
use Rattle.hub_model.specs.Leaves.{leaves_of}
use Rattle.hub_model.specs.Outcome.{Stores, StoresAll, refusal_result, addition_result, merge_result, stores_all}
use Rattle.hub_model.specs.Revision.{Revision}
use Rattle.hub_model.specs.declared.outcomes.Fault.TheVariants as fault
use Rattle.hub_model.specs.declared.outcomes.Outcome.{Outcome}
use Rattle.hub_model.specs.declared.outcomes.Outcome.TheVariants as outcome
use Rattle.hub_model.specs.Hand.{next_change, item_of_due}
use Rattle.hub_model.specs.Row.{ChangeRow, row_of}
use Rattle.hub_model.specs.declared.feeds.Item.{Item}
use Rattle.hub_feed.specs.Host.{next_if_any, next_of_number, item_of_number}
use Rattle.hub_feed.specs.Next.{next_of_due}
use Rattle.hub_feed.specs.declared.next.Next.TheVariants.{Give}
use Rattle.hub_document.specs.declared.doc.Doc.{Doc}
use Rattle.hub_database.specs.Database.{Database}
use Rattle.hub_database.specs.Edits.{IsBatch, NeedsRoom, draft_of, stores_doc, docs_result}
use Rattle.hub_database.specs.Edits as edits
use Rattle.hub_database.specs.Hosting.{hosted_of}
use Rattle.hub_database.specs.declared.batch.Batch.{Batch}

-- a write takes no edit away
adds_grow : (limit : ℕ) (journal : List Edit) (edit : Edit)
    → length journal ≤ length (addition_result limit journal edit).journal
adds_grow limit journal edit = from (nat_le limit (length journal))
  where
    from : (b : Bool)
        → length journal ≤ length (if b then refusal_result journal fault.SequenceFull
        else record {
          outcome = outcome.Stored (unwrap_or (head_of edit) (record { generation = 0; hash = [] }));
          journal = journal ++ edit ∷ [];
        }).journal
    from true = omega arith
    from false = omega (arith, length_push journal edit)

merges_grow : (limit : ℕ) (journal : List Edit) (edit : Edit)
    → length journal ≤ length (merge_result limit journal edit).journal
merges_grow limit journal edit = from (is_head_known journal edit.id edit.path) (is_acceptable journal edit)
  where
    from : (known acceptable : Bool)
        → length journal ≤ length (if known then record { outcome = outcome.Known; journal = journal }
        else if acceptable then addition_result limit journal edit else refusal_result journal fault.Contradicts).journal
    from true acceptable = omega arith
    from false true = adds_grow limit journal edit
    from false false = omega arith

makes_grow : (limit : ℕ) (journal : List Edit) (draft : Draft) (o : Option (List Revision))
    → length journal ≤ length (draft_result_on limit journal draft o).journal
makes_grow limit journal draft None = omega arith
makes_grow limit journal draft (Some path) =
    from (nat_le 65535 (generation_of (parent_of path)))
    (is_known journal draft.id (new_revision draft (parent_of path)))
  where
    from : (last known : Bool)
        → length journal ≤ length (if last then refusal_result journal fault.GenerationLimit
        else if known then refusal_result journal fault.Conflict else
        addition_result limit journal (edit_of draft path)).journal
    from true known = omega arith
    from false true = omega arith
    from false false = adds_grow limit journal (edit_of draft path)

pub write_grows : (new_edits : Bool) (limit : ℕ) (journal : List Edit) (doc : Doc) (o : Outcome Revision)
    (other_journal : List Edit)
    → stores_doc new_edits limit journal doc ≡ record { outcome = o; journal = other_journal }
    → length journal ≤ length other_journal
write_grows new_edits limit journal doc o other_journal h =
    subst (λ (stores : Stores). length journal ≤ length stores.journal) h (from new_edits)
  where
    from : (b : Bool) → length journal ≤ length (stores_doc b limit journal doc).journal
    from true =
        makes_grow limit journal (draft_of doc) (extended_path journal doc.id (leaves_of journal doc.id) doc.rev)
    from false = merges_grow limit journal (edits.edit_of doc)

-- a deleted database refuses each document
pub all_refused : {A : Type 0} (store : List Edit → A → Stores) (journal : List Edit) (xs : List A)
    → stores_all store true journal xs
    ≡ record { outcomes = replicate (length xs) (outcome.Refused fault.Deleted); journal = journal }
all_refused store journal [] = refl
all_refused store journal (x ∷ xs) =
    ap (λ (s : StoresAll). record
    { outcomes = outcome.Refused fault.Deleted ∷ s.outcomes; journal = journal })
    (all_refused store journal xs)

pub refused_batch : (new_edits deleted : Bool) (limit : ℕ) (journal : List Edit) (docs : List Doc) (n : ℕ)
    (batch : Batch) → deleted ≡ true → n ≡ length docs
    → (batch.replies ≡ replicate n (outcome.Refused fault.Deleted)) × (batch.stopped ≡ false)
    → IsBatch new_edits deleted limit journal journal docs batch
refused_batch new_edits deleted limit journal docs n batch t e is =
    let many = length-replicate {A = Outcome Revision} n (outcome.Refused fault.Deleted) in
    record {
      ok = rw (t, is.0, many, e, take-length docs) (all_refused (stores_doc new_edits limit) journal docs);
      whole = λ s. ap length is.0 ∙ (many ∙ e);
      stopped = λ s. let no : true ≡ false = sym s ∙ is.1 in absurd (cc);
      stops = λ s. let no : true ≡ false = sym s ∙ is.1 in absurd (cc);
    }

-- a batch stops at a document that needs room, after the documents that have their replies
pub stopped_batch : (new_edits : Bool) (limit : ℕ) (before now after : List Edit) (docs stored : List Doc)
    (doc : Doc) (rest : List Doc) (replies : List (Outcome Revision))
    → docs_result new_edits false limit before stored ≡ record { outcomes = replies; journal = now }
    → stored ++ doc ∷ rest ≡ docs → length replies ≡ length stored → after ≡ now
    → NeedsRoom new_edits now doc
    → IsBatch new_edits false limit before after docs (record { replies = replies; stopped = true })
stopped_batch new_edits limit before now after docs stored doc rest replies all are many stays needs =
    record {
      ok =
          ap (λ n. docs_result new_edits false limit before (take n docs)) many
          ∙ (ap (λ (list : List Doc). docs_result new_edits false limit before (take (length stored) list))
          (sym are)
          ∙ (ap (docs_result new_edits false limit before) (take-append_seam stored (doc ∷ rest))
          ∙ (all ∙ ap (λ (edits : List Edit). record { outcomes = replies; journal = edits }) (sym stays))));
      whole = λ s. absurd (cc);
      stopped = λ s. few;
      stops = λ s. record {
        stands = refl;
        doc = doc;
        there =
            slice_get_read docs (length docs) (length replies) doc refl few
            (sym (ap (λ n. get_or docs n doc) many
            ∙ (ap (λ (list : List Doc). get_or list (length stored) doc) (sym are)
            ∙ get_or-append_seam stored doc rest doc)));
        needs = subst (λ (edits : List Edit). NeedsRoom new_edits edits doc) (sym stays) needs;
      };
    }
  where
    few : length replies < length docs
    few = omega (arith, many, sym (ap length are), length-append stored (doc ∷ rest))

item_given : (show : Current → ChangeRow) (rows : List Current) (due : Due) (item : Item ChangeRow)
    → Give item ≡ next_of_due show rows due → item_of_due show rows due ≡ Some item
item_given show rows (DueRow c) item e = cc
item_given show rows (DueEnd last_seq) item e = cc
item_given show rows DueNothing item e = absurd (cc)
item_given show rows DueGone item e = absurd (cc)

-- an item that a feed gives is due to the feed, and may be accepted
pub gives_due : (db : Database) (id : ℕ) (item : Item ChangeRow) → Give item ≡ next_of_number (hosted_of db) id
    → item_of_number (hosted_of db) id ≡ Some item
gives_due db id item e = from (entry_in id db.feeds) e
  where
    from : (maybe_feed : Option Feed) → Give item ≡ next_if_any (hosted_of db) maybe_feed
        → option_and_then (next_change db.journal) maybe_feed ≡ Some item
    from None e = absurd (cc)
    from (Some f) e =
        item_given (row_of db.journal f.params.style f.params.include_docs) (current db.journal)
        (next_due (current db.journal) f) item e

-- A change of an entry moves no entry. Where entry 3 stands at place 1, it stands there after a change at 5.
search_same : {A : Type 0} (id number : ℕ) (change : A → A) (entries : List (ℕ × A))
    → position_or_len (is_of number) entries ≡ position_or_len (is_of number) (with_change id change entries)
search_same id number change [] = refl
search_same id number change (p ∷ entries) =
    elim (cases_Bool (is_of id p)) [
      | inl t ↦ rw (t, search_same id number change entries) refl
      | inr t ↦ rw (t, search_same id number change entries) refl
    ]

pub same_place : {A : Type 0} (id number : ℕ) (change : A → A) (entries : List (ℕ × A))
    → position (is_of number) entries ≡ position (is_of number) (with_change id change entries)
same_place id number change entries =
    rw (
      search_same id number change entries,
      length-map entries (λ p.
          if is_of id p then (p.0, change p.1) else p),
    ) refl
