-- The effect of a write on a journal, on its receipts, and on the lists that fit feeds.
use Rattle.std.proofs.Common.{◌≡◌, ℕ, suc, ◌+◌, ◌<◌, List, [], ◌∷◌, ◌++◌, length, map, take, Bool}
use Rattle.std.proofs.Common.{true, false, ap, refl, sym, ◌∙◌, subst, inl, inr, append_assoc}
use Rattle.std.proofs.Common.{length-append, Option, Some, None, nat_eq, nat_le, option_map}
use Rattle.std.specs.Prelude.{All, slice_get, unwrap_or, if◌then◌else◌}
use Rattle.std.proofs.lemmas.Bool.{cases_Bool, and_parts}
use Rattle.std.proofs.lemmas.List.{append-nil}
use Rattle.hub_model.specs.Draft.{Draft, draft_result, draft_result_on, extended_path, new_revision, parent_of, generation_of}
use Rattle.hub_model.specs.Draft as draft
use Rattle.hub_model.specs.Entries.{entry_in}
use Rattle.hub_model.specs.Feed.{Feed, end, is_open}
use Rattle.hub_model.specs.Journal.{Edit, IsLegal, head_of, is_known, is_head_known, is_acceptable}
use Rattle.hub_model.specs.Leaves.{leaves_of}
use Rattle.hub_model.specs.Outcome.{Stores, StoresAll, addition_result, merge_result, stores_all}
use Rattle.hub_model.specs.Path.{is_history}
use Rattle.hub_model.specs.Revision.{Revision}
use Rattle.hub_model.specs.RightlyHanded.{ChangeItem, Fits}
use Rattle.hub_model.specs.RowKind.{change_rows}
use Rattle.hub_model.specs.declared.outcomes.Outcome.{Outcome}
use Rattle.hub_model.specs.declared.outcomes.Outcome.TheVariants.{Stored, Known, Refused}
use Rattle.hub_model.proofs.Fitting.{fits_grows, fits_close}
use Rattle.hub_document.specs.declared.doc.Doc.{Doc}
use Rattle.hub_database.specs.Database.{Database}
use Rattle.hub_database.specs.Edits.{stores_doc, draft_of, edit_of, docs_result}
use Rattle.hub_database.specs.Feeds.{deleted_database}
use Rattle.hub_feed.specs.Feeds.{ended_entry}
use Rattle.hub_database.specs.Handing.{IsFitting}
use Rattle.hub_database.specs.Hosting.{hosted_of}
use Rattle.hub_shared.specs.Label.{Label}
use Rattle.hub_shared.specs.Locked.{IsServed, AreSendersOf}
use Rattle.hub_database.specs.Receipts.{receipt_if, behind_reply, receipts_from, AreReceipts, AreAdded}
use Rattle.hub_database.specs.Receipts.{ids_of}
use Rattle.hub_database.specs.declared.receipt.Receipt.{Receipt}
use Rattle.hub_shared.proofs.Serving.{stays_served}

-- the effect on the journal of a document with this reply
abbrev pub StoredAs : List Edit → List ℕ → Outcome Revision → List Edit → Type 0
StoredAs journal id (Stored r) other_journal =
    (edit : Edit) × (other_journal ≡ journal ++ edit ∷ []) × (edit.id ≡ id) × (head_of edit ≡ Some r)
StoredAs journal id Known other_journal = other_journal ≡ journal
StoredAs journal id (Refused f) other_journal = other_journal ≡ journal

adds_stored : (limit : ℕ) (journal : List Edit) (edit : Edit) (revision : Revision)
    → head_of edit ≡ Some revision
    → StoredAs journal edit.id (addition_result limit journal edit).outcome (addition_result limit journal edit).journal
adds_stored limit journal edit revision is =
    elim (cases_Bool (nat_le limit (length journal))) [
      | inl t ↦ rw t refl
      | inr t ↦ rw t (
        edit,
        refl,
        refl,
        subst (λ (maybe_revision : Option Revision).
            maybe_revision ≡ Some (unwrap_or maybe_revision (record { generation = 0; hash = [] })))
            (sym is) refl,
      )
    ]

history_head : (path : List Revision) → is_history path ≡ true → (revision : Revision)
    × (slice_get path 0 ≡ Some revision)
history_head [] e = absurd (cc)
history_head (revision ∷ path) e = (revision, refl)

stored_if : (journal : List Edit) (id : List ℕ) (b : Bool) (stores other : Stores)
    → (b ≡ true → StoredAs journal id stores.outcome stores.journal)
    → (b ≡ false → StoredAs journal id other.outcome other.journal)
    → StoredAs journal id (if b then stores else other).outcome (if b then stores else other).journal
stored_if journal id true stores other p q = p refl
stored_if journal id false stores other p q = q refl

merge_stored : (limit : ℕ) (journal : List Edit) (edit : Edit)
    → StoredAs journal edit.id (merge_result limit journal edit).outcome (merge_result limit journal edit).journal
merge_stored limit journal edit =
    stored_if journal edit.id (is_head_known journal edit.id edit.path) _ _ (λ t. refl)
    (λ t. stored_if journal edit.id (is_acceptable journal edit) _ _
    (λ u. let h = history_head edit.path (and_parts _ _ u).0 in adds_stored limit journal edit h.0 h.1)
    (λ u. refl))

pub make_stored : (limit : ℕ) (journal : List Edit) (d : Draft)
    → StoredAs journal d.id (draft_result limit journal d).outcome (draft_result limit journal d).journal
make_stored limit journal d = from (extended_path journal d.id (leaves_of journal d.id) d.rev)
  where
    from : (o : Option (List Revision))
        → StoredAs journal d.id (draft_result_on limit journal d o).outcome (draft_result_on limit journal d o).journal
    from None = refl
    from (Some path) =
        stored_if journal d.id (nat_le 65535 (generation_of (parent_of path))) _ _ (λ t. refl)
        (λ t. stored_if journal d.id (is_known journal d.id (new_revision d (parent_of path))) _ _ (λ u. refl)
        (λ u. adds_stored limit journal (draft.edit_of d path) (new_revision d (parent_of path)) refl))

doc_stored : (new_edits : Bool) (limit : ℕ) (journal : List Edit) (doc : Doc)
    → StoredAs journal doc.id (stores_doc new_edits limit journal doc).outcome
    (stores_doc new_edits limit journal doc).journal
doc_stored true limit journal doc = make_stored limit journal (draft_of doc)
doc_stored false limit journal doc = merge_stored limit journal (edit_of doc)

-- the receipts of the edits after `other_journal`, and before them one document with this reply
one_more : (journal other_journal edits : List Edit) (id : List ℕ) (o : Outcome Revision)
    (ids : List (List ℕ))
    (os : List (Outcome Revision))
    → StoredAs journal id o other_journal
    → AreAdded other_journal edits (receipts_from (length other_journal) ids os)
    → AreAdded journal edits (receipt_if (length journal) id o
    ++ receipts_from (behind_reply (length journal) o) ids os)
one_more journal other_journal edits id (Stored r) ids os s a =
    let n : length other_journal ≡ length journal + 1 = ap length s.1 ∙ length-append journal (s.0 ∷ []) in (
      s.0 ∷ a.0,
      a.1 ∙ (ap (λ (others : List Edit). others ++ a.0) s.1 ∙ append_assoc journal (s.0 ∷ []) a.0),
      (refl, sym s.2, s.3, subst (λ (m : ℕ). AreReceipts m a.0 (receipts_from m ids os)) n a.2),
    )
one_more journal other_journal edits id Known ids os s a =
    subst (λ (others : List Edit). AreAdded others edits (receipts_from (length others) ids os)) s a
one_more journal other_journal edits id (Refused f) ids os s a =
    subst (λ (others : List Edit). AreAdded others edits (receipts_from (length others) ids os)) s a

deleted_stays : {A : Type 0} (store : List Edit → A → Stores) (journal : List Edit) (xs : List A)
    → (stores_all store true journal xs).journal ≡ journal
deleted_stays store journal [] = refl
deleted_stays store journal (x ∷ xs) = refl

all_added : {A : Type 0} (store : List Edit → A → Stores) (id_of : A → List ℕ)
    → ((journal : List Edit) (x : A)
    → StoredAs journal (id_of x) (store journal x).outcome (store journal x).journal)
    → (deleted : Bool) (journal : List Edit) (xs : List A)
    → AreAdded journal (stores_all store deleted journal xs).journal
    (receipts_from (length journal) (map id_of xs) (stores_all store deleted journal xs).outcomes)
all_added store id_of each true journal [] = ([], sym (append-nil journal), tt)
all_added store id_of each false journal [] = ([], sym (append-nil journal), tt)
all_added store id_of each true journal (x ∷ xs) =
    subst (λ (other_journal : List Edit).
    AreAdded journal other_journal
    (receipts_from (length journal) (map id_of xs) (stores_all store true journal xs).outcomes))
    (deleted_stays store journal xs) (all_added store id_of each true journal xs)
all_added store id_of each false journal (x ∷ xs) =
    let other_journal = (store journal x).journal in
    one_more journal other_journal (stores_all store false other_journal xs).journal (id_of x)
    (store journal x).outcome (map id_of xs)
    (stores_all store false other_journal xs).outcomes (each journal x)
    (all_added store id_of each false other_journal xs)

receipts_take : (n : ℕ) (docs : List Doc) (os : List (Outcome Revision))
    → receipts_from n (ids_of (take (length os) docs)) os ≡ receipts_from n (ids_of docs) os
receipts_take n [] [] = refl
receipts_take n [] (o ∷ os) = refl
receipts_take n (doc ∷ docs) [] = refl
receipts_take n (doc ∷ docs) (o ∷ os) =
    ap (λ rs. receipt_if n doc.id o ++ rs) (receipts_take (behind_reply n o) docs os)

-- the receipts of a write are those of the edits that it added
pub writes_added : (new_edits gone : Bool) (limit : ℕ) (journal other_journal : List Edit) (docs : List Doc)
    (os : List (Outcome Revision))
    → docs_result new_edits gone limit journal (take (length os) docs) ≡ record
    { outcomes = os; journal = other_journal }
    → AreAdded journal other_journal (receipts_from (length journal) (ids_of docs) os)
writes_added new_edits gone limit journal other_journal docs os is =
    let a =
    all_added (stores_doc new_edits limit) (λ (doc : Doc). doc.id) (doc_stored new_edits limit) gone journal
    (take (length os) docs) in
    subst (λ rs. AreAdded journal other_journal rs) (receipts_take (length journal) docs os)
    (subst (λ (s : StoresAll).
    AreAdded journal s.journal (receipts_from (length journal) (ids_of (take (length os) docs)) s.outcomes))
    is a)

-- the same for receipts that were made of copies of the ids
pub receipts_added : (new_edits gone : Bool) (limit : ℕ) (journal other_journal : List Edit) (docs : List Doc)
    (os : List (Outcome Revision))
    → docs_result new_edits gone limit journal (take (length os) docs) ≡ record
    { outcomes = os; journal = other_journal }
    → (n : ℕ) (ids : List (List ℕ)) (replies : List (Outcome Revision)) (receipts : List Receipt)
    → n ≡ length journal → ids ≡ ids_of docs → replies ≡ os → receipts ≡ receipts_from n ids replies
    → AreAdded journal other_journal receipts
receipts_added new_edits gone limit journal other_journal docs os is n ids replies receipts e f g numbered =
    subst (λ r. AreAdded journal other_journal r) (sym (numbered ∙ (λ k. receipts_from (e k) (f k) (g k))))
    (writes_added new_edits gone limit journal other_journal docs os is)

-- there are as many edits as receipts
pub as_many : (n : ℕ) (edits : List Edit) (receipts : List Receipt) → AreReceipts n edits receipts
    → length edits ≡ length receipts
as_many n [] [] a = refl
as_many n [] (receipt ∷ receipts) a = absurd a
as_many n (edit ∷ edits) [] a = absurd a
as_many n (edit ∷ edits) (receipt ∷ receipts) a = ap suc (as_many (n + 1) edits receipts a.3)

pub added_longer : (journal other_journal : List Edit) (receipts : List Receipt)
    → AreAdded journal other_journal receipts → length other_journal ≡ length journal + length receipts
added_longer journal other_journal receipts a =
    ap length a.1 ∙ (length-append journal a.0
    ∙ ap (λ n. length journal + n) (as_many (length journal) a.0 receipts a.2))

-- the lists that fit a feed of this database
abbrev FitsIn : Database → Feed → List ChangeItem → Type 0
FitsIn db feed items = IsFitting db.journal feed items

entry_ended : (n : ℕ) (feeds : List (ℕ × Feed))
    → entry_in n (map ended_entry feeds) ≡ option_map end (entry_in n feeds)
entry_ended n [] = refl
entry_ended n (p ∷ feeds) =
    elim (cases_Bool (nat_eq p.0 n)) [ inl t ↦ rw t refl | inr t ↦ rw t (entry_ended n feeds) ]

end_keeps : (feed : Feed) → ((end feed).params ≡ feed.params) × ((end feed).since ≡ feed.since)
end_keeps feed =
    elim (cases_Bool (is_open feed.status)) [ inl t ↦ rw t (refl, refl) | inr t ↦ rw t (refl, refl) ]

-- for outboxes of any kind
module _ {K : Type 0} (label : K → Label) (sent : K → List ChangeItem) where
  -- the senders stay those of the feeds where more edits come
  pub senders_stay : (old new : Database) (senders : List (ℕ × K))
      → IsLegal new.journal → ((edits : List Edit) × (new.journal ≡ old.journal ++ edits))
      → new.feeds ≡ old.feeds → new.next_feed ≡ old.next_feed
      → AreSendersOf label sent (FitsIn old) (hosted_of old) senders → AreSendersOf label sent (FitsIn new)
      (hosted_of new) senders
  senders_stay old new senders legal more same next d = record {
    rising = d.rising;
    given = subst (λ (n : ℕ). All (λ (p : ℕ × K). p.0 < n) senders) (sym next) d.given;
    each = λ n. subst (λ fs. IsServed label sent (FitsIn new) (entry_in n fs) (entry_in n senders)) (sym same)
        (stays_served label sent (FitsIn old) (FitsIn new) keeps (entry_in n old.feeds) (entry_in n senders)
        (d.each n));
  }
    where
      keeps : (feed : Feed) (items : List ChangeItem) → FitsIn old feed items → FitsIn new feed items
      keeps feed items h = record {
        legal = legal;
        fits =
            subst (λ (journal : List Edit). Fits change_rows journal feed items) (sym more.1)
            (fits_grows change_rows old.journal more.0 feed items h.fits);
      }

  -- the senders stay those of the feeds where every open feed is to end
  pub senders_end : (old : Database) (senders : List (ℕ × K))
      → AreSendersOf label sent (FitsIn old) (hosted_of old) senders
      → AreSendersOf label sent (FitsIn (deleted_database old)) (hosted_of (deleted_database old)) senders
  senders_end old senders d = record {
    rising = d.rising;
    given = d.given;
    each =
        λ n. subst (λ maybe_feed. IsServed label sent (FitsIn (deleted_database old)) maybe_feed (entry_in n senders))
        (sym (entry_ended n old.feeds)) (ends (entry_in n old.feeds) (entry_in n senders) (d.each n));
  }
    where
      ends : (maybe_feed : Option Feed) (s : Option (K)) → IsServed label sent (FitsIn old) maybe_feed s
          → IsServed label sent (FitsIn (deleted_database old)) (option_map end maybe_feed) s
      ends None None i = tt
      ends None (Some s) i = absurd i
      ends (Some f) None i = absurd i
      ends (Some f) (Some s) i = record {
        asks = i.asks ∙ sym (end_keeps f).0;
        begins = i.begins ∙ sym (end_keeps f).1;
        list = record {
          legal = i.list.legal;
          fits = fits_close change_rows old.journal f (sent s) i.list.fits;
        };
      }
