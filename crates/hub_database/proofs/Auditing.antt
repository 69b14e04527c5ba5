-- The test of an audit, and that the receipts of a write pass it.
use Rattle.std.proofs.Common.{◌≡◌, ℕ, ◌+◌, ◌<◌, List, [], ◌∷◌, ◌++◌, length, take, true}
use Rattle.std.proofs.Common.{false, Option, Some, None, ap, refl, sym, ◌∙◌, subst, suc}
use Rattle.std.proofs.Common.{slice_index_or, append_assoc, length-append, arith}
use Rattle.std.specs.Prelude.{All, IfSome, slice_get, option_map, option_and_then}
use Rattle.std.specs.Bool.{Decides}
use Rattle.std.specs.Str.{bytes_eq}
use Rattle.std.proofs.lemmas.Bool.{and_parts, and_from}
use Rattle.std.proofs.lemmas.Bool.Decides.{not_from_Decides}
use Rattle.std.proofs.lemmas.List.Elements.{All-nil, All-cons, All-push}
use Rattle.std.proofs.lemmas.Option.{none-some, same_Some, slice_get_read}
use Rattle.std.proofs.Math.Seq.{take-suc}
use Rattle.std.proofs.lemmas.Slice.Eq.{bytes_eq-Decides}
use Rattle.hub_model.specs.Journal.{Edit, head_of}
use Rattle.hub_model.specs.Revision.{Revision, is_same}
use Rattle.hub_model.proofs.Tests.{same_is, same_self}
use Rattle.hub_database.specs.Reads.{entry_of}
use Rattle.hub_database.proofs.EntryLemmas.{at_sequence}
use Rattle.hub_database.specs.Receipts.{AreAdded, AreReceipts, AreRising, HasEdit, has_edit, is_entry_of}
use Rattle.hub_database.specs.declared.receipt.Receipt.{Receipt}

entry_told : (o : Option (List ℕ × Revision)) (receipt : Receipt)
    → Decides (is_entry_of o receipt) (o ≡ Some (receipt.id, receipt.rev))
entry_told None receipt = ((λ t. absurd (cc)), (λ e. absurd (none-some (receipt.id, receipt.rev) e)))
entry_told (Some entry) receipt = (
  (λ t.
      let p = and_parts (bytes_eq entry.0 receipt.id) (is_same entry.1 receipt.rev) t in
      let i = (bytes_eq-Decides entry.0 receipt.id).0 p.0 in
      let s = same_is entry.1 receipt.rev p.1 in
      λ k. Some (i k, s k)),
  (λ e. subst (λ (z : List ℕ × Revision). is_entry_of (Some z) receipt ≡ true)
      (sym (same_Some entry (receipt.id, receipt.rev) e)) (own receipt)),
)
  where
    own : (receipt : Receipt) → is_entry_of (Some (receipt.id, receipt.rev)) receipt ≡ true
    own receipt =
        and_from (bytes_eq receipt.id receipt.id) (is_same receipt.rev receipt.rev)
        ((bytes_eq-Decides receipt.id receipt.id).1 (λ k. receipt.id)) (same_self receipt.rev)

-- the test is true just where the journal has the edit
pub edit_told : (journal : List Edit) (receipt : Receipt)
    → Decides (has_edit journal receipt) (HasEdit journal receipt)
edit_told journal receipt = entry_told (entry_of journal receipt.seq) receipt

-- one receipt more was compared: the journal has its edit
pub one_more_stands : (journal : List Edit) (receipts : List Receipt) (at : ℕ) (receipt : Receipt)
    → at < length receipts
    → receipt ≡ slice_index_or receipts at receipt → has_edit journal receipt ≡ true
    → All (λ receipt. HasEdit journal receipt) (take at receipts)
    → All (λ receipt. HasEdit journal receipt) (take (at + 1) receipts)
one_more_stands journal receipts at receipt low is told before =
    let next : suc at ≡ at + 1 = omega arith in
    let longer : take (at + 1) receipts ≡ take at receipts ++ receipt ∷ [] =
    ap (λ n. take n receipts) (sym next)
    ∙ (take-suc receipts at receipt low ∙ ap (λ x. take at receipts ++ x ∷ []) (sym is)) in
    subst (λ l. All (λ receipt. HasEdit journal receipt) l) (sym longer)
    (All-push (λ receipt. HasEdit journal receipt) (take at receipts) receipt before
    ((edit_told journal receipt).0 told))

-- one receipt more was compared: the journal does not have its edit
pub one_is_wrong : (journal : List Edit) (receipts : List Receipt) (at : ℕ) (receipt : Receipt)
    → at < length receipts → receipt ≡ slice_index_or receipts at receipt → has_edit journal receipt ≡ false
    → IfSome (slice_get receipts at) (λ receipt. ¬ HasEdit journal receipt)
one_is_wrong journal receipts at receipt low is told =
    subst (λ o. IfSome o (λ receipt. ¬ HasEdit journal receipt))
    (sym (slice_get_read receipts (length receipts) at receipt refl low is))
    (not_from_Decides (has_edit journal receipt) (edit_told journal receipt) told)

edit_here : (journal edits : List Edit) (edit : Edit)
    → slice_get (journal ++ edit ∷ edits) (length journal) ≡ Some edit
edit_here [] edits edit = refl
edit_here (other ∷ journal) edits edit = edit_here journal edits edit

entry_here : (journal edits : List Edit) (edit : Edit) (revision : Revision) (n : ℕ) → n ≡ length journal + 1
    → head_of edit ≡ Some revision → entry_of (journal ++ edit ∷ edits) n ≡ Some (edit.id, revision)
entry_here journal edits edit revision n is head =
    ap (λ o. option_and_then (λ (edit : Edit). option_map (λ revision. (edit.id, revision)) (head_of edit)) o)
    (at_sequence (journal ++ edit ∷ edits) n (length journal) (omega (arith, is))
    ∙ edit_here journal edits edit) ∙ ap (λ o. option_map (λ revision. (edit.id, revision)) o) head

receipts_stand : (journal other_journal edits : List Edit) (receipts : List Receipt) → other_journal ≡ journal
    ++ edits → AreReceipts (length journal) edits receipts
    → All (λ receipt. HasEdit other_journal receipt) receipts
receipts_stand journal other_journal [] [] is a = All-nil (λ receipt. HasEdit other_journal receipt)
receipts_stand journal other_journal [] (receipt ∷ receipts) is a = absurd a
receipts_stand journal other_journal (edit ∷ edits) [] is a = absurd a
receipts_stand journal other_journal (edit ∷ edits) (receipt ∷ receipts) is a =
    All-cons (λ receipt. HasEdit other_journal receipt) receipt receipts
    (subst (λ (others : List Edit). entry_of others receipt.seq ≡ Some (receipt.id, receipt.rev)) (sym is)
    (entry_here journal edits edit receipt.rev receipt.seq a.0 a.2
    ∙ ap (λ i. Some (i, receipt.rev)) (sym a.1)))
    (receipts_stand (journal ++ edit ∷ []) other_journal edits receipts
    (is ∙ sym (append_assoc journal (edit ∷ []) edits))
    (subst (λ n. AreReceipts n edits receipts) (sym (length-append journal (edit ∷ []))) a.3))

receipts_rise : (n : ℕ) (edits : List Edit) (receipts : List Receipt) → AreReceipts n edits receipts
    → AreRising n receipts
receipts_rise n [] [] a = tt
receipts_rise n [] (receipt ∷ receipts) a = absurd a
receipts_rise n (edit ∷ edits) [] a = absurd a
receipts_rise n (edit ∷ edits) (receipt ∷ receipts) a = (
  omega (arith, a.0),
  subst (λ m. AreRising m receipts) (sym a.0)
      (receipts_rise (n + 1) edits receipts a.3),
)

-- the receipts of added edits stand in the journal
pub added_stand : (journal other_journal : List Edit) (receipts : List Receipt)
    → AreAdded journal other_journal receipts → All (λ r. HasEdit other_journal r) receipts
added_stand journal other_journal receipts a = receipts_stand journal other_journal a.0 receipts a.1 a.2

-- and the sequences of these receipts rise
pub added_rise : (journal other_journal : List Edit) (receipts : List Receipt)
    → AreAdded journal other_journal receipts → AreRising (length journal) receipts
added_rise journal other_journal receipts a = receipts_rise (length journal) a.0 receipts a.2
