-- A legal journal that is stored edit by edit is rebuilt.
use Rattle.std.proofs.Common.{◌≡◌, ◌∙◌, ℕ, zero, suc, ◌+◌, ◌<◌, ◌≤◌, List, [], ◌∷◌, ◌++◌}
use Rattle.std.proofs.Common.{length, take, Bool, true, false, refl, sym, ap, subst, arith}
use Rattle.std.proofs.Common.{append_assoc, append-nil, length-append, Option, Some, None}
use Rattle.std.proofs.lemmas.Bool.{and_parts, lt-leb}
use Rattle.std.proofs.lemmas.List.{take_all}
use Rattle.std.proofs.lemmas.Option.{same_Some, none-some}
use Rattle.std.specs.Prelude.{slice_get, option_map, if◌then◌else◌, not}
use Rattle.hub_model.specs.declared.outcomes.Outcome.{Outcome}
use Rattle.hub_model.specs.Journal.{Edit, IsAcceptable, IsLegal, IsLegalAfter, is_head_known, is_acceptable}
use Rattle.hub_model.specs.Outcome.{Stores, StoresAll, merge_result, merges_all}
use Rattle.hub_model.specs.Revision.{Revision}
use Rattle.hub_model.specs.Path.{is_history}
use Rattle.hub_model.proofs.Tests.{not_true, is_acceptable_from}
use Rattle.hub_database.specs.Database.{Database}
use Rattle.hub_database.specs.Edits.{edit_of}
use Rattle.hub_database.specs.Reads.{doc_shown, entry_doc_of}
use Rattle.hub_document.specs.declared.doc.Doc.{Doc}
use Rattle.hub_document.specs.declared.limits.Limits.{Limits}
use Rattle.hub_document.specs.Profile.{IsProfile}
use Rattle.hub_follower.specs.Rebuilt.{IsRebuilt}

chosen_yes : {X : Type 0} (b : Bool) (x y : X) → b ≡ true → (if b then x else y) ≡ x
chosen_yes true x y e = refl
chosen_yes false x y e = absurd (cc)

chosen_no : {X : Type 0} (b : Bool) (x y : X) → b ≡ false → (if b then x else y) ≡ y
chosen_no true x y e = absurd (cc)
chosen_no false x y e = refl

-- the next edit of a legal journal is acceptable after those before it
next_acceptable : (before journal : List Edit) (n : ℕ) (edit : Edit) → IsLegalAfter before journal
    → slice_get journal n ≡ Some edit → IsAcceptable (before ++ take n journal) edit
next_acceptable before [] n edit h s = absurd (none-some edit s)
next_acceptable before (other ∷ journal) zero edit h s =
    subst (λ K. IsAcceptable K edit) (sym (append-nil before))
    (subst (λ z. IsAcceptable before z) (same_Some other edit s) h.0)
next_acceptable before (other ∷ journal) (suc n) edit h s =
    subst (λ K. IsAcceptable K edit) (append_assoc before (other ∷ []) (take n journal))
    (next_acceptable (before ++ other ∷ []) journal n edit h.1 s)

head_is_new : (other_journal : List Edit) (edit : Edit) → IsAcceptable other_journal edit
    → is_head_known other_journal edit.id edit.path ≡ false
head_is_new other_journal edit a =
    let p = and_parts (is_history edit.path) _ (is_acceptable_from other_journal edit a) in
    not_true (is_head_known other_journal edit.id edit.path)
    (and_parts (not (is_head_known other_journal edit.id edit.path)) _ p.1).0

-- an acceptable edit is stored where there is room
merged_next : (limit : ℕ) (other_journal : List Edit) (edit : Edit) → IsAcceptable other_journal edit
    → length other_journal < limit → (merge_result limit other_journal edit).journal ≡ other_journal ++ edit ∷ []
merged_next limit other_journal edit a room =
    ap (λ (stores : Stores). stores.journal)
    (chosen_no (is_head_known other_journal edit.id edit.path) _ _ (head_is_new other_journal edit a)
    ∙ (chosen_yes (is_acceptable other_journal edit) _ _ (is_acceptable_from other_journal edit a)
    ∙ chosen_no _ _ _ (lt-leb limit (length other_journal) room)))

take_next : (journal : List Edit) (n : ℕ) (edit : Edit) → slice_get journal n ≡ Some edit
    → take (suc n) journal ≡ take n journal ++ edit ∷ []
take_next [] n edit s = absurd (none-some edit s)
take_next (other ∷ journal) zero edit s = ap (λ z. z ∷ []) (same_Some other edit s)
take_next (other ∷ journal) (suc n) edit s = ap (λ z. other ∷ z) (take_next journal n edit s)

shown_edit : (maybe_edit : Option Edit) (doc : Doc) → Some doc ≡ option_map (doc_shown true) maybe_edit
    → maybe_edit ≡ Some (edit_of doc)
shown_edit None doc h = absurd (none-some doc (sym h))
shown_edit (Some edit) doc h = ap (λ z. Some (edit_of z)) (sym (same_Some doc (doc_shown true edit) h))

-- the edit of a sequence is that of the document that is shown of it
entry_edit : (journal : List Edit) (n seq : ℕ) (doc : Doc) → n + 1 ≡ seq → Some doc ≡ entry_doc_of journal seq
    → slice_get journal n ≡ Some (edit_of doc)
entry_edit journal n zero doc q h = absurd (omega (arith, q))
entry_edit journal n (suc k) doc q h =
    let same : k ≡ n = omega (arith, q) in
    subst (λ z. slice_get journal z ≡ Some (edit_of doc)) same (shown_edit (slice_get journal k) doc h)

-- a database without edits is a copy of the first ones of every journal
pub none_rebuilt : (journal : List Edit) (copy : Database) (limits : Limits) → IsLegal journal
    → length journal ≤ 4294967295
    → copy.journal ≡ [] → copy.deleted ≡ false → copy.limits ≡ limits → IsProfile limits
    → IsRebuilt journal copy
none_rebuilt journal copy limits legal few none stands same p =
    let most = p.journal in
    let own = ap (λ (z : Limits). z.journal) same in
    record {
      legal = legal;
      fits = omega (arith, few, most, own);
      stands = stands;
      first = none ∙ ap (λ (z : List Edit). take (length z) journal) (sym none);
    }

-- the next edit is stored in a copy of the edits before it
pub added : (journal : List Edit) (copy new : Database) (doc : Doc) (seq : ℕ)
    (outcomes : List (Outcome Revision))
    → IsRebuilt journal copy → length copy.journal + 1 ≡ seq → seq ≤ length journal
    → Some doc ≡ entry_doc_of journal seq → merges_all copy.limits.journal copy.journal (edit_of doc ∷ [])
    ≡ record { outcomes = outcomes; journal = new.journal }
    → new ≡ record copy { journal = new.journal }
    → IsRebuilt journal new × (length new.journal ≡ seq)
added journal copy new doc seq outcomes r q l h w s =
    let n = length copy.journal in
    let e = edit_of doc in
    let here = entry_edit journal n seq doc q h in
    let room : n < copy.limits.journal = omega (arith, r.fits, q, l) in
    let a : IsAcceptable copy.journal e =
    subst (λ K. IsAcceptable K e) (sym r.first) (next_acceptable [] journal n e r.legal here) in
    let grown : new.journal ≡ copy.journal ++ e ∷ [] =
    sym (ap (λ (z : StoresAll). z.journal) w) ∙ merged_next copy.limits.journal copy.journal e a room in
    let len : length new.journal ≡ suc n =
    ap length grown ∙ (length-append copy.journal (e ∷ []) ∙ omega arith) in
    let first : new.journal ≡ take (suc n) journal =
    grown ∙ (ap (λ K. K ++ e ∷ []) r.first ∙ sym (take_next journal n e here)) in (
      record {
        legal = r.legal;
        fits = subst (λ (z : Database). length journal ≤ z.limits.journal) (sym s) r.fits;
        stands = ap (λ (z : Database). z.deleted) s ∙ r.stands;
        first = first ∙ ap (λ k. take k journal) (sym len);
      },
      omega (arith, len, q),
    )

-- a front of the journal with as many edits as it has is the whole journal
pub whole_rebuilt : (journal : List Edit) (n : ℕ) → n ≡ length journal → take n journal ≡ journal
whole_rebuilt journal n e = take_all n journal (omega (arith, e))
