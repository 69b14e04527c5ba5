-- The documents that the answers of open_revs bring, one after the other.
use Rattle.std.proofs.Common.{◌≡◌, ◌∙◌, ℕ, ◌+◌, ◌<◌, List, [], ◌∷◌, ◌++◌, length, map, drop, get_or, refl}
use Rattle.std.proofs.Common.{sym, ap, arith, Result, Ok, Err, Some, None, append_assoc, append-nil}
use Rattle.hub_model.specs.Journal.{Edit}
use Rattle.hub_model.specs.Revision.{Revision}
use Rattle.hub_model.specs.declared.outcomes.Fault.{Fault as Refusal}
use Rattle.hub_model.specs.declared.outcomes.Outcome.{Outcome}
use Rattle.hub_model.specs.declared.outcomes.Outcome.TheVariants as outcome
use Rattle.std.proofs.lemmas.List.{drop_more}
use Rattle.hub_database.specs.Edits.{edit_of}
use Rattle.hub_database.specs.declared.answers.OpenRev.{OpenRev}
use Rattle.hub_database.specs.declared.answers.OpenRev.TheVariants.{Found, Missing}
use Rattle.hub_document.specs.declared.doc.Doc.{Doc}
use Rattle.hub_follow_model.specs.Follower as follow
use Rattle.hub_follower.specs.Views.{found_edit}

pub map_push : {X Y : Type 0} (f : X → Y) (xs : List X) (x : X) → map f (xs ++ x ∷ []) ≡ map f xs ++ f x ∷ []
map_push f [] x = refl
map_push f (y ∷ xs) x = ap (λ z. f y ∷ z) (map_push f xs x)

-- the documents in hand, and then those that the answer has, or the first revision that is missing
abbrev pub opens : List ℕ → List Revision → List OpenRev → List Doc → Result (List Doc) follow.Fault
opens id revs [] got = Ok got
opens id [] (rev ∷ found) got = Err follow.PeerFault
opens id (revision ∷ revs) (Found doc ∷ found) got = opens id revs found (got ++ doc ∷ [])
opens id (revision ∷ revs) (Missing x ∷ found) got = Err (follow.MissingRevision id revision)

-- where no revision is missing, these documents are those in hand and then those of the answer
pub opens_ok : (id : List ℕ) (revs : List Revision) (found : List OpenRev) (got docs : List Doc)
    → length found ≡ length revs → opens id revs found got ≡ Ok docs
    → (edits : List Edit) × (follow.all_documents id revs (map found_edit found) ≡ Ok edits)
    × (map edit_of docs ≡ map edit_of got ++ edits)
opens_ok id [] [] got docs n e =
    let same : got ≡ docs = cc in
    ([], refl, ap (λ z. map edit_of z) (sym same) ∙ sym (append-nil (map edit_of got)))
opens_ok id (revision ∷ revs) [] got docs n e = absurd (omega arith)
opens_ok id [] (rev ∷ found) got docs n e = absurd (omega arith)
opens_ok id (revision ∷ revs) (Missing x ∷ found) got docs n e = absurd (cc)
opens_ok id (revision ∷ revs) (Found doc ∷ found) got docs n e =
    let (edits, rev, m) = opens_ok id revs found (got ++ doc ∷ []) docs (omega arith) e in (
      edit_of doc ∷ edits,
      ap (follow.with_document id revision (Some (edit_of doc))) rev,
      m
          ∙ (ap (λ z. z ++ edits) (map_push edit_of got doc)
          ∙ append_assoc (map edit_of got) (edit_of doc ∷ []) edits),
    )

-- where a revision is missing, the fault is that of the answer
pub opens_err : (id : List ℕ) (revs : List Revision) (found : List OpenRev)
    (got : List Doc) (fault : follow.Fault)
    → length found ≡ length revs → opens id revs found got ≡ Err fault
    → follow.all_documents id revs (map found_edit found) ≡ Err fault
opens_err id revs [] got fault n e = absurd (cc)
opens_err id [] (o ∷ found) got fault n e = absurd (omega arith)
opens_err id (revision ∷ revs) (Missing x ∷ found) got fault n e =
    at (follow.all_documents id revs (map found_edit found)) e
  where
    at : (o : Result (List Edit) follow.Fault)
        → opens id (revision ∷ revs) (Missing x ∷ found) got ≡ Err fault
        → follow.with_document id revision None o ≡ Err fault
    at (Ok es) e = cc
    at (Err g) e = cc
opens_err id (revision ∷ revs) (Found doc ∷ found) got fault n e =
    ap (follow.with_document id revision (Some (edit_of doc)))
    (opens_err id revs found (got ++ doc ∷ []) fault (omega arith) e)

-- at the end of the answer the documents are those in hand
pub opens_end : (id : List ℕ) (revs : List Revision) (found : List OpenRev) (got : List Doc) → found ≡ []
    → opens id revs found got ≡ Ok got
opens_end id revs found got e = ap (λ z. opens id revs z got) e

-- a document that is not refused is passed over
pub refused_later : (outcomes : List (Outcome Revision)) (at : ℕ) (d : Outcome Revision)
    (edit : Edit) (docs : List Edit)
    → at < length outcomes → ((refusal : Refusal) → get_or outcomes at d ≡ outcome.Refused refusal → ⊥)
    → follow.first_refusal (edit ∷ docs) (drop at outcomes) ≡ follow.first_refusal docs
    (drop (at + 1) outcomes)
refused_later outcomes at d edit docs below n =
    ap (λ z. follow.first_refusal (edit ∷ docs) z) (drop_more outcomes at d below)
    ∙ by (get_or outcomes at d) n
  where
    by : (o : Outcome Revision) → ((refusal : Refusal) → o ≡ outcome.Refused refusal → ⊥)
        → follow.first_refusal (edit ∷ docs) (o ∷ drop (at + 1) outcomes)
        ≡ follow.first_refusal docs (drop (at + 1) outcomes)
    by (outcome.Stored r) n = refl
    by outcome.Known n = refl
    by (outcome.Refused refusal) n = absurd (n refusal refl)

pub none_left : {X : Type 0} (xs : List X) → length xs ≡ 0 → xs ≡ []
none_left [] e = refl
none_left (x ∷ xs) e = absurd (omega arith)
