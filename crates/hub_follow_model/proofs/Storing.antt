-- The effects of storing documents.
use Rattle.std.proofs.Common.{◌≡◌, ℕ, List, [], ◌∷◌, ◌++◌, Contains, ◌⊎◌, inl, inr, sym}
use Rattle.std.proofs.Common.{ap, ⊎_elim, ◌∙◌, subst, append_assoc, append-nil, None}
use Rattle.std.proofs.lemmas.List.Elements.{Contains-append_left, Contains-push, Contains-push_cases}
use Rattle.hub_follow_model.specs.Follower.{first_refusal}
use Rattle.hub_model.specs.Journal.{Edit, IsHead, IsKnown, IsLegal}
use Rattle.hub_model.specs.declared.outcomes.Fault.TheVariants.{Contradicts, SequenceFull}
use Rattle.hub_model.specs.declared.outcomes.Outcome.{Outcome}
use Rattle.hub_model.specs.declared.outcomes.Outcome.TheVariants.{Stored, Known, Refused}
use Rattle.hub_model.specs.Outcome.{Takes, TakesAll}
use Rattle.hub_model.specs.Revision.{Revision}
use Rattle.hub_follow_model.proofs.Bring.{IsCopy, AreCopies}
use Rattle.hub_model.proofs.Legal.{known_more, legal_more, first_in}
use Rattle.hub_model.proofs.Lists.{contains_none, contains_here, contains_there, contains_cases}
use Rattle.hub_follow_model.proofs.Paths.{first_same}
use Rattle.hub_follow_model.proofs.Hand.{InGot}

-- storing documents adds edits to a journal
pub stored_holds : (limit : ℕ) (journal : List Edit) (docs : List Edit)
    (outcomes : List (Outcome Revision)) (other_journal : List Edit)
    → TakesAll limit journal docs outcomes other_journal → (edits : List Edit)
    × (other_journal ≡ journal ++ edits)
stored_holds limit journal [] [] other_journal p = ([], p ∙ sym (append-nil journal))
stored_holds limit journal [] (o ∷ outcomes) other_journal p = absurd p
stored_holds limit journal (edit ∷ docs) [] other_journal p = absurd p
stored_holds limit journal (edit ∷ docs) (o ∷ outcomes) other_journal (mid, t, p) =
    both o t (stored_holds limit mid docs outcomes other_journal p)
  where
    both : (o : Outcome Revision) → Takes limit journal edit o mid
        → ((edits : List Edit) × (other_journal ≡ mid ++ edits))
        → (edits : List Edit) × (other_journal ≡ journal ++ edits)
    both (Stored r) t (edits, q) = (
      edit ∷ edits,
      q ∙ (ap (λ (others : List Edit). others ++ edits) t.2
          ∙ append_assoc journal (edit ∷ []) edits),
    )
    both Known t (edits, q) = (edits, q ∙ ap (λ (others : List Edit). others ++ edits) t.3)
    both (Refused Contradicts) t (edits, q) = (edits, q ∙ ap (λ (others : List Edit). others ++ edits) t.2)
    both (Refused SequenceFull) t (edits, q) = (edits, q ∙ ap (λ (others : List Edit). others ++ edits) t.2)
    both (Refused _) t (edits, q) = absurd t

pub stored_legal : (limit : ℕ) (journal : List Edit) (docs : List Edit)
    (outcomes : List (Outcome Revision)) (other_journal : List Edit)
    → TakesAll limit journal docs outcomes other_journal → IsLegal journal → IsLegal other_journal
stored_legal limit journal [] [] other_journal p h = subst IsLegal (sym p) h
stored_legal limit journal [] (o ∷ outcomes) other_journal p h = absurd p
stored_legal limit journal (edit ∷ docs) [] other_journal p h = absurd p
stored_legal limit journal (edit ∷ docs) (o ∷ outcomes) other_journal (mid, t, p) h =
    stored_legal limit mid docs outcomes other_journal p (both o t)
  where
    both : (o : Outcome Revision) → Takes limit journal edit o mid → IsLegal mid
    both (Stored r) t = subst IsLegal (sym t.2) (legal_more journal edit h t.0)
    both Known t = subst IsLegal (sym t.3) h
    both (Refused Contradicts) t = subst IsLegal (sym t.2) h
    both (Refused SequenceFull) t = subst IsLegal (sym t.2) h
    both (Refused _) t = absurd t

pub stored_copies : (edits : List Edit) (limit : ℕ) (journal : List Edit) (docs : List Edit)
    (outcomes : List (Outcome Revision)) (other_journal : List Edit)
    → TakesAll limit journal docs outcomes other_journal → AreCopies edits journal → AreCopies edits docs
    → AreCopies edits other_journal
stored_copies edits limit journal [] [] other_journal p h d = subst (AreCopies edits) (sym p) h
stored_copies edits limit journal [] (o ∷ outcomes) other_journal p h d = absurd p
stored_copies edits limit journal (edit ∷ docs) [] other_journal p h d = absurd p
stored_copies edits limit journal (edit ∷ docs) (o ∷ outcomes) other_journal (mid, t, p) h d =
    stored_copies edits limit mid docs outcomes other_journal p (both o t)
    (λ f c. d f (contains_there edit f docs c))
  where
    both : (o : Outcome Revision) → Takes limit journal edit o mid → AreCopies edits mid
    both (Stored r) t =
        subst (AreCopies edits) (sym t.2) (λ f c. ⊎_elim (λ v. h f v)
        (λ (v : edit ≡ f). subst (λ z. IsCopy edits z) v (d edit (contains_here edit docs)))
        (Contains-push_cases journal edit f c))
    both Known t = subst (AreCopies edits) (sym t.3) h
    both (Refused Contradicts) t = subst (AreCopies edits) (sym t.2) h
    both (Refused SequenceFull) t = subst (AreCopies edits) (sym t.2) h
    both (Refused _) t = absurd t

pub stored_known : (limit : ℕ) (journal : List Edit) (docs : List Edit)
    (outcomes : List (Outcome Revision)) (other_journal : List Edit)
    → TakesAll limit journal docs outcomes other_journal → first_refusal docs outcomes ≡ None
    → (id : List ℕ) (revision : Revision) → InGot docs id revision → IsKnown other_journal id revision
stored_known limit journal [] [] other_journal p q id revision g = absurd (contains_none g.0 g.1)
stored_known limit journal [] (o ∷ outcomes) other_journal p q id revision g = absurd p
stored_known limit journal (edit ∷ docs) [] other_journal p q id revision g = absurd p
stored_known limit journal (edit ∷ docs) (o ∷ outcomes) other_journal (mid, t, p) q id revision (f, c, n, i) =
    both (λ u d. stored_known limit mid docs outcomes other_journal p u id revision (f, d, n, i)) o t q
    (contains_cases edit f docs c)
  where
    rest : (other : Revision) → IsKnown mid id other → IsKnown other_journal id other
    rest other k =
        let s = stored_holds limit mid docs outcomes other_journal p in
        known_more other_journal mid id other
        (λ g v. subst (λ z. Contains z g) (sym s.1) (Contains-append_left mid s.0 g v)) k

    both : (first_refusal docs outcomes ≡ None → Contains docs f → IsKnown other_journal id revision)
        → (o : Outcome Revision)
        → Takes limit journal edit o mid → first_refusal (edit ∷ docs) (o ∷ outcomes) ≡ None → (edit ≡ f)
        ⊎ Contains docs f → IsKnown other_journal id revision
    both later (Stored other) t u (inl v) = rest revision (
      f,
      (
        subst (λ z. Contains z f) (sym t.2)
            (subst (λ z. Contains (journal ++ edit ∷ []) z) v (Contains-push journal edit)),
        n,
      ),
      first_in f.path revision i,
    )
    both later (Stored other) t u (inr d) = later u d
    both later Known t u (inl v) =
        rest revision
        (subst (λ z. IsKnown z id revision) (sym t.3)
        (subst (λ z. IsKnown journal z revision) (ap (λ (z : Edit). z.id) v ∙ n)
        (subst (λ z. IsKnown journal edit.id z)
        (first_same edit.path t.0 revision t.1 (subst (λ z. IsHead z revision) (sym v) i)) t.2)))
    both later Known t u (inr d) = later u d
    both later (Refused fault) t u w = absurd (cc)
